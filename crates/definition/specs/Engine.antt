-- The three calls: create, step and re-entry. Assumes nothing.
use Rattle.std.specs.Prelude.{Option, None, Some, ℕ, true, false, [], ◌∷◌}
use Rattle.notation.specs.Rows.{◌⇒◌∣◌}
use Rattle.definition.specs.Types.{Told, Call, Settings, Record, Place, Outcome, Answer, Step, Created}
use Rattle.definition.specs.Next.{Next, to, misfit}
use Rattle.definition.specs.Answers.{W, S, F, H, R, finish_number, handover_number}
use Rattle.definition.specs.Actions.{Issue, nothing, none, places}
use Rattle.definition.specs.SourcePort.{negotiation_awaits}
use Rattle.definition.specs.States.{standing, after}
use Rattle.definition.specs.Entering.{arrive, remaining, written, begun}
use Rattle.definition.specs.Refusals.{sound, bad_event, re_entry, uncreatable}

-- "Answers: W waiting; S.e stopped by protocol error e; F finished; H handover"
abbrev pub answer : Place → Answer
answer (Place.Waiting s) = W
answer (Place.Negotiating w q) = W
answer (Place.Stopped e) = S e
answer (Place.HandedOver h) = H (handover_number h)
answer (Place.Finished f) = F (finish_number f)

-- What a record that came to a place issues: what it then awaits
abbrev pub issues : Record → Place → Issue
issues r (Place.Waiting s) = (standing r s).issues
issues r (Place.Negotiating w q) = (negotiation_awaits w q).issues
issues r (Place.Stopped e) = nothing
issues r (Place.HandedOver h) = nothing
issues r (Place.Finished f) = nothing

-- "Each runs on to the next awaited call, and yields the record, an answer and at most two actions": the place says the answer and the actions
unfoldable pub tell : Record → Step
tell r = record { «record» = r; answer = answer r.place; remaining = None; actions = places (issues r r.place) }

-- The same, and these attempts remain
abbrev pub with_remaining : Option ℕ → Step → Step
with_remaining n s = record { «record» = s.«record»; answer = s.answer; remaining = n; actions = s.actions }

-- Coming to a place, and what is told there
abbrev pub come : Record → Place → Step
come r p = with_remaining (remaining r p) (tell (arrive r p))

-- "Each returns its number, no action and the old record"
abbrev pub refuse : {A : Type 0} → ℕ → A → Told A
refuse n r = record { «record» = r; answer = R n; remaining = None; actions = none ∷ none ∷ [] }

-- An outcome or a target that does not fit is refused with this number
abbrev pub settle : ℕ → Record → Next → Step
settle n r (to w p) = come (written w r) p
settle n r misfit = refuse n r

abbrev pub resume : Record → Place → Outcome → Step
resume r (Place.Waiting s) o = settle 5 r (bad_event o ⇒ misfit ∣ after r s o)
resume r (Place.Negotiating w q) o = settle 5 r ((negotiation_awaits w q).then o)
resume r (Place.Stopped e) o = refuse 4 r
resume r (Place.HandedOver h) o = refuse 4 r
resume r (Place.Finished f) o = refuse 2 r

-- "Order for step: R1, R2, R4, R5"
unfoldable pub step : Record → Outcome → Step
step r o = sound r ⇒ resume r r.place o ∣ refuse 1 r

abbrev pub go_back : Record → Place → ℕ → ℕ → Step
go_back r (Place.Waiting s) t b = refuse 3 r
go_back r (Place.Negotiating w q) t b = refuse 3 r
go_back r (Place.Stopped e) t b = settle 6 r (re_entry false r.mode t b)
go_back r (Place.HandedOver h) t b = settle 6 r (re_entry true r.mode t b)
go_back r (Place.Finished f) t b = refuse 2 r

-- "for re-entry: R1, R2, R3, R6"
unfoldable pub re_enter : Record → ℕ → ℕ → Step
re_enter r t b = sound r ⇒ go_back r r.place t b ∣ refuse 1 r

-- Either of the two
unfoldable pub take : Record → Call → Step
take r (Call.Outcome o) = step r o
take r (Call.ReEntry t b) = re_enter r t b

-- "create returns no record"
abbrev pub not_created : ℕ → Created
not_created n = refuse n None

abbrev pub created : Step → Created
created s = record { «record» = Some s.«record»; answer = s.answer; remaining = s.remaining; actions = s.actions }

unfoldable pub create : Settings → Created
create s = uncreatable s ⇒ not_created 7 ∣ created (tell (begun s))
