-- On the log of a run the reader never answers TooMany: "no count passes its limit", and a limit is a number of 8 bits. Assumes nothing.
use Rattle.std.proofs.Common.{ℕ, ◌≤◌, ◌<◌, arith, ◌≡◌, sym, ◌∙◌, Bool, true, false, List, eqb, leb, le-leb}
use Rattle.notation.specs.Rows.{◌⇒◌∣◌, ◌is◌}
use Rattle.model.specs.declared.outcome.Call.{Call}
use Rattle.model.specs.declared.outcome.Outcome.{Outcome}
use Rattle.model.specs.declared.place.Place.{Place}
use Rattle.model.specs.declared.record.Action.{Action}
use Rattle.definition.specs.Types.{Created}
use Rattle.model.specs.declared.record.Record.{Record}
use Rattle.model.specs.declared.record.Settings.{Settings}
use Rattle.definition.specs.Types.{Step}
use Rattle.definition.specs.Next.{Next, to, misfit}
use Rattle.definition.specs.Actions.{protocol_reset, Issue, nothing, just, reset_then, places}
use Rattle.definition.specs.SourcePort.{negotiation_awaits}
use Rattle.definition.specs.States.{after}
use Rattle.definition.specs.Entering.{arrive, written, begun}
use Rattle.definition.specs.Refusals.{sound, bad_event, re_entry, uncreatable}
use Rattle.definition.specs.Engine.{issues, tell, settle, resume, step, go_back, re_enter, create, created, not_created}
use Rattle.definition.specs.Paper.{refusal}
use Rattle.definition.specs.Log as log
use Rattle.definition.specs.Log.{Log, empty, ◌▸◌, creation, outcome, action, hard_count, caps_count}
use Rattle.definition.specs.Runs.{issued, Run, running, made, Calls, call, run}
use Rattle.definition.specs.Runs as runs
use Rattle.definition.specs.Promised.{Promised}
use Rattle.definition.proofs.Kept.{Holds}
use Rattle.definition.proofs.Runs.{HeldRun, every_run_of_the_engine, every_run_held, own_promises, the_run}
use Rattle.log_reader.specs.declared.entries.Entry.{Entry}
use Rattle.std.specs.Prelude.{Ok}
use Rattle.log_reader.specs.declared.entries.Reading.{Reading}
use Rattle.log_reader.specs.Reading as reading
use Rattle.log_reader.specs.Reading.{held, too_many, reading_of}
use Rattle.log_reader.proofs.Whole.{read_whole}

-- An entry of the log, as it is handed to `read`
abbrev pub handed : log.Entry → Entry
handed (creation s) = Entry.Creation s
handed (outcome o) = Entry.Outcome o
handed (log.re_entry t b) = Entry.ReEntry t b
handed (action a) = Entry.Action a

-- Each entry, read after those before it, gives what the rules read, and is not TooMany
abbrev pub Readable : Log → Type 0
Readable empty = Unit
Readable (l ▸ e) = Readable l × (held (reading.after (reading_of l) (handed e)) ≡ Ok (reading_of (l ▸ e)))

-- Both counts are numbers of 8 bits
Counted : Log → Type 0
Counted l = (hard_count l ≤ 255) × (caps_count l ≤ 255)

read_handed : (l : Log) (e : log.Entry) → reading.after (reading_of l) (handed e) ≡ reading_of (l ▸ e)
read_handed l (creation s) = read_whole l (Entry.Creation s)
read_handed l (outcome o) = read_whole l (Entry.Outcome o)
read_handed l (log.re_entry t b) = read_whole l (Entry.ReEntry t b)
read_handed l (action a) = read_whole l (Entry.Action a)

chosen : (a b : Bool) (r : Reading) → a ≡ true → b ≡ true → (a ⇒ (b ⇒ Ok r ∣ too_many) ∣ too_many) ≡ Ok r
chosen a b r h k = rw (h, k)

fits : (r : Reading) → r.hard ≤ 255 → r.caps ≤ 255 → held r ≡ Ok r
unfolding held
fits r h k = chosen (leb r.hard 255) (leb r.caps 255) r (le-leb r.hard 255 h) (le-leb r.caps 255 k)

one_more : (l : Log) (e : log.Entry) → Readable l → Counted (l ▸ e) → Readable (l ▸ e)
unfolding Counted
one_more l e h c = (h, rw (read_handed l e) (fits (reading_of (l ▸ e)) c.0 c.1))

-- The actions of a call, in the middle of which the reader may stand: the reset before the awaited one counts nothing
Ends : List Action → Type 0
Ends xs = (l : Log) → Readable l → Counted l → Counted (issued l xs) → Readable (issued l xs)

last : (b : Bool) (l : Log) (a : Action) → Readable l → Counted (b ⇒ l ∣ l ▸ action a) → Readable (b ⇒ l ∣ l ▸ action a)
last true l a h c = h
last false l a h c = one_more l (action a) h c

ends : (i : Issue) → Ends (places i)
unfolding Ends Counted hard_count caps_count
ends nothing l h c d = h
ends (just a) l h c d = last (eqb a.number 0) l a h d
ends (reset_then a) l h c d = last (eqb a.number 0) (l ▸ action protocol_reset) a (one_more l (action protocol_reset) h c) d

told : (r : Record) → Ends (tell r).actions
unfolding tell
told r = ends (issues r r.place)

settled : (n : ℕ) (r : Record) (x : Next) → Ends (settle n r x).actions
settled n r (to w p) = told (arrive (written w r) p)
settled n r misfit = ends nothing

resumed : (r : Record) (p : Place) (o : Outcome) → Ends (resume r p o).actions
resumed r (Place.Waiting s) o = settled 5 r (bad_event o ⇒ misfit ∣ after r s o)
resumed r (Place.Negotiating w q) o = settled 5 r ((negotiation_awaits w q).then o)
resumed r (Place.Stopped e) o = ends nothing
resumed r (Place.HandedOver h) o = ends nothing
resumed r (Place.Finished f) o = ends nothing

went_back : (r : Record) (p : Place) (t b : ℕ) → Ends (go_back r p t b).actions
went_back r (Place.Waiting s) t b = ends nothing
went_back r (Place.Negotiating w q) t b = ends nothing
went_back r (Place.Stopped e) t b = settled 6 r (re_entry false r.mode t b)
went_back r (Place.HandedOver h) t b = settled 6 r (re_entry true r.mode t b)
went_back r (Place.Finished f) t b = ends nothing

either : (b : Bool) (x y : Step) → Ends x.actions → Ends y.actions → Ends (b ⇒ x ∣ y).actions
either true x y h k = h
either false x y h k = k

stepped : (r : Record) (o : Outcome) → Ends (step r o).actions
unfolding step
stepped r o = either (sound r) _ _ (resumed r r.place o) (ends nothing)

re_entered : (r : Record) (t b : ℕ) → Ends (re_enter r t b).actions
unfolding re_enter
re_entered r t b = either (sound r) _ _ (went_back r r.place t b) (ends nothing)

-- The counts are those that the record stores, and its types hold them
Within : Run → Type 0
Within runs.nothing = Unit
Within (running r l) = Counted l

at_most : (n v : ℕ) → n ≡ v → v < 256 → n ≤ 255
at_most n v e h = omega arith

within : (x : Run) → Holds x → HeldRun x → Within x
unfolding Within Counted
within runs.nothing k h = tt
within (running r l) k h = (at_most (hard_count l) _ k.hard_read h.hard.0, at_most (caps_count l) _ k.caps_read h.caps.0)

-- Each entry of a run, a call's own and its actions included
Reads : Run → Type 0
Reads runs.nothing = Unit
Reads (running r l) = Readable l

reads_call : (l : Log) (e : log.Entry) (s : Step) (b : Bool) → Readable l → Counted l → Counted (l ▸ e) → Ends s.actions
    → Within (b ⇒ running s.«record» (issued (l ▸ e) s.actions) ∣ running s.«record» l)
    → Reads (b ⇒ running s.«record» (issued (l ▸ e) s.actions) ∣ running s.«record» l)
unfolding Within Reads Ends
reads_call l e s true h c d n w = n (l ▸ e) (one_more l e h d) d w
reads_call l e s false h c d n w = h

reads_then : (x : Run) (c : Call) → Reads x → Within x → Within (call create step re_enter x c) → Reads (call create step re_enter x c)
unfolding Reads Within Counted hard_count caps_count
reads_then runs.nothing c h k w = tt
reads_then (running r l) (Call.Outcome o) h k w = reads_call l (outcome o) (step r o) (refusal (step r o).answer is 0) h k k (stepped r o) w
reads_then (running r l) (Call.ReEntry t b) h k w = reads_call l (log.re_entry t b) (re_enter r t b) (refusal (re_enter r t b).answer is 0) h k k
    (re_entered r t b) w

abbrev creation_of : Bool → Settings → Created
creation_of refused s = refused ⇒ not_created 7 ∣ created (tell (begun s))

abbrev made_of : Bool → Settings → Run
made_of refused s = made (issued (empty ▸ creation s) (creation_of refused s).actions) (creation_of refused s).«record»

reads_made : (s : Settings) (refused : Bool) → Within (made_of refused s) → Reads (made_of refused s)
unfolding Reads Within Ends Counted hard_count caps_count
reads_made s true w = tt
reads_made s false w = told (begun s) (empty ▸ creation s) (one_more empty (creation s) tt zero_zero) zero_zero w
  where
    zero_zero : Counted (empty ▸ creation s)
    zero_zero = (omega arith, omega arith)

within_run : (cs : Calls) → Within (run create step re_enter cs)
within_run cs = within (run create step re_enter cs) (every_run_of_the_engine cs) (every_run_held create step re_enter own_promises cs)

reads : (cs : Calls) → Reads (run create step re_enter cs)
unfolding run create
reads (runs.create s h) = reads_made s (uncreatable s) (within_run (runs.create s h))
reads (runs.then cs c h) = reads_then (run create step re_enter cs) c (reads cs) (within_run cs) (within_run (runs.then cs c h))

-- The log of a run through any three functions that keep the promises is read to its end: at no entry, in the middle of a call neither, is the
-- reader's answer TooMany
pub never_too_many : (creates : Settings → Created) (steps : Record → Outcome → Step) (re_enters : Record → ℕ → ℕ → Step)
    → Promised creates steps re_enters → (cs : Calls) (r : Record) (l : Log) → run creates steps re_enters cs ≡ running r l → Readable l
unfolding Reads
never_too_many creates steps re_enters keeps cs r l e = rw (sym (the_run creates steps re_enters keeps cs) ∙ e) at (reads cs)
