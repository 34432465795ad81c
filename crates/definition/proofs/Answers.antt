-- Every answer has the paper's letter and number: R and the number of the row that refuses, else those of the place. Assumes nothing.
use Prim.Native.Nat.{ℕ}
use mathlib.Core.Path.{◌≡◌, refl, sym}
use mathlib.Core.Bool.{Bool, true, false}
use Rattle.notation.specs.Rows.{◌⇒◌∣◌, ◌is◌}
use Rattle.definition.specs.Types.{Call, Created, Outcome, Place, Record, Settings, State, Step}
use Rattle.definition.specs.Next.{Next, to, misfit}
use Rattle.definition.specs.SourcePort.{negotiation_awaits}
use Rattle.definition.specs.States.{await_of, after}
use Rattle.definition.specs.Entering.{arrive, written, blank, begun, first_wait}
use Rattle.definition.specs.Refusals.{sound, bad_event, re_entry, uncreatable}
use Rattle.definition.specs.Engine.{tell, refuse, settle, resume, step, go_back, re_enter, take, create, created, not_created}
use Rattle.definition.specs.Paper.{refusal, Answers, AnswersCreation, take_refusal, create_refusal}
use Rattle.definition.proofs.Said.{finish_said, handover_said}
use Rattle.definition.proofs.Refusals.{step_refused, re_entry_refused, create_refused}

-- A step that tells where it came to, or refuses with a number other than 0
spoken : (r : Record) (p : Place) → r.place ≡ p → Answers (refusal (tell r).answer) (tell r)
unfolding tell
spoken r (Place.Waiting s) e = rw e (record { by_letter = refl; by_number = refl })
spoken r (Place.Negotiating w q) e = rw e (record { by_letter = refl; by_number = refl })
spoken r (Place.Stopped x) e = rw e (record { by_letter = refl; by_number = refl })
spoken r (Place.HandedOver x) e = rw (e, handover_said x) (record { by_letter = refl; by_number = refl })
spoken r (Place.Finished x) e = rw (e, finish_said x) (record { by_letter = refl; by_number = refl })

refused : (n : ℕ) (r : Record) → n is 0 ≡ false → Answers n (refuse n r)
refused n r h = record { by_letter = rw h refl; by_number = rw h refl }

Spoken : Step → Type 0
Spoken s = Answers (refusal s.answer) s

settled : (n : ℕ) (r : Record) (x : Next) → n is 0 ≡ false → Spoken (settle n r x)
unfolding Spoken
settled n r (to w p) h =
    let told : Spoken (tell (arrive (written w r) p)) = spoken (arrive (written w r) p) _ refl in
    record { by_letter = told.by_letter; by_number = told.by_number }
settled n r misfit h = refused n r h

resumed : (r : Record) (p : Place) (o : Outcome) → Spoken (resume r p o)
unfolding Spoken
resumed r (Place.Waiting s) o = settled 5 r (bad_event o ⇒ misfit ∣ after r s o) refl
resumed r (Place.Negotiating w q) o = settled 5 r ((negotiation_awaits w q).then o) refl
resumed r (Place.Stopped e) o = refused 4 r refl
resumed r (Place.HandedOver h) o = refused 4 r refl
resumed r (Place.Finished f) o = refused 2 r refl

gone_back : (r : Record) (p : Place) (t b : ℕ) → Spoken (go_back r p t b)
unfolding Spoken
gone_back r (Place.Waiting s) t b = refused 3 r refl
gone_back r (Place.Negotiating w q) t b = refused 3 r refl
gone_back r (Place.Stopped e) t b = settled 6 r (re_entry false r.mode t b) refl
gone_back r (Place.HandedOver h) t b = settled 6 r (re_entry true r.mode t b) refl
gone_back r (Place.Finished f) t b = refused 2 r refl

past_r1 : (b : Bool) (r : Record) (s : Step) → Spoken s → Spoken (b ⇒ s ∣ refuse 1 r)
unfolding Spoken
past_r1 true r s h = h
past_r1 false r s h = refused 1 r refl

taken : (r : Record) (c : Call) → Spoken (take r c)
unfolding take step re_enter
taken r (Call.Outcome o) = past_r1 (sound r) r (resume r r.place o) (resumed r r.place o)
taken r (Call.ReEntry t b) = past_r1 (sound r) r (go_back r r.place t b) (gone_back r r.place t b)

-- "a definition gives this paper's number and values for each case. The promises use that definition"
pub answered : (r : Record) (c : Call) → Answers (take_refusal r c) (take r c)
unfolding take Spoken
answered r (Call.Outcome o) = rw (sym (step_refused r o)) (taken r (Call.Outcome o))
answered r (Call.ReEntry t b) = rw (sym (re_entry_refused r t b)) (taken r (Call.ReEntry t b))

begun_spoken : (s : Settings) (swapped : Bool) → (let c : Created = created (tell (arrive (blank s) (Place.Waiting (State.Startup (first_wait swapped))))) in
    AnswersCreation (refusal c.answer) c)
unfolding tell await_of
begun_spoken s true = record { by_letter = refl; by_number = refl }
begun_spoken s false = record { by_letter = refl; by_number = refl }

creation_spoken : (u : Bool) (s : Settings) → (let c : Created = (u ⇒ not_created 7 ∣ created (tell (begun s))) in AnswersCreation (refusal c.answer) c)
creation_spoken true s = record { by_letter = refl; by_number = refl }
creation_spoken false s = begun_spoken s s.role_swapped

pub creation_answered : (s : Settings) → AnswersCreation (create_refusal s) (create s)
unfolding create
creation_answered s = rw (sym (create_refused s)) (creation_spoken (uncreatable s) s)
