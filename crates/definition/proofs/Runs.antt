-- Every run, read afresh from its log (demand 3). Assumes nothing.
use Prim.Native.Nat.{ℕ, ◌≤◌}
use mathlib.Core.Path.{◌≡◌, refl, ap, sym, ◌∙◌}
use mathlib.Core.Bool.{Bool, true, false}
use lib.Dec.{ltb}
use borrow.Author.Tests.{leb-true}
use Rattle.notation.specs.Rows.{◌⇒◌∣◌, ◌is◌}
use Rattle.definition.specs.Types.{Settings, Call, Created, Outcome, Record, Step}
use Rattle.definition.specs.Entering.{begun}
use Rattle.definition.specs.Refusals.{sound, counted, uncreatable}
use Rattle.definition.specs.Engine.{tell, step, re_enter, take, create, created, not_created}
use Rattle.definition.specs.Paper.{refusal}
use Rattle.definition.specs.Promised.{Promised}
use Rattle.definition.specs.Held.{HeldSettings, HeldRecord, HeldCall}
use Rattle.definition.specs.Log as log
use Rattle.definition.specs.Log.{Entry, creation, outcome, Log, empty, ◌▸◌, contract, hard_count, caps_count}
use Rattle.definition.specs.Log.{Supplied}
use Rattle.definition.specs.Runs.{issued, Run, running, made, called, Calls, call, run, History, told, Promises}
use Rattle.definition.specs.Runs as runs
use Rattle.definition.proofs.Laws.{and_right}
use Rattle.definition.proofs.Sound.{parts_sound}
use Rattle.definition.proofs.Arriving.{Kept}
use Rattle.definition.proofs.Kept.{Holds, step_keeps, re_entry_keeps, create_keeps}
use Rattle.definition.proofs.Held.{step_held, re_entry_held, begun_held}

-- What the types hold
abbrev pub HeldRun : Run → Type 0
HeldRun runs.nothing = Unit
HeldRun (running r l) = HeldRecord r

either_way : (l : Log) (e : Entry) (s : Step) → HeldRecord s.«record» → HeldRun (called l e s)
either_way l e s h = chosen (refusal s.answer is 0)
  where
    chosen : (b : Bool) → HeldRun (b ⇒ running s.«record» (issued (l ▸ e) s.actions) ∣ running s.«record» l)
    chosen true = h
    chosen false = h

creates_held : (u : Bool) (l : Log) (s : Settings) → HeldSettings s → HeldRun (made l (u ⇒ not_created 7 ∣ created (tell (begun s))).«record»)
unfolding tell
creates_held true l s h = tt
creates_held false l s h = begun_held s h

create_held : (s : Settings) → HeldSettings s → HeldRun (made (issued (empty ▸ creation s) (create s).actions) (create s).«record»)
unfolding create
create_held s h = creates_held (uncreatable s) _ s h

-- Every run, through any three functions that keep the promises
module _ (creates : Settings → Created) (steps : Record → Outcome → Step) (re_enters : Record → ℕ → ℕ → Step) (keeps : Promised creates steps re_enters) where
  called_keeps : (x : Run) (c : Call) → HeldCall c → Holds x → HeldRun x → Holds (call creates steps re_enters x c)
  called_keeps runs.nothing c j h k = tt
  called_keeps (running r l) (Call.Outcome o) j h k = rw (keeps.on_step r o k j) (step_keeps r l o h)
  called_keeps (running r l) (Call.ReEntry t b) j h k = rw (keeps.on_re_entry r t b k j.0 j.1) (re_entry_keeps r l t b h)

  called_held : (x : Run) (c : Call) → HeldCall c → HeldRun x → HeldRun (call creates steps re_enters x c)
  called_held runs.nothing c j k = tt
  called_held (running r l) (Call.Outcome o) j k = rw (keeps.on_step r o k j) (either_way l (outcome o) (step r o) (step_held r o k j))
  called_held (running r l) (Call.ReEntry t b) j k =
      rw (keeps.on_re_entry r t b k j.0 j.1) (either_way l (log.re_entry t b) (re_enter r t b) (re_entry_held r t b k))

  -- What is handed in and what comes back stays within what the types hold
  pub every_run_held : (cs : Calls) → HeldRun (run creates steps re_enters cs)
  unfolding run
  every_run_held (runs.create s h) = rw (keeps.on_create s h) (create_held s h)
  every_run_held (runs.then cs c h) = called_held (run creates steps re_enters cs) c h (every_run_held cs)

  pub every_run : (cs : Calls) → Holds (run creates steps re_enters cs)
  unfolding run
  every_run (runs.create s h) = rw (keeps.on_create s h) (create_keeps s)
  every_run (runs.then cs c h) = called_keeps (run creates steps re_enters cs) c h (every_run cs) (every_run_held cs)

  -- A run of functions that keep the promises is the run of the definition's
  called_same : (x : Run) (c : Call) → HeldCall c → HeldRun x → call creates steps re_enters x c ≡ call create step re_enter x c
  called_same runs.nothing c j k = refl
  called_same (running r l) (Call.Outcome o) j k = ap (called l (outcome o)) (keeps.on_step r o k j)
  called_same (running r l) (Call.ReEntry t b) j k = ap (called l (log.re_entry t b)) (keeps.on_re_entry r t b k j.0 j.1)

  pub the_run : (cs : Calls) → run creates steps re_enters cs ≡ run create step re_enter cs
  unfolding run
  the_run (runs.create s h) = rw (keeps.on_create s h) refl
  the_run (runs.then cs c h) =
      called_same (run creates steps re_enters cs) c h (every_run_held cs) ∙ ap (λ x. call create step re_enter x c) (the_run cs)

  -- What holds where a run has come to this record and this log
  at_each_point : (cs : Calls) (r : Record) (l : Log) → run creates steps re_enters cs ≡ running r l → Kept r l
  at_each_point cs r l e = rw e at (every_run cs)

  -- "At each point the stored contract and both counts equal those read afresh from the whole log"
  pub contract_read_afresh : (cs : Calls) (r : Record) (l : Log) → run creates steps re_enters cs ≡ running r l → r.contract ≡ contract l
  contract_read_afresh cs r l e = sym (at_each_point cs r l e).contract_read

  pub hard_count_read_afresh : (cs : Calls) (r : Record) (l : Log) → run creates steps re_enters cs ≡ running r l
      → r.hard_reset_counter.value ≡ hard_count l
  hard_count_read_afresh cs r l e = sym (at_each_point cs r l e).hard_read

  pub caps_count_read_afresh : (cs : Calls) (r : Record) (l : Log) → run creates steps re_enters cs ≡ running r l → r.caps_counter.value ≡ caps_count l
  caps_count_read_afresh cs r l e = sym (at_each_point cs r l e).caps_read

  -- "No count passes its limit"
  pub hard_count_within_limit : (cs : Calls) (r : Record) (l : Log) → run creates steps re_enters cs ≡ running r l
      → r.hard_reset_counter.value ≤ r.hard_reset_counter.max_value
  unfolding counted
  hard_count_within_limit cs r l e = leb-true _ _ (and_right (ltb 0 r.hard_reset_counter.max_value) _ (at_each_point cs r l e).r1_accepts.hard)

  pub caps_count_within_limit : (cs : Calls) (r : Record) (l : Log) → run creates steps re_enters cs ≡ running r l
      → r.caps_counter.value ≤ r.caps_counter.max_value
  unfolding counted
  caps_count_within_limit cs r l e = leb-true _ _ (and_right (ltb 0 r.caps_counter.max_value) _ (at_each_point cs r l e).r1_accepts.caps)

  -- R1 is never given on a record of a run
  pub r1_never_given : (cs : Calls) (r : Record) (l : Log) → run creates steps re_enters cs ≡ running r l → sound r ≡ true
  r1_never_given cs r l e = parts_sound r (at_each_point cs r l e).r1_accepts

  -- "A supply moves to a request only if it is the sink's latest, Unknown retyped by its lookup, and the last evaluation accepted it"
  pub supply_moves_to_latest_accepted : (cs : Calls) (r : Record) (l : Log) → run creates steps re_enters cs ≡ running r l → Supplied l
  supply_moves_to_latest_accepted cs r l e = (at_each_point cs r l e).vouched

-- The engine with an invented count, of either kind: it does not keep the promises
pub no_invented_count : (creates : Settings → Created) (steps : Record → Outcome → Step) (re_enters : Record → ℕ → ℕ → Step) (cs : Calls) (r : Record)
    (l : Log) → run creates steps re_enters cs ≡ running r l
    → ((r.hard_reset_counter.value ≡ hard_count l) × (r.caps_counter.value ≡ caps_count l) → ⊥) → Promised creates steps re_enters → ⊥
no_invented_count creates steps re_enters cs r l e invented keeps =
    invented (hard_count_read_afresh creates steps re_enters keeps cs r l e, caps_count_read_afresh creates steps re_enters keeps cs r l e)

-- The code's own three functions: their promises say that they are these
pub own_promises : Promised create step re_enter
own_promises = record { on_create = λ s h. refl; on_step = λ r o h k. refl; on_re_entry = λ r t b h j k. refl }

pub every_run_of_the_engine : (cs : Calls) → Holds (run create step re_enter cs)
every_run_of_the_engine cs = every_run create step re_enter own_promises cs

-- A run of the engine's `take`, which is what the programs call, is a run of the three
abbrev pub entry : Call → Entry
entry (Call.Outcome o) = outcome o
entry (Call.ReEntry t b) = log.re_entry t b

pub taken : (r : Record) (l : Log) (c : Call) → call create step re_enter (running r l) c ≡ called l (entry c) (take r c)
unfolding take
taken r l (Call.Outcome o) = refl
taken r l (Call.ReEntry t b) = refl

-- Every history of calls that kept their promises, each as it came back
came_back : (x : Run) (e : Entry) (f : Record → Step) (s : Step) → Holds x → HeldRun x → runs.given x f s
    → ((r : Record) (l : Log) → Kept r l → HeldRecord r → Holds (called l e (f r)) × HeldRun (called l e (f r)))
    → Holds (runs.came_back x e s) × HeldRun (runs.came_back x e s)
came_back runs.nothing e f s h k g p = (tt, tt)
came_back (running r l) e f s h k g p = rw g (p r l h k)

pub every_history : (x : History) → Promises x → Holds (told x) × HeldRun (told x)
unfolding Promises
every_history (runs.created s c) p = rw p.1 (create_keeps s, create_held s p.0)
every_history (runs.stepped x o s) p =
    let before : Holds (told x) × HeldRun (told x) = every_history x p.0 in
    came_back (told x) (outcome o) (λ r. step r o) s before.0 before.1 p.2
    (λ r l h k. (step_keeps r l o h, either_way l (outcome o) (step r o) (step_held r o k p.1)))
every_history (runs.re_entered x t b s) p =
    let before : Holds (told x) × HeldRun (told x) = every_history x p.0 in
    came_back (told x) (log.re_entry t b) (λ r. re_enter r t b) s before.0 before.1 p.2
    (λ r l h k. (re_entry_keeps r l t b h, either_way l (log.re_entry t b) (re_enter r t b) (re_entry_held r t b k)))
