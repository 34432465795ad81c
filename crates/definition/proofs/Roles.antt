-- The data role changes where 28 is done and nowhere else, on every run it is the one read afresh from the log, and no answer is H.1 or H.2.
-- Assumes nothing.
use Rattle.std.specs.Prelude.{Option, None, Some}
use Prim.Native.Nat.{ℕ}
use mathlib.Core.Path.{◌≡◌, refl, ap, sym, ◌∙◌}
use mathlib.Core.Bool.{Bool, true, false, ◌&&◌, ◌||◌, true≢false, false≢true}
use mathlib.Core.List.{List, [], ◌∷◌}
use lib.Dec.{eqb, ltb}
use borrow.Author.Tests.{eqb-true}
use Rattle.notation.specs.Rows.{◌⇒◌∣◌, ◌is◌}
use Rattle.counters.specs.Counting.{increment}
use Rattle.definition.specs.Types.{Action, Answer, Call, CapabilityResponse, Created, DataRole, Handover, Mode, Negotiation, Outcome}
use Rattle.definition.specs.Types.{DefaultWait, Place, PowerSource, Record, Settings, State, Step, VcsState}
use Rattle.definition.specs.Next.{Write, mode, data_role_to, vconn_source_to, Next, to, misfit, stop, writing}
use Rattle.definition.specs.Actions.{awaited, none, swap_data_role}
use Rattle.definition.specs.Awaits.{Entrance, unwritten, startup, swapped_startup, count_capabilities, clear_hard_resets, count_hard_reset}
use Rattle.definition.specs.SourcePort.{evaluated, negotiation_awaits}
use Rattle.definition.specs.DualRole.{opposite}
use Rattle.definition.specs.States.{await_of, standing, after}
use Rattle.definition.specs.Entering.{write, written, discovering, resetting, entered, negotiated, arrive}
use Rattle.definition.specs.Refusals.{sound, bad_event, re_entry, allowed_target, changed}
use Rattle.definition.specs.Engine.{issues, tell, refuse, settle, resume, step, go_back, re_enter, take, create}
use Rattle.definition.specs.Paper.{awaits, waiting, refusal, letter, answer_number, one_of, named, argument_named}
use Rattle.definition.specs.Entries.{trace_code}
use Rattle.definition.specs.Log as log
use Rattle.definition.specs.Log.{creation, action, Log, empty, ◌▸◌, numbered}
use Rattle.definition.specs.Runs as runs
use Rattle.definition.specs.Runs.{issue, issued, Run, running, made, called, Calls, call, run}
use Rattle.definition.specs.Promised.{Promised}
use Rattle.definition.specs.Roles.{named_role, reports_done, role_after, Swapped, H, NoDataHandover}
use Rattle.definition.proofs.Laws.{by_test, and_left, and_right}
use Rattle.definition.proofs.Entries.{codes}
use Rattle.definition.proofs.Issued.{hands, by_hands, awaits_28, awaited_named}
use Rattle.definition.proofs.Refusals.{tell_no_refusal}
use Rattle.definition.proofs.Sound.{tried}
use Rattle.definition.proofs.Ways.{when_done_leads, when_tried_leads, when_driven_leads, when_found_leads, when_evaluated_leads}
use Rattle.definition.proofs.Leading.{Leads, after_leads, allowed_leads}
use Rattle.definition.proofs.Fields.{New, created_new}
use Rattle.definition.proofs.Arriving.{Kept}
use Rattle.definition.proofs.Kept.{Holds}
use Rattle.definition.proofs.Runs.{entry, taken, the_run, every_run_of_the_engine}

-- What is written on the way, of the role; entering a place writes none
abbrev role_after_writes : List Write → DataRole → DataRole
role_after_writes [] u = u
role_after_writes (mode m ∷ ws) u = role_after_writes ws u
role_after_writes (data_role_to d ∷ ws) u = role_after_writes ws d
role_after_writes (vconn_source_to v ∷ ws) u = role_after_writes ws u

written_role : (ws : List Write) (r : Record) → (written ws r).data_role ≡ role_after_writes ws r.data_role
written_role [] r = refl
written_role (mode m ∷ ws) r = written_role ws (write (mode m) r)
written_role (data_role_to d ∷ ws) r = written_role ws (write (data_role_to d) r)
written_role (vconn_source_to v ∷ ws) r = written_role ws (write (vconn_source_to v) r)

discovering_role : (r : Record) (b : Bool) → (discovering r (tried r.caps_counter b)).data_role ≡ r.data_role
discovering_role r true = refl
discovering_role r false = refl

resetting_role : (r : Record) (b : Bool) → (resetting r (tried r.hard_reset_counter b)).data_role ≡ r.data_role
resetting_role r true = refl
resetting_role r false = refl

entered_role : (e : Entrance) (r : Record) (s : State) → (entered e r s).data_role ≡ r.data_role
unfolding increment
entered_role startup r s = refl
entered_role swapped_startup r s = refl
entered_role count_capabilities r s = discovering_role r (ltb r.caps_counter.value r.caps_counter.max_value)
entered_role clear_hard_resets r s = refl
entered_role count_hard_reset r s = resetting_role r (ltb r.hard_reset_counter.value r.hard_reset_counter.max_value)
entered_role unwritten r s = refl

negotiated_role : (r : Record) (w : Negotiation) (q : PowerSource) → (negotiated r w q).data_role ≡ r.data_role
negotiated_role r Negotiation.Lookup q = refl
negotiated_role r Negotiation.Evaluate q = refl
negotiated_role r Negotiation.Accept q = refl
negotiated_role r Negotiation.Supply q = refl
negotiated_role r Negotiation.PsRdy q = refl

arrived_role : (r : Record) (p : Place) → (arrive r p).data_role ≡ r.data_role
arrived_role r (Place.Waiting s) = entered_role (standing r s).entrance r s
arrived_role r (Place.Negotiating w q) = negotiated_role r w q
arrived_role r (Place.Stopped e) = refl
arrived_role r (Place.HandedOver h) = refl
arrived_role r (Place.Finished f) = refl

-- What an outcome of the awaited action makes of the role
abbrev swapped : Action → Outcome → DataRole → DataRole
swapped a o u = a.number is 28 && trace_code o is 1 ⇒ named_role a.argument ∣ u

abbrev Writes : Action → DataRole → Outcome → Next → Type 0
Writes a u o (to ws p) = role_after_writes ws u ≡ swapped a o u
Writes a u o misfit = Unit

-- An action other than 28 writes no role
unswapped : (a : Action) (u : DataRole) (o : Outcome) (x : Next) → a.number is 28 ≡ false → Leads a o x → Writes a u o x
unswapped a u o (to [] p) n h = rw n
unswapped a u o (to (mode m ∷ ws) p) n h = absurd h
unswapped a u o (to (data_role_to d ∷ ws) p) n h = absurd (true≢false (sym (ap (λ b. b.number is 28) h.0) ∙ n))
unswapped a u o (to (vconn_source_to v ∷ ws) p) n h = unswapped a u o (to ws p) n h.3
unswapped a u o misfit n h = tt

-- The role that 28 names is the one that is written
opposite_named : (u : DataRole) → opposite u ≡ named_role (swap_data_role (opposite u)).argument
opposite_named DataRole.Ufp = refl
opposite_named DataRole.Dfp = refl

other : (r : Record) (s : State) (o : Outcome) → eqb (hands s) 28 ≡ false → Writes (awaited (standing r s).issues) r.data_role o (after r s o)
other r s o h = unswapped _ _ o (after r s o) (awaits_28 r.mode r.contract r.data_role r.vconn_source r.port s ∙ h)
    (after_leads r.mode r.contract r.data_role r.vconn_source r.port s o)

in_state : (r : Record) (s : State) (o : Outcome) → Writes (awaited (standing r s).issues) r.data_role o (after r s o)
unfolding hands await_of
in_state r s o = by_hands (λ s. Writes (awaited (standing r s).issues) r.data_role o (after r s o)) (λ s n k. other r s o n)
    (when_done_leads (Writes (swap_data_role (opposite r.data_role)) r.data_role) (λ _. tt) _ (opposite_named r.data_role) o)
    (other r (State.TransitionToDefault DefaultWait.VconnOff) o refl) (other r (State.TransitionToDefault DefaultWait.VconnOn) o refl)
    (λ source. other r (State.VconnSwap source VcsState.TurnOffVconn) o refl) (λ source. other r (State.VconnSwap source VcsState.TurnOnVconn) o refl)
    (λ source. other r (State.VconnSwap source VcsState.VcsForceVconn) o refl) s

-- While a request is negotiated nothing is written
abbrev Unwritten : Outcome → Next → Type 0
Unwritten o (to ws p) = (u : DataRole) → role_after_writes ws u ≡ u
Unwritten o misfit = Unit

evaluated_unwritten : (q : PowerSource) (v : CapabilityResponse) → Unwritten (Outcome.Evaluation v) (evaluated q v)
evaluated_unwritten q CapabilityResponse.Accept = λ u. refl
evaluated_unwritten q CapabilityResponse.Reject = λ u. refl
evaluated_unwritten q CapabilityResponse.Wait = λ u. refl

negotiation_unwritten : (w : Negotiation) (q : PowerSource) (o : Outcome) → Unwritten o ((negotiation_awaits w q).then o)
negotiation_unwritten Negotiation.Lookup q o = when_found_leads Unwritten (λ _. tt) _ (λ f u. refl) o
negotiation_unwritten Negotiation.Evaluate q o = when_evaluated_leads Unwritten (λ _. tt) _ (evaluated_unwritten q) o
negotiation_unwritten Negotiation.Accept q o = when_tried_leads Unwritten (λ _. tt) _ stop (λ u. refl) (λ e u. refl) o
negotiation_unwritten Negotiation.Supply q o = when_driven_leads Unwritten (λ _. tt) _ _ (λ u. refl) (λ u. refl) o
negotiation_unwritten Negotiation.PsRdy q o = when_tried_leads Unwritten (λ _. tt) _ stop (λ u. refl) (λ e u. refl) o

not_28 : (r : Record) (w : Negotiation) (q : PowerSource) → (awaited (issues r (Place.Negotiating w q))).number is 28 ≡ false
not_28 r Negotiation.Lookup q = refl
not_28 r Negotiation.Evaluate q = refl
not_28 r Negotiation.Accept q = refl
not_28 r Negotiation.Supply q = refl
not_28 r Negotiation.PsRdy q = refl

negotiating : (r : Record) (w : Negotiation) (q : PowerSource) (o : Outcome) (x : Next) → Unwritten o x
    → Writes (awaited (issues r (Place.Negotiating w q))) r.data_role o x
negotiating r w q o (to ws p) h = rw (not_28 r w q) (h r.data_role)
negotiating r w q o misfit h = tt

-- The role after a call, by what it settles
abbrev RoleAfter : Record → Action → Call → Step → Type 0
RoleAfter r a c s =
    s.«record».data_role ≡ (refusal s.answer is 0 && (a.number is 28 && reports_done c) ⇒ named_role a.argument ∣ r.data_role)

stepped : (r : Record) (a : Action) (o : Outcome) (x : Next) → Writes a r.data_role o x → RoleAfter r a (Call.Outcome o) (settle 5 r x)
unfolding tell
stepped r a o (to ws p) h = rw (tell_no_refusal (arrive (written ws r) p)) (arrived_role (written ws r) p ∙ (written_role ws r ∙ h))
stepped r a o misfit h = refl

unless_bad : (b : Bool) (a : Action) (u : DataRole) (o : Outcome) (x : Next) → Writes a u o x → Writes a u o (b ⇒ misfit ∣ x)
unless_bad true a u o x h = tt
unless_bad false a u o x h = h

resumed : (r : Record) (p : Place) (o : Outcome) → RoleAfter r (awaited (issues r p)) (Call.Outcome o) (resume r p o)
resumed r (Place.Waiting s) o =
    let a : Action = awaited (standing r s).issues in
    stepped r a o (bad_event o ⇒ misfit ∣ after r s o) (unless_bad (bad_event o) a _ o (after r s o) (in_state r s o))
resumed r (Place.Negotiating w q) o = stepped r (awaited (issues r (Place.Negotiating w q))) o ((negotiation_awaits w q).then o)
    (negotiating r w q o ((negotiation_awaits w q).then o) (negotiation_unwritten w q o))
resumed r (Place.Stopped e) o = refl
resumed r (Place.HandedOver h) o = refl
resumed r (Place.Finished f) o = refl

-- A re-entry writes no role, as no target does
never : (a b : Bool) → (a && (b && false)) ≡ false
never true true = refl
never true false = refl
never false b = refl

targeted : (r : Record) (a : Action) (t b : ℕ) (w : Mode) (x : Next) → Writes none r.data_role Outcome.Done x
    → RoleAfter r a (Call.ReEntry t b) (settle 6 r (writing (mode w) x))
unfolding tell
targeted r a t b w (to ws p) h = rw (never (refusal (tell (arrive (written (mode w ∷ ws) r) p)).answer is 0) (a.number is 28))
    (arrived_role (written (mode w ∷ ws) r) p ∙ (written_role (mode w ∷ ws) r ∙ h))
targeted r a t b w misfit h = refl

re_entered : (r : Record) (a : Action) (handed : Bool) (t b : ℕ) → RoleAfter r a (Call.ReEntry t b) (settle 6 r (re_entry handed r.mode t b))
unfolding re_entry
re_entered r a handed t b = targeted r a t b (changed b r.mode) (allowed_target handed t b)
    (unswapped none r.data_role Outcome.Done (allowed_target handed t b) refl (allowed_leads none Outcome.Done refl handed t b))

gone_back : (r : Record) (a : Action) (p : Place) (t b : ℕ) → RoleAfter r a (Call.ReEntry t b) (go_back r p t b)
gone_back r a (Place.Waiting s) t b = refl
gone_back r a (Place.Negotiating w q) t b = refl
gone_back r a (Place.Stopped e) t b = re_entered r a false t b
gone_back r a (Place.HandedOver h) t b = re_entered r a true t b
gone_back r a (Place.Finished f) t b = refl

past_r1 : (b : Bool) (r : Record) (a : Action) (c : Call) (s : Step) → RoleAfter r a c s → RoleAfter r a c (b ⇒ s ∣ refuse 1 r)
past_r1 true r a c s h = h
past_r1 false r a c s h = refl

-- Of any record and any call
pub role_changes_exactly : (r : Record) (c : Call) → (take r c).«record».data_role ≡ role_after r c (take r c)
unfolding take step re_enter role_after
role_changes_exactly r (Call.Outcome o) = past_r1 (sound r) r (awaits r) (Call.Outcome o) (resume r r.place o) (resumed r r.place o)
role_changes_exactly r (Call.ReEntry t b) = past_r1 (sound r) r (awaits r) (Call.ReEntry t b) (go_back r r.place t b) (gone_back r (awaits r) r.place t b)

-- "any call that changes the role is an accepted Done of 28, and it then is the role that 28 named"
pub changed_by_done_of_28 : (r : Record) (c : Call) → ((take r c).«record».data_role ≡ r.data_role → ⊥) → Swapped r c (take r c)
unfolding role_after
changed_by_done_of_28 r c differs = by_test accepted_done (λ h. swaps h) (λ h. absurd (differs (role_changes_exactly r c ∙ rw h)))
  where
    accepted_done : Bool
    accepted_done = refusal (take r c).answer is 0 && ((awaits r).number is 28 && reports_done c)

    swaps : accepted_done ≡ true → Swapped r c (take r c)
    swaps h = record {
      accepted = and_left _ _ h;
      of_28 = and_left _ _ (and_right (refusal (take r c).answer is 0) _ h);
      done = and_right ((awaits r).number is 28) _ (and_right (refusal (take r c).answer is 0) _ h);
      as_named = role_changes_exactly r c ∙ rw h;
    }

-- The log. No action touches the role
issue_role : (l : Log) (a : Action) → log.data_role_of (issue l a) ≡ log.data_role_of l
unfolding log.data_role_of
issue_role l a = chosen (a.number is 0)
  where
    chosen : (b : Bool) → log.data_role_of (b ⇒ l ∣ l ▸ action a) ≡ log.data_role_of l
    chosen true = refl
    chosen false = refl

issued_role : (l : Log) (xs : List Action) → log.data_role_of (issued l xs) ≡ log.data_role_of l
issued_role l [] = refl
issued_role l (a ∷ rest) = issued_role (issue l a) rest ∙ issue_role l a

-- 28 names one of two roles
two_roles : (a : Action) → named a ≡ true → a.number is 28 ≡ true → one_of (0 ∷ 1 ∷ []) a.argument ≡ true
unfolding named argument_named one_of
two_roles a h n = rw (eqb-true a.number 28 n) at (and_left (argument_named a.number a.argument) _ h)

read_role : (d n z w : Bool) (u : DataRole) → (n ≡ true → (z || (w || false)) ≡ true)
    → (d && (n && z) ⇒ DataRole.Ufp ∣ d && (n && w) ⇒ DataRole.Dfp ∣ u) ≡ (n && d ⇒ (z ⇒ DataRole.Ufp ∣ DataRole.Dfp) ∣ u)
read_role true true true w u h = refl
read_role true true false true u h = refl
read_role true true false false u h = absurd (false≢true (h refl))
read_role true false z w u h = refl
read_role false true z w u h = refl
read_role false false z w u h = refl

-- A record that does not wait awaits none, which is no 28
waits_28 : (r : Record) (p : Place) (k : ℕ) → (waiting p && numbered 28 k (awaited (issues r p))) ≡ numbered 28 k (awaited (issues r p))
waits_28 r (Place.Waiting s) k = refl
waits_28 r (Place.Negotiating w q) k = refl
waits_28 r (Place.Stopped e) k = refl
waits_28 r (Place.HandedOver h) k = refl
waits_28 r (Place.Finished f) k = refl

names_a_role : (r : Record) (p : Place) → (awaited (issues r p)).number is 28 ≡ true → one_of (0 ∷ 1 ∷ []) (awaited (issues r p)).argument ≡ true
names_a_role r (Place.Waiting s) h = two_roles _ (awaited_named r (Place.Waiting s) refl) h
names_a_role r (Place.Negotiating w q) h = two_roles _ (awaited_named r (Place.Negotiating w q) refl) h
names_a_role r (Place.Stopped e) h = absurd (false≢true h)
names_a_role r (Place.HandedOver x) h = absurd (false≢true h)
names_a_role r (Place.Finished f) h = absurd (false≢true h)

abbrev Read : Record → Log → Type 0
Read r l = log.data_role_of l ≡ r.data_role

abbrev ReadRun : Run → Type 0
ReadRun runs.nothing = Unit
ReadRun (running r l) = Read r l

reports : (r : Record) (l : Log) (c : Call) → Kept r l → Read r l
    → log.data_role_of (l ▸ entry c) ≡ ((awaits r).number is 28 && reports_done c ⇒ named_role (awaits r).argument ∣ r.data_role)
unfolding log.data_role_of one_of
reports r l (Call.Outcome o) k h =
    rw (k.awaiting (numbered 28 0), k.awaiting (numbered 28 1), waits_28 r r.place 0, waits_28 r r.place 1, h, codes o)
    (read_role (trace_code o is 1) _ _ _ r.data_role (names_a_role r r.place))
reports r l (Call.ReEntry t b) k h = rw (never true ((awaits r).number is 28)) h

called_read : (r : Record) (l : Log) (c : Call) → Kept r l → Read r l → ReadRun (called l (entry c) (take r c))
unfolding role_after
called_read r l c k h = chosen (refusal (take r c).answer is 0) refl
  where
    chosen : (b : Bool) → refusal (take r c).answer is 0 ≡ b
        → ReadRun (b ⇒ running (take r c).«record» (issued (l ▸ entry c) (take r c).actions) ∣ running (take r c).«record» l)
    chosen true e = issued_role (l ▸ entry c) (take r c).actions ∙ (reports r l c k h ∙ sym (role_changes_exactly r c ∙ rw e))
    chosen false e = h ∙ sym (role_changes_exactly r c ∙ rw e)

made_read : (s : Settings) (xs : List Action) (m : Option Record) → ((r : Record) → m ≡ Some r → New s r) → ReadRun (made (issued (empty ▸ creation s) xs) m)
unfolding log.data_role_of
made_read s xs None new = tt
made_read s xs (Some r) new = issued_role (empty ▸ creation s) xs ∙ sym (new r refl).as_dfp

call_read : (x : Run) (c : Call) → Holds x → ReadRun x → ReadRun (call create step re_enter x c)
call_read runs.nothing c k h = tt
call_read (running r l) c k h = rw (taken r l c) (called_read r l c k h)

every_run_read : (cs : Calls) → ReadRun (run create step re_enter cs)
unfolding run
every_run_read (runs.create s h) = made_read s (create s).actions (create s).«record» (created_new s)
every_run_read (runs.then cs c h) = call_read (run create step re_enter cs) c (every_run_of_the_engine cs) (every_run_read cs)

-- "on every run the role equals the one read afresh from the log", for any three functions that keep the promises
module _ (creates : Settings → Created) (steps : Record → Outcome → Step) (re_enters : Record → ℕ → ℕ → Step) (keeps : Promised creates steps re_enters) where
  pub data_role_read_afresh : (cs : Calls) (r : Record) (l : Log) → run creates steps re_enters cs ≡ running r l → r.data_role ≡ log.data_role_of l
  data_role_read_afresh cs r l e = sym (rw (sym (the_run creates steps re_enters keeps cs) ∙ e) at (every_run_read cs))

-- "H.1 and H.2 then provably never occur": not as an answer of any call, whatever the record, and not as one of a creation
from_3_to_8 : (a : Answer) → letter a is H ≡ true → one_of (3 ∷ 4 ∷ 5 ∷ 6 ∷ 7 ∷ 8 ∷ []) (answer_number a) ≡ true
unfolding one_of
from_3_to_8 Answer.Waiting e = absurd (false≢true e)
from_3_to_8 (Answer.Stopped x) e = absurd (false≢true e)
from_3_to_8 (Answer.Finished f) e = absurd (false≢true e)
from_3_to_8 (Answer.HandedOver Handover.PowerEvaluate) e = refl
from_3_to_8 (Answer.HandedOver Handover.PowerSend) e = refl
from_3_to_8 (Answer.HandedOver Handover.EprEntry) e = refl
from_3_to_8 (Answer.HandedOver Handover.EprExitReceived) e = refl
from_3_to_8 (Answer.HandedOver Handover.EprSendExit) e = refl
from_3_to_8 (Answer.HandedOver Handover.EprDiscoverCable) e = refl
from_3_to_8 (Answer.Refused n) e = absurd (false≢true e)

pub never_h1_or_h2 : (r : Record) (c : Call) (h : Handover) → NoDataHandover (take r c).answer h
never_h1_or_h2 r c h = record { handed_over = refl; from_3_to_8 = from_3_to_8 (take r c).answer }

pub creation_never_h1_or_h2 : (s : Settings) (h : Handover) → NoDataHandover (create s).answer h
creation_never_h1_or_h2 s h = record { handed_over = refl; from_3_to_8 = from_3_to_8 (create s).answer }
