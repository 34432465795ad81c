-- The twelve marked steps hold. Assumes nothing.
use Prim.Native.Nat.{ℕ, ◌≤◌}
use mathlib.Core.Path.{◌≡◌, refl}
use mathlib.Core.Bool.{Bool, true, false}
use lib.Dec.{lit≤}
use borrow.Author.Tests.{le-leb}
use Rattle.counters.specs.Counting.{increment}
use Rattle.definition.specs.Types.{DataRole, Setting, Place, State, Negotiation, Contract, Mode, Outcome}
use Rattle.definition.specs.Messages.{dispatched, epr_mode, epr_action, control, extended_control, extended_type}
use Rattle.definition.specs.States.{await_of}
use Rattle.definition.specs.Refusals.{sound, counted, place_sound, target, change_allowed, changed, allowed_target, re_entry}
use Rattle.definition.specs.Engine.{tell, resume, step, go_back, re_enter}
use Rattle.definition.specs.Marked.{MarkedSteps, limited}
use Rattle.request.proofs.Same.{same_itself}

-- The records of the table are ones that R1 accepts
fine : (p : Place) (m : Mode) (c : Contract) (h k : ℕ) (d v b : Bool) (u : DataRole) (g : Setting) → h ≤ 2 → k ≤ 50 → place_sound p c ≡ true
    → sound (limited p m c h k d v b u g) ≡ true
unfolding sound counted
fine p m c h k d v b u g hh hk hp = rw (le-leb h 2 hh, le-leb k 50 hk, hp)

-- Past R1, a row is what the place and the outcome, or the target, give
stepped : (p : Place) (m : Mode) (c : Contract) (h k : ℕ) (d v b : Bool) (u : DataRole) (g : Setting) (o : Outcome) → h ≤ 2 → k ≤ 50 → place_sound p c ≡ true
    → step (limited p m c h k d v b u g) o ≡ resume (limited p m c h k d v b u g) p o
unfolding step
stepped p m c h k d v b u g o hh hk hp = rw (fine p m c h k d v b u g hh hk hp)

went_back : (e : ℕ) (m : Mode) (c : Contract) (h k : ℕ) (d v b : Bool) (u : DataRole) (g : Setting) (t w : ℕ) → h ≤ 2 → k ≤ 50
    → re_enter (limited (Place.Stopped e) m c h k d v b u g) t w ≡ go_back (limited (Place.Stopped e) m c h k d v b u g) (Place.Stopped e) t w
unfolding re_enter
went_back e m c h k d v b u g t w hh hk = rw (fine (Place.Stopped e) m c h k d v b u g hh hk refl)

ready : Place
ready = Place.Waiting State.Ready

pub marked_steps : MarkedSteps
unfolding ready tell await_of dispatched epr_mode epr_action control extended_control extended_type target change_allowed changed allowed_target
    re_entry increment
marked_steps = record {
  step_1 = λ c h k d v b u g p hh hk. rw (stepped ready Mode.Epr c h k d v b u g _ hh hk refl) (refl, refl, refl, refl, refl);
  step_2 = λ c h k d v b u g p hh hk. rw (stepped ready Mode.Spr c h k d v b u g _ hh hk refl) (refl, refl, refl, refl, refl);
  step_3 = λ c k d v b u g w hk e. rw (stepped ready Mode.Epr c 0 k d v b u g _ (lit≤ tt) hk refl, e) (refl, refl, refl, refl, refl);
  step_4 = λ c k d v b u g w hk e. rw (stepped ready Mode.Spr c 1 k d v b u g _ (lit≤ tt) hk refl, e) (refl, refl, refl, refl, refl);
  step_5 = λ c h k v b u g hh hk. rw (stepped ready Mode.Epr c h k false v b u g _ hh hk refl) (refl, refl, refl, refl, refl);
  step_6 = λ c k v b u g hk. rw (stepped ready Mode.Epr c 0 k true v b u g _ (lit≤ tt) hk refl) (refl, refl, refl, refl, refl);
  step_7 = λ c k d v b u g hk. rw (stepped ready Mode.Epr c 2 k d v b u g _ (lit≤ tt) hk refl) (refl, refl, refl, refl, refl);
  step_8 = λ q m h k d v b u g hh hk. rw (stepped (Place.Negotiating Negotiation.Supply q) m Contract.TransitionToExplicit h k d v b u g _ hh hk refl)
      (refl, refl, refl, refl, refl);
  step_9 = λ q m h k d v b u g hh hk. rw (stepped (Place.Negotiating Negotiation.PsRdy q) m (Contract.Explicit q) h k d v b u g _ hh hk (same_itself q))
      (refl, refl, refl, refl, refl);
  step_10 = λ c h k d v b u g hh hk. rw (stepped ready Mode.Spr c h k d v b u g _ hh hk refl) (refl, refl, refl, refl, refl);
  step_11 = λ e m c h d v b u g hh. rw (went_back e m c h 49 d v b u g 0 0 hh (lit≤ tt)) (refl, refl, refl, refl, refl);
  step_12 = λ e m c h d v b u g hh. rw (went_back e m c h 50 d v b u g 0 0 hh (lit≤ tt)) (refl, refl, refl, refl, refl);
}
