-- One lemma for each way in which the definition takes an outcome apart: what holds of its answers holds of the whole. Assumes nothing.
use Rattle.std.specs.Prelude.{Option}
use Prim.Native.Nat.{ℕ}
use mathlib.Core.Bool.{Bool, true, false}
use lib.Dec.{eqb}
use Rattle.notation.specs.Rows.{◌⇒◌∣◌}
use Rattle.definition.specs.Types.{Outcome, Message, CapabilityResponse, Event, Kind, Timeout, Mode, Place, Finish}
use Rattle.definition.specs.Next.{Next, misfit, stop, straight}
use Rattle.definition.specs.Outcomes.{when_done, when_tried, when_driven, when_safe, when_heard, when_found, when_evaluated, when_ready, when_woken}
use Rattle.definition.specs.Outcomes.{when_asked, only}
use Rattle.definition.specs.Messages.{in_mode}

-- A choice leads where both its sides lead
pub by_choice : (P : Next → Type 0) (b : Bool) (x y : Next) → P x → P y → P (b ⇒ x ∣ y)
by_choice P true x y p q = p
by_choice P false x y p q = q

pub by_mode : (P : Next → Type 0) (m : Mode) (x y : Next) → P x → P y → P (in_mode m x y)
by_mode P Mode.Spr x y p q = p
by_mode P Mode.Epr x y p q = q

-- A group of outcomes leads where its answers lead
module _ (P : Outcome → Next → Type 0) (nowhere : (o : Outcome) → P o misfit) where
  pub when_done_leads : (n : Next) → P Outcome.Done n → (o : Outcome) → P o (when_done n o)
  when_done_leads n p Outcome.Done = p
  when_done_leads n p (Outcome.Failed e) = nowhere _
  when_done_leads n p Outcome.DpmFailed = nowhere _
  when_done_leads n p Outcome.NoSafe = nowhere _
  when_done_leads n p (Outcome.Message m) = nowhere _
  when_done_leads n p (Outcome.Lookup f) = nowhere _
  when_done_leads n p (Outcome.Evaluation v) = nowhere _
  when_done_leads n p (Outcome.YesNo b) = nowhere _
  when_done_leads n p (Outcome.Event e) = nowhere _
  when_done_leads n p (Outcome.Timeout t) = nowhere _

  pub when_tried_leads : (n : Next) (f : ℕ → Next) → P Outcome.Done n → ((e : ℕ) → P (Outcome.Failed e) (f e)) → (o : Outcome) → P o (when_tried n f o)
  when_tried_leads n g p q Outcome.Done = p
  when_tried_leads n g p q (Outcome.Failed e) = q e
  when_tried_leads n g p q Outcome.DpmFailed = nowhere _
  when_tried_leads n g p q Outcome.NoSafe = nowhere _
  when_tried_leads n g p q (Outcome.Message m) = nowhere _
  when_tried_leads n g p q (Outcome.Lookup f) = nowhere _
  when_tried_leads n g p q (Outcome.Evaluation v) = nowhere _
  when_tried_leads n g p q (Outcome.YesNo b) = nowhere _
  when_tried_leads n g p q (Outcome.Event e) = nowhere _
  when_tried_leads n g p q (Outcome.Timeout t) = nowhere _

  pub when_driven_leads : (n : Next) (f : Finish) → P Outcome.Done n → P Outcome.DpmFailed (straight (Place.Finished f)) → (o : Outcome)
      → P o (when_driven n f o)
  when_driven_leads n x p q Outcome.Done = p
  when_driven_leads n x p q (Outcome.Failed e) = nowhere _
  when_driven_leads n x p q Outcome.DpmFailed = q
  when_driven_leads n x p q Outcome.NoSafe = nowhere _
  when_driven_leads n x p q (Outcome.Message m) = nowhere _
  when_driven_leads n x p q (Outcome.Lookup f) = nowhere _
  when_driven_leads n x p q (Outcome.Evaluation v) = nowhere _
  when_driven_leads n x p q (Outcome.YesNo b) = nowhere _
  when_driven_leads n x p q (Outcome.Event e) = nowhere _
  when_driven_leads n x p q (Outcome.Timeout t) = nowhere _

  pub when_safe_leads : (a b c : Next) → P Outcome.Done a → P Outcome.DpmFailed b → P Outcome.NoSafe c → (o : Outcome) → P o (when_safe a b c o)
  when_safe_leads a x c p q s Outcome.Done = p
  when_safe_leads a x c p q s (Outcome.Failed e) = nowhere _
  when_safe_leads a x c p q s Outcome.DpmFailed = q
  when_safe_leads a x c p q s Outcome.NoSafe = s
  when_safe_leads a x c p q s (Outcome.Message m) = nowhere _
  when_safe_leads a x c p q s (Outcome.Lookup f) = nowhere _
  when_safe_leads a x c p q s (Outcome.Evaluation v) = nowhere _
  when_safe_leads a x c p q s (Outcome.YesNo b) = nowhere _
  when_safe_leads a x c p q s (Outcome.Event e) = nowhere _
  when_safe_leads a x c p q s (Outcome.Timeout t) = nowhere _

  pub when_heard_leads : (f : Message → Next) (g : ℕ → Next) → ((m : Message) → P (Outcome.Message m) (f m)) → ((e : ℕ) → P (Outcome.Failed e) (g e))
      → (o : Outcome) → P o (when_heard f g o)
  when_heard_leads x g p q Outcome.Done = nowhere _
  when_heard_leads x g p q (Outcome.Failed e) = q e
  when_heard_leads x g p q Outcome.DpmFailed = nowhere _
  when_heard_leads x g p q Outcome.NoSafe = nowhere _
  when_heard_leads x g p q (Outcome.Message m) = p m
  when_heard_leads x g p q (Outcome.Lookup f) = nowhere _
  when_heard_leads x g p q (Outcome.Evaluation v) = nowhere _
  when_heard_leads x g p q (Outcome.YesNo b) = nowhere _
  when_heard_leads x g p q (Outcome.Event e) = nowhere _
  when_heard_leads x g p q (Outcome.Timeout t) = nowhere _

  pub when_found_leads : (g : Option Kind → Next) → ((f : Option Kind) → P (Outcome.Lookup f) (g f)) → (o : Outcome) → P o (when_found g o)
  when_found_leads g p Outcome.Done = nowhere _
  when_found_leads g p (Outcome.Failed e) = nowhere _
  when_found_leads g p Outcome.DpmFailed = nowhere _
  when_found_leads g p Outcome.NoSafe = nowhere _
  when_found_leads g p (Outcome.Message m) = nowhere _
  when_found_leads g p (Outcome.Lookup f) = p f
  when_found_leads g p (Outcome.Evaluation v) = nowhere _
  when_found_leads g p (Outcome.YesNo b) = nowhere _
  when_found_leads g p (Outcome.Event e) = nowhere _
  when_found_leads g p (Outcome.Timeout t) = nowhere _

  pub when_evaluated_leads : (g : CapabilityResponse → Next) → ((v : CapabilityResponse) → P (Outcome.Evaluation v) (g v)) → (o : Outcome)
      → P o (when_evaluated g o)
  when_evaluated_leads g p Outcome.Done = nowhere _
  when_evaluated_leads g p (Outcome.Failed e) = nowhere _
  when_evaluated_leads g p Outcome.DpmFailed = nowhere _
  when_evaluated_leads g p Outcome.NoSafe = nowhere _
  when_evaluated_leads g p (Outcome.Message m) = nowhere _
  when_evaluated_leads g p (Outcome.Lookup f) = nowhere _
  when_evaluated_leads g p (Outcome.Evaluation v) = p v
  when_evaluated_leads g p (Outcome.YesNo b) = nowhere _
  when_evaluated_leads g p (Outcome.Event e) = nowhere _
  when_evaluated_leads g p (Outcome.Timeout t) = nowhere _

  pub when_ready_leads : (g : Message → Next) (h : Event → Next) (k : Timeout → Next) → ((m : Message) → P (Outcome.Message m) (g m))
      → ((e : Event) → P (Outcome.Event e) (h e)) → ((t : Timeout) → P (Outcome.Timeout t) (k t)) → ((e : ℕ) → P (Outcome.Failed e) (stop e))
      → (o : Outcome) → P o (when_ready g h k o)
  when_ready_leads g h k p q s x Outcome.Done = nowhere _
  when_ready_leads g h k p q s x (Outcome.Failed e) = x e
  when_ready_leads g h k p q s x Outcome.DpmFailed = nowhere _
  when_ready_leads g h k p q s x Outcome.NoSafe = nowhere _
  when_ready_leads g h k p q s x (Outcome.Message m) = p m
  when_ready_leads g h k p q s x (Outcome.Lookup f) = nowhere _
  when_ready_leads g h k p q s x (Outcome.Evaluation v) = nowhere _
  when_ready_leads g h k p q s x (Outcome.YesNo b) = nowhere _
  when_ready_leads g h k p q s x (Outcome.Event e) = q e
  when_ready_leads g h k p q s x (Outcome.Timeout t) = s t

  pub when_woken_leads : (h : Event → Next) (k : Timeout → Next) → ((e : Event) → P (Outcome.Event e) (h e)) → ((t : Timeout) → P (Outcome.Timeout t) (k t))
      → (o : Outcome) → P o (when_woken h k o)
  when_woken_leads h k q s Outcome.Done = nowhere _
  when_woken_leads h k q s (Outcome.Failed e) = nowhere _
  when_woken_leads h k q s Outcome.DpmFailed = nowhere _
  when_woken_leads h k q s Outcome.NoSafe = nowhere _
  when_woken_leads h k q s (Outcome.Message m) = nowhere _
  when_woken_leads h k q s (Outcome.Lookup f) = nowhere _
  when_woken_leads h k q s (Outcome.Evaluation v) = nowhere _
  when_woken_leads h k q s (Outcome.YesNo b) = nowhere _
  when_woken_leads h k q s (Outcome.Event e) = q e
  when_woken_leads h k q s (Outcome.Timeout t) = s t

  pub when_asked_leads : (n m : Next) → ((b : Bool) → P (Outcome.YesNo b) n) → ((b : Bool) → P (Outcome.YesNo b) m) → (o : Outcome) → P o (when_asked n m o)
  when_asked_leads n x p q Outcome.Done = nowhere _
  when_asked_leads n x p q (Outcome.Failed e) = nowhere _
  when_asked_leads n x p q Outcome.DpmFailed = nowhere _
  when_asked_leads n x p q Outcome.NoSafe = nowhere _
  when_asked_leads n x p q (Outcome.Message m) = nowhere _
  when_asked_leads n x p q (Outcome.Lookup f) = nowhere _
  when_asked_leads n x p q (Outcome.Evaluation v) = nowhere _
  when_asked_leads n x p q (Outcome.YesNo b) = by_choice (P (Outcome.YesNo b)) b n x (p b) (q b)
  when_asked_leads n x p q (Outcome.Event e) = nowhere _
  when_asked_leads n x p q (Outcome.Timeout t) = nowhere _

  pub only_leads : (k : ℕ) (n : Next) → ((m : Message) → P (Outcome.Message m) n) → (m : Message) → P (Outcome.Message m) (only k n m)
  only_leads k n p (Message.Request x) = nowhere _
  only_leads k n p (Message.EprRequest x) = nowhere _
  only_leads k n p (Message.EprMode x) = nowhere _
  only_leads k n p (Message.Control t) = by_choice (P (Outcome.Message (Message.Control t))) (eqb t k) n misfit (p _) (nowhere _)
  only_leads k n p (Message.ExtendedControl x) = nowhere _
  only_leads k n p Message.Other = nowhere _
  only_leads k n p (Message.SinkCapabilities good) = nowhere _
  only_leads k n p (Message.EprSinkCapabilities good) = nowhere _
