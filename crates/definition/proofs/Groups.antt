-- What fits a group of actions, by the paper's table and by the definition's tables: one lemma for each way in which the definition takes an outcome
-- apart. Assumes nothing.
use Rattle.std.specs.Prelude.{None}
use Prim.Native.Nat.{ℕ}
use mathlib.Core.Path.{◌≡◌, refl, ap, ◌∙◌}
use mathlib.Core.Bool.{Bool, true, false}
use Rattle.notation.specs.Rows.{◌⇒◌∣◌}
use Rattle.definition.specs.Types.{Action, Message, Outcome, Timeout, Event, CapabilityResponse, Finish}
use Rattle.definition.specs.Next.{Next, to, misfit, stop}
use Rattle.definition.specs.Outcomes.{when_done, when_sent, when_tried, when_driven, when_heard, when_asked}
use Rattle.definition.specs.Actions.{action}
use Rattle.definition.specs.Paper.{fits, one_of, message_fits, timeout_fits}

-- Whether an outcome was a fit
abbrev pub fit : Next → Bool
fit (to w p) = true
fit misfit = false

-- What both sides of a choice have, the choice has
pub either : {A B : Type 0} (f : A → B) (b : Bool) {x y : A} {z : B} → f x ≡ z → f y ≡ z → f (b ⇒ x ∣ y) ≡ z
either f true p q = p
either f false p q = q

-- An action is known by what fits it
pub record Row : Type 0 where
  pub done : Bool
  pub failed : Bool
  pub dpm_failed : Bool
  pub no_safe : Bool
  pub message : Message → Bool
  pub lookup : Bool
  pub evaluation : Bool
  pub yes_no : Bool
  pub event : Bool
  pub pps_timeout : Bool
  pub keep_alive_timeout : Bool
  pub five_seconds_timeout : Bool

unfoldable pub row : Action → Row
row a = record {
  done = fits a Outcome.Done;
  failed = fits a (Outcome.Failed 0);
  dpm_failed = fits a Outcome.DpmFailed;
  no_safe = fits a Outcome.NoSafe;
  message = λ m. fits a (Outcome.Message m);
  lookup = fits a (Outcome.Lookup None);
  evaluation = fits a (Outcome.Evaluation CapabilityResponse.Accept);
  yes_no = fits a (Outcome.YesNo true);
  event = fits a (Outcome.Event Event.None);
  pps_timeout = fits a (Outcome.Timeout Timeout.Pps);
  keep_alive_timeout = fits a (Outcome.Timeout Timeout.KeepAlive);
  five_seconds_timeout = fits a (Outcome.Timeout Timeout.FiveSeconds);
}

pub alike : (a b : Action) → row a ≡ row b → (o : Outcome) → fits a o ≡ fits b o
unfolding row fits
alike a b h Outcome.Done = ap (λ r. r.done) h
alike a b h (Outcome.Failed e) = ap (λ r. r.failed) h
alike a b h Outcome.DpmFailed = ap (λ r. r.dpm_failed) h
alike a b h Outcome.NoSafe = ap (λ r. r.no_safe) h
alike a b h (Outcome.Message m) = ap (λ r. r.message m) h
alike a b h (Outcome.Lookup f) = ap (λ r. r.lookup) h
alike a b h (Outcome.Evaluation v) = ap (λ r. r.evaluation) h
alike a b h (Outcome.YesNo c) = ap (λ r. r.yes_no) h
alike a b h (Outcome.Event e) = ap (λ r. r.event) h
alike a b h (Outcome.Timeout Timeout.Pps) = ap (λ r. r.pps_timeout) h
alike a b h (Outcome.Timeout Timeout.KeepAlive) = ap (λ r. r.keep_alive_timeout) h
alike a b h (Outcome.Timeout Timeout.FiveSeconds) = ap (λ r. r.five_seconds_timeout) h

-- A choice of a fit or a misfit
pub picked : (b : Bool) (n : Next) → fit n ≡ true → fit (b ⇒ n ∣ misfit) ≡ b
picked true n h = h
picked false n h = refl

-- Each group of outcomes, at one action that stands for all that have that group
done_fits : (n : Next) → fit n ≡ true → (o : Outcome) → fit (when_done n o) ≡ fits (action 2 0) o
unfolding fits one_of message_fits timeout_fits
done_fits n h Outcome.Done = h
done_fits n h (Outcome.Failed e) = refl
done_fits n h Outcome.DpmFailed = refl
done_fits n h Outcome.NoSafe = refl
done_fits n h (Outcome.Message m) = refl
done_fits n h (Outcome.Lookup f) = refl
done_fits n h (Outcome.Evaluation v) = refl
done_fits n h (Outcome.YesNo b) = refl
done_fits n h (Outcome.Event e) = refl
done_fits n h (Outcome.Timeout Timeout.Pps) = refl
done_fits n h (Outcome.Timeout Timeout.KeepAlive) = refl
done_fits n h (Outcome.Timeout Timeout.FiveSeconds) = refl

tried_fits : (n : Next) (f : ℕ → Next) → fit n ≡ true → ((e : ℕ) → fit (f e) ≡ true) → (o : Outcome) → fit (when_tried n f o) ≡ fits (action 8 0) o
unfolding fits one_of message_fits timeout_fits
tried_fits n f h k Outcome.Done = h
tried_fits n f h k (Outcome.Failed e) = k e
tried_fits n f h k Outcome.DpmFailed = refl
tried_fits n f h k Outcome.NoSafe = refl
tried_fits n f h k (Outcome.Message m) = refl
tried_fits n f h k (Outcome.Lookup g) = refl
tried_fits n f h k (Outcome.Evaluation v) = refl
tried_fits n f h k (Outcome.YesNo b) = refl
tried_fits n f h k (Outcome.Event e) = refl
tried_fits n f h k (Outcome.Timeout Timeout.Pps) = refl
tried_fits n f h k (Outcome.Timeout Timeout.KeepAlive) = refl
tried_fits n f h k (Outcome.Timeout Timeout.FiveSeconds) = refl

sent_fits : (n : Next) → fit n ≡ true → (o : Outcome) → fit (when_sent n o) ≡ fits (action 8 0) o
sent_fits n h = tried_fits n stop h (λ e. refl)

driven_fits : (n : Next) (f : Finish) → fit n ≡ true → (o : Outcome) → fit (when_driven n f o) ≡ fits (action 14 0) o
unfolding fits one_of message_fits timeout_fits
driven_fits n f h Outcome.Done = h
driven_fits n f h (Outcome.Failed e) = refl
driven_fits n f h Outcome.DpmFailed = refl
driven_fits n f h Outcome.NoSafe = refl
driven_fits n f h (Outcome.Message m) = refl
driven_fits n f h (Outcome.Lookup g) = refl
driven_fits n f h (Outcome.Evaluation v) = refl
driven_fits n f h (Outcome.YesNo b) = refl
driven_fits n f h (Outcome.Event e) = refl
driven_fits n f h (Outcome.Timeout Timeout.Pps) = refl
driven_fits n f h (Outcome.Timeout Timeout.KeepAlive) = refl
driven_fits n f h (Outcome.Timeout Timeout.FiveSeconds) = refl

asked_fits : (n m : Next) → fit n ≡ true → fit m ≡ true → (o : Outcome) → fit (when_asked n m o) ≡ fits (action 23 0) o
unfolding fits one_of message_fits timeout_fits
asked_fits n m h k Outcome.Done = refl
asked_fits n m h k (Outcome.Failed e) = refl
asked_fits n m h k Outcome.DpmFailed = refl
asked_fits n m h k Outcome.NoSafe = refl
asked_fits n m h k (Outcome.Message x) = refl
asked_fits n m h k (Outcome.Lookup g) = refl
asked_fits n m h k (Outcome.Evaluation v) = refl
asked_fits n m h k (Outcome.YesNo b) = either fit b h k
asked_fits n m h k (Outcome.Event e) = refl
asked_fits n m h k (Outcome.Timeout Timeout.Pps) = refl
asked_fits n m h k (Outcome.Timeout Timeout.KeepAlive) = refl
asked_fits n m h k (Outcome.Timeout Timeout.FiveSeconds) = refl

-- An action that receives: its messages are given one by one
unfoldable pub hearing : (Message → Bool) → Row
hearing w = record {
  done = false;
  failed = true;
  dpm_failed = false;
  no_safe = false;
  message = w;
  lookup = false;
  evaluation = false;
  yes_no = false;
  event = false;
  pps_timeout = false;
  keep_alive_timeout = false;
  five_seconds_timeout = false;
}

pub as_heard : (a : Action) (w : Message → Bool) → hearing w ≡ row a → (f : Message → Next) (g : ℕ → Next) → ((m : Message) → fit (f m) ≡ w m)
    → ((e : ℕ) → fit (g e) ≡ true) → (o : Outcome) → fit (when_heard f g o) ≡ fits a o
unfolding row hearing fits
as_heard a w r f g h k Outcome.Done = ap (λ x. x.done) r
as_heard a w r f g h k (Outcome.Failed e) = k e ∙ ap (λ x. x.failed) r
as_heard a w r f g h k Outcome.DpmFailed = ap (λ x. x.dpm_failed) r
as_heard a w r f g h k Outcome.NoSafe = ap (λ x. x.no_safe) r
as_heard a w r f g h k (Outcome.Message m) = h m ∙ ap (λ x. x.message m) r
as_heard a w r f g h k (Outcome.Lookup y) = ap (λ x. x.lookup) r
as_heard a w r f g h k (Outcome.Evaluation v) = ap (λ x. x.evaluation) r
as_heard a w r f g h k (Outcome.YesNo b) = ap (λ x. x.yes_no) r
as_heard a w r f g h k (Outcome.Event e) = ap (λ x. x.event) r
as_heard a w r f g h k (Outcome.Timeout Timeout.Pps) = ap (λ x. x.pps_timeout) r
as_heard a w r f g h k (Outcome.Timeout Timeout.KeepAlive) = ap (λ x. x.keep_alive_timeout) r
as_heard a w r f g h k (Outcome.Timeout Timeout.FiveSeconds) = ap (λ x. x.five_seconds_timeout) r

-- The same for every action of the group
pub as_done : (a : Action) → row (action 2 0) ≡ row a → (n : Next) → fit n ≡ true → (o : Outcome) → fit (when_done n o) ≡ fits a o
as_done a h n k o = done_fits n k o ∙ alike (action 2 0) a h o

pub as_tried : (a : Action) → row (action 8 0) ≡ row a → (n : Next) (f : ℕ → Next) → fit n ≡ true → ((e : ℕ) → fit (f e) ≡ true) → (o : Outcome)
    → fit (when_tried n f o) ≡ fits a o
as_tried a h n f k l o = tried_fits n f k l o ∙ alike (action 8 0) a h o

pub as_sent : (a : Action) → row (action 8 0) ≡ row a → (n : Next) → fit n ≡ true → (o : Outcome) → fit (when_sent n o) ≡ fits a o
as_sent a h n k o = sent_fits n k o ∙ alike (action 8 0) a h o

pub as_driven : (a : Action) → row (action 14 0) ≡ row a → (n : Next) (f : Finish) → fit n ≡ true → (o : Outcome) → fit (when_driven n f o) ≡ fits a o
as_driven a h n f k o = driven_fits n f k o ∙ alike (action 14 0) a h o

pub as_asked : (a : Action) → row (action 23 0) ≡ row a → (n m : Next) → fit n ≡ true → fit m ≡ true → (o : Outcome) → fit (when_asked n m o) ≡ fits a o
as_asked a h n m k l o = asked_fits n m k l o ∙ alike (action 23 0) a h o
