-- The rules of the log agree with what each kind of entry does. Assumes nothing.
use Rattle.std.specs.Prelude.{Option}
use Prim.Native.Nat.{ℕ}
use mathlib.Core.Path.{◌≡◌, refl, ap, ◌∙◌}
use mathlib.Core.Bool.{Bool, true, false, ◌&&◌, ◌||◌, true≢false, false≢true}
use mathlib.Core.List.{[], ◌∷◌}
use borrow.Author.Tests.{eqb-true}
use Rattle.notation.specs.Rows.{◌⇒◌∣◌, ◌is◌}
use Rattle.definition.specs.Types.{Settings, Outcome, Message, Action, Kind, Port, PowerSource}
use Rattle.definition.specs.Outcomes.{code}
use Rattle.definition.specs.Paper.{one_of, class}
use Rattle.definition.specs.Log.{Entry, creation, outcome, re_entry, action, Log, ◌▸◌, acts, number, numbered, done, newest, newest_two}
use Rattle.definition.specs.Log.{contract, hard_count}
use Rattle.definition.specs.Log.{caps_count, data_role_of, latest, accepted, Supplied, carried, names_contract, names_hard_count, names_caps_count}
use Rattle.definition.specs.Log.{swap_drives, feeding, names_data_role, names_feeding}
use Rattle.definition.specs.Entries.{trace_code, issues_number, ContractEntries, HardEntries, CapsEntries, RoleEntries, FeedingEntries, RequestEntries}
use Rattle.definition.proofs.Laws.{by_test, or_left, or_right}

-- The newest entry, by its number
named : (n : ℕ) (e : Entry) → number n e ≡ issues_number n e
named n (creation s) = refl
named n (outcome o) = refl
named n (re_entry t b) = refl
named n (action x) = refl

-- The definition's codes are the trace's
pub codes : (o : Outcome) → code o ≡ trace_code o
codes Outcome.Done = refl
codes (Outcome.Failed e) = refl
codes Outcome.DpmFailed = refl
codes Outcome.NoSafe = refl
codes (Outcome.Message m) = refl
codes (Outcome.Lookup f) = refl
codes (Outcome.Evaluation v) = refl
codes (Outcome.YesNo b) = refl
codes (Outcome.Event e) = refl
codes (Outcome.Timeout t) = refl

done_by_code : (o : Outcome) → done (outcome o) ≡ trace_code o is 1
done_by_code o = ap (λ n. n is 1) (codes o)

and_false : (a b : Bool) → b ≡ false → (a && b) ≡ false
and_false true b h = h
and_false false b h = refl

two : (a b : Bool) → (a || (b || false)) ≡ false → (a ≡ false) × (b ≡ false)
two a b h = (or_left a _ h, or_left b false (or_right a _ h))

pub contract_entries : (l : Log) (s : Settings) (e : Entry) (o : Outcome) (a b : Action) (q : PowerSource) (t c : ℕ) → ContractEntries l s e o a b q t c
unfolding contract names_contract one_of
contract_entries l s e o a b q t c = record {
  at_creation = λ h. rw h;
  at_creation_swapped = λ h. rw h;
  reset_then_vbus = λ h k. rw (k, h);
  supply = λ h. rw h;
  supply_done = λ h r d. rw (done_by_code o, d, h, r);
  named_creation = refl;
  named_vbus = λ h k. rw (k, h);
  named_supply = λ h. rw h;
  named_done = λ h d. rw (done_by_code o, d, h);
  vbus_alone = λ k h. rw (k, named 1 e, h);
  other_actions = λ h. rw ((two (b.number is 3) (b.number is 9) h).0, (two (b.number is 3) (b.number is 9) h).1);
  other_outcomes = λ h. rw (done_by_code o, h);
  done_of_others = λ h. and_false (done (outcome o)) _ (named 9 e ∙ h);
  re_entries = refl;
}

pub hard_entries : (l : Log) (s : Settings) (e : Entry) (o : Outcome) (a b : Action) (t c : ℕ) → HardEntries l s e o a b t c
unfolding hard_count names_hard_count one_of
hard_entries l s e o a b t c = record {
  at_first = refl;
  signalled = λ h. rw h;
  cleared = λ h d k. rw (k, done_by_code o, d, h);
  named_signalled = λ h. rw h;
  named_cleared = λ h d k. rw (k, done_by_code o, d, h);
  not_a_4 = λ k h. rw k (and_false (done (outcome o)) _ (named 4 e ∙ h));
  not_done = λ k h. rw (k, done_by_code o, h);
  not_in_a_row = λ k. rw k;
  not_after_a_re_entry = λ k. rw k;
  other_actions = λ h. rw ((two (b.number is 5) (b.number is 13) h).0, (two (b.number is 5) (b.number is 13) h).1);
  outcomes = refl;
  re_entries = refl;
  creations = refl;
}

pub caps_entries : (l : Log) (s : Settings) (e : Entry) (o : Outcome) (a b : Action) (t c : ℕ) → CapsEntries l s e o a b t c
unfolding caps_count names_caps_count one_of
caps_entries l s e o a b t c = record {
  at_first = refl;
  timed = λ h k. rw (h, k);
  reset_then_vbus = λ h k. rw (k, h);
  reset_then_swap_timer = λ h k j. rw (k, j, h);
  named_timed = λ h k. rw (h, k);
  named_vbus = λ h k. rw (k, h);
  named_swap_timer = λ h k j. rw (k, j, h);
  vbus_alone = λ k h. rw (k, named 1 e, h);
  swap_timer_alone = λ k j h. rw (k, j, named 1 e, h);
  other_timers = λ k h. rw (k, (two (b.argument is 1) (b.argument is 2) h).0, (two (b.argument is 1) (b.argument is 2) h).1);
  other_actions = λ h. rw ((two (b.number is 2) (b.number is 3) h).0, (two (b.number is 2) (b.number is 3) h).1);
  outcomes = refl;
  re_entries = refl;
  creations = refl;
}

other_message : (l : Log) (m : Message) → one_of (0 ∷ 1 ∷ []) (class m) ≡ false
    → (latest (l ▸ outcome (Outcome.Message m)) ≡ latest l) × (accepted (l ▸ outcome (Outcome.Message m)) ≡ accepted l)
unfolding latest accepted one_of
other_message l (Message.Request p) h = absurd (true≢false h)
other_message l (Message.EprRequest p) h = absurd (true≢false h)
other_message l (Message.EprMode p) h = (refl, refl)
other_message l (Message.Control t) h = (refl, refl)
other_message l (Message.ExtendedControl p) h = (refl, refl)
other_message l Message.Other h = (refl, refl)
other_message l (Message.SinkCapabilities good) h = (refl, refl)
other_message l (Message.EprSinkCapabilities good) h = (refl, refl)

other_latest : (l : Log) (o : Outcome) → one_of (5 ∷ 6 ∷ []) (trace_code o) ≡ false → latest (l ▸ outcome o) ≡ latest l
unfolding latest one_of
other_latest l Outcome.Done h = refl
other_latest l (Outcome.Failed e) h = refl
other_latest l Outcome.DpmFailed h = refl
other_latest l Outcome.NoSafe h = refl
other_latest l (Outcome.Message m) h = absurd (true≢false h)
other_latest l (Outcome.Lookup f) h = absurd (true≢false h)
other_latest l (Outcome.Evaluation v) h = refl
other_latest l (Outcome.YesNo b) h = refl
other_latest l (Outcome.Event e) h = refl
other_latest l (Outcome.Timeout t) h = refl

other_accepted : (l : Log) (o : Outcome) → one_of (5 ∷ 7 ∷ []) (trace_code o) ≡ false → accepted (l ▸ outcome o) ≡ accepted l
unfolding accepted one_of
other_accepted l Outcome.Done h = refl
other_accepted l (Outcome.Failed e) h = refl
other_accepted l Outcome.DpmFailed h = refl
other_accepted l Outcome.NoSafe h = refl
other_accepted l (Outcome.Message m) h = absurd (true≢false h)
other_accepted l (Outcome.Lookup f) h = refl
other_accepted l (Outcome.Evaluation v) h = absurd (true≢false h)
other_accepted l (Outcome.YesNo b) h = refl
other_accepted l (Outcome.Event e) h = refl
other_accepted l (Outcome.Timeout t) h = refl

before_it : (l : Log) (e : Entry) → Supplied (l ▸ e) → Supplied l
unfolding Supplied
before_it l (creation s) h = h
before_it l (outcome o) h = h
before_it l (re_entry t b) h = h
before_it l (action x) h = h.1

-- An action of none of these numbers is none of that number and argument
not_numbered : (n k : ℕ) (e : Entry) → issues_number n e ≡ false → acts (numbered n k) e ≡ false
not_numbered n k (creation s) h = refl
not_numbered n k (outcome o) h = refl
not_numbered n k (re_entry t b) h = refl
not_numbered n k (action x) h = rw h

-- One of three numbers is none of the others
one_of_three : (P : ℕ → Type 0) (n : ℕ) → P 27 → P 28 → P 29 → one_of (27 ∷ 28 ∷ 29 ∷ []) n ≡ true → P n
unfolding one_of
one_of_three P n a b c h = by_test (n is 27) (λ e. rw (eqb-true n 27 e) a)
    (λ e. by_test (n is 28) (λ f. rw (eqb-true n 28 f) b) (λ f. by_test (n is 29) (λ g. rw (eqb-true n 29 g) c) (λ g. absurd (false≢true (rw (e, f, g) at h)))))

-- One of two arguments
either_argument : (z w : Bool) → (z || (w || false)) ≡ true → (z || w) ≡ true
either_argument true w h = refl
either_argument false true h = refl
either_argument false false h = h

pub role_entries : (l : Log) (s : Settings) (e : Entry) (o : Outcome) (a b : Action) (t c : ℕ) → RoleEntries l s e o a b t c
unfolding data_role_of names_data_role names_contract names_hard_count names_caps_count one_of
role_entries l s e o a b t c = record {
  at_first = refl;
  at_creation = refl;
  swapped_to_ufp = λ n z d. rw (done_by_code o, d, n, z);
  swapped_to_dfp = λ n z d. rw (done_by_code o, d, n, z);
  named_creation = refl;
  named_swap = λ n z d. rw (done_by_code o, d, n) (either_argument (a.argument is 0) (a.argument is 1) z);
  other_outcomes = λ h. rw (done_by_code o, h);
  done_of_others = λ h. rw (not_numbered 28 0 e h, not_numbered 28 1 e h) (and_false (done (outcome o)) false refl);
  actions = refl;
  re_entries = refl;
  contract_untouched = one_of_three (λ n. (n is 3 && newest (number 1) l || n is 9) ≡ false) b.number refl refl refl;
  hard_count_untouched = one_of_three (λ n. (n is 13 || n is 5 && newest_two (number 4) done l) ≡ false) b.number refl refl refl;
  caps_count_untouched = one_of_three
      (λ n. (n is 2 && b.argument is 2 || (n is 3 || n is 2 && b.argument is 1) && newest (number 1) l) ≡ false) b.number refl refl refl;
  contract_untouched_by_their_outcomes = λ h. and_false (done (outcome o)) _ (one_of_three (λ n. n is 9 ≡ false) a.number refl refl refl h);
}

-- A test that fails, fails beside any other
and_nothing : (b : Bool) → (b && false) ≡ false
and_nothing b = and_false b false refl

-- A choice among the same
all_alike : {A : Type 0} (d f : Bool) (x : A) → (d ⇒ x ∣ f ⇒ x ∣ x) ≡ x
all_alike true f x = refl
all_alike false true x = refl
all_alike false false x = refl

-- A 14 that is named, whatever it names
driven_named : (z w : Bool) → (z || (w || false)) ≡ true → (z && true || w && true) ≡ true
driven_named true w h = refl
driven_named false true h = refl
driven_named false false h = h

pub feeding_entries : (l : Log) (s : Settings) (e : Entry) (n o : Outcome) (x a b : Action) (p : Port) (v : Bool) (t c : ℕ)
    → FeedingEntries l s e n o x a b p v t c
unfolding feeding names_feeding names_contract names_hard_count names_caps_count one_of
feeding_entries l s e n o x a b p v t c = record {
  at_creation = refl;
  turned_off = λ g f m h k d. rw (done_by_code o, d, h, k, done_by_code n, m, f, g);
  turned_on = λ g f m h k d. rw (done_by_code o, d, h, k, done_by_code n, m, f, g);
  named_after_a_message = λ m h k d. rw (done_by_code o, d, h, done_by_code n, m) (driven_named (a.argument is 0) (a.argument is 1) k);
  named_after_accept = λ j h k d. rw (done_by_code o, d, h, j, and_nothing (done (outcome n))) (driven_named (a.argument is 0) (a.argument is 1) k);
  named_after_a_timer = λ j i h k d.
      rw (done_by_code o, d, h, j, i, and_nothing (done (outcome n))) (driven_named (a.argument is 0) (a.argument is 1) k);
  default_after_2_3 = λ j i m h. rw (done_by_code n, m, h, j, i, and_nothing (a.argument is 0), and_nothing (a.argument is 1)) (and_nothing (done (outcome o)));
  default_after_15 = λ j m h. rw (done_by_code n, m, h, j, and_nothing (a.argument is 0), and_nothing (a.argument is 1)) (and_nothing (done (outcome o)));
  reset_then_vbus = λ g f h k. rw (k, h, f, g);
  reset_then_swap_timer = λ g f h k j. rw (k, j, h, f, g);
  named_vbus = λ h k. rw (k, h);
  named_swap_timer = λ h k j. rw (k, j, h);
  vbus_alone = λ k h. rw (k, named 1 e, h);
  swap_timer_alone = λ k j h. rw (k, j, named 1 e, h);
  outcomes_under_crate = λ g f. rw (f, g) (all_alike (done (outcome o) && swap_drives 0 l) (done (outcome o) && swap_drives 1 l) _);
  actions_under_crate = λ g f. rw (f, g) (all_alike ((a.number is 3 || numbered 2 1 a) && newest (number 1) l) false _);
  named_creation = refl;
  other_outcomes = λ h. rw (done_by_code o, h);
  done_of_others = λ h. rw (not_numbered 14 0 e h, not_numbered 14 1 e h) (and_nothing (done (outcome o)));
  other_timers = λ k h. rw (k, h);
  other_actions = λ h. rw ((two (b.number is 2) (b.number is 3) h).0, (two (b.number is 2) (b.number is 3) h).1);
  re_entries = refl;
  contract_untouched = λ h. rw h (and_nothing (done (outcome o)));
  hard_count_untouched = refl;
  caps_count_untouched = refl;
}

pub request_entries : (l : Log) (s : Settings) (e : Entry) (o : Outcome) (m : Message) (f : Option Kind) (a : Action) (q : PowerSource) (t c : ℕ)
    → RequestEntries l s e o m f a q t c
unfolding latest accepted Supplied
request_entries l s e o m f a q t c = record {
  none_at_first = refl;
  asked = refl;
  asked_in_epr = refl;
  asked_badly = refl;
  asked_badly_in_epr = refl;
  found = λ h. rw h;
  found_for_nothing = λ h. rw h;
  other_messages = λ h. (other_message l m h).0;
  other_outcomes = other_latest l o;
  actions = refl;
  re_entries = refl;
  creations = refl;
  none_accepted_at_first = refl;
  accepted_it = refl;
  rejected_it = refl;
  told_to_wait = refl;
  asked_anew = refl;
  asked_anew_in_epr = refl;
  not_asked_anew = refl;
  not_asked_anew_in_epr = refl;
  accepted_over_messages = λ h. (other_message l m h).1;
  accepted_over_outcomes = other_accepted l o;
  accepted_over_actions = refl;
  accepted_over_re_entries = refl;
  accepted_over_creations = refl;
  supplied = λ h n r.
      ((h.0 (ap (λ x. x is 9) n)).0 ∙ ap carried r, (h.0 (ap (λ x. x is 9) n)).1 ∙ ap carried r);
  supplied_before = before_it l e;
}
