-- The dispatch sentences hold. Assumes nothing.
use Prim.Native.Nat.{ℕ, suc, ◌/◌, ◌<◌, ◌≤◌}
use mathlib.Core.Path.{◌≡◌, refl, sym, ◌∙◌}
use mathlib.Core.Bool.{Bool, true, false, ◌||◌}
use native.Mathlib.Omega.{arith}
use lib.Dec.{eqb, leb, ltb, lit≤}
use borrow.Author.Tests.{ne_eqb, lt-ltb, le-ltb, leb-true, leb-false}
use Rattle.notation.specs.Rows.{◌⇒◌∣◌}
use Rattle.definition.specs.Next.{Next}
use Rattle.definition.specs.Messages.{dispatched, epr_mode, epr_action, control, extended_control, extended_type}
use Rattle.definition.specs.Paper.{one_of, argument_named}
use Rattle.definition.specs.Sentences.{Sentences, ActionList, FlagList}
use Rattle.definition.proofs.Laws.{by_test}

-- Where no row's number is meant, the last row is the answer
skip : (b rest : Bool) (x y z : Next) → (b || rest) ≡ false → (rest ≡ false → y ≡ z) → (b ⇒ x ∣ y) ≡ z
skip true rest x y z h k = absurd_row h
  where
    absurd_row : true ≡ false → x ≡ z
    absurd_row e = cc
skip false rest x y z h k = k h

pub sentences : Sentences
unfolding dispatched epr_mode epr_action control extended_control extended_type one_of
sentences = record {
  class_0 = λ p. refl;
  class_1 = λ p. refl;
  class_2 = λ p. refl;
  class_3 = λ t. refl;
  class_4 = λ p. refl;
  class_5 = refl;
  class_6 = λ g. refl;
  class_7 = λ g. refl;
  request_outside_spr = λ d p. refl;
  epr_request_outside_epr = λ d p. refl;
  bad_request = λ d. refl;
  bad_epr_request = λ d. refl;
  good_request = λ d q. refl;
  good_epr_request = λ d q. refl;
  enter_in_spr = λ d w h. rw h;
  enter_in_epr = λ d w h. rw h;
  exit_in_spr = λ d w h. rw h;
  exit_in_epr = λ d w h. rw h;
  other_actions = λ m d w. λ h0. skip (eqb (w / 16777216) 1) _ _ _ _ h0 (λ h1. skip (eqb (w / 16777216) 5) _ _ _ _ h1 (λ h2. refl));
  bad_epr_mode = λ m d. refl;
  control_13 = λ m d. refl;
  control_7_in_spr = λ d. refl;
  control_7_in_epr = λ d. refl;
  control_11 = λ m d. refl;
  control_9_not_dual = λ m. refl;
  control_9_in_epr = refl;
  control_9_in_spr = refl;
  control_10 = λ m. refl;
  control_19 = λ m. refl;
  control_8 = λ m. refl;
  control_10_not_dual = λ m. refl;
  control_19_not_dual = λ m. refl;
  control_8_not_dual = λ m. refl;
  control_16 = λ m d. refl;
  extended_1_in_spr = λ d. refl;
  extended_1_in_epr = λ d. refl;
  extended_2 = λ m. refl;
  extended_2_not_dual = λ m. refl;
  extended_3 = λ m d. refl;
  other_controls = λ m d t. λ h0. skip (eqb t 13) _ _ _ _ h0
      (λ h1. skip (eqb t 7) _ _ _ _ h1 (λ h2. skip (eqb t 11) _ _ _ _ h2
      (λ h3. skip (eqb t 9) _ _ _ _ h3 (λ h4. skip (eqb t 10) _ _ _ _ h4
      (λ h5. skip (eqb t 19) _ _ _ _ h5 (λ h6. skip (eqb t 8) _ _ _ _ h6 (λ h7. skip (eqb t 16) _ _ _ _ h7 (λ h8. refl))))))));
  other_extended = λ m d t. λ h0. skip (eqb t 1) _ _ _ _ h0 (λ h1. skip (eqb t 2) _ _ _ _ h1 (λ h2. skip (eqb t 3) _ _ _ _ h2 (λ h3. refl)));
  bad_extended = λ m d. refl;
  others = λ m d. refl;
  sink_capabilities = λ m d g. refl;
  epr_sink_capabilities = λ m d g. refl;
}

below : (a n : ℕ) → leb a n ≡ ltb a (suc n)
below a n = by_test (leb a n) (λ h. h ∙ sym (lt-ltb a (suc n) (let k : a ≤ n = leb-true a n h in omega arith)))
    (λ h. h ∙ sym (le-ltb a (suc n) (let k : n < a = leb-false a n h in omega arith)))

apart : (n k : ℕ) → 29 < n → k ≤ 29 → eqb n k ≡ false
apart n k h j = ne_eqb n k (λ e. omega arith)

pub action_list : ActionList
unfolding argument_named one_of
action_list = record {
  list_0 = λ a. refl;
  list_1 = λ a. refl;
  list_2 = λ a. refl;
  list_3 = λ a. refl;
  list_4 = λ a. refl;
  list_5 = λ a. refl;
  list_6 = λ a. refl;
  list_7 = λ a. refl;
  list_8 = λ a. below a 31;
  list_9 = λ a. refl;
  list_10 = λ a. refl;
  list_11 = λ a. below a 3;
  list_12 = λ a. refl;
  list_13 = λ a. refl;
  list_14 = λ a. refl;
  list_15 = λ a. refl;
  list_16 = λ a. below a 255;
  list_17 = λ a. refl;
  list_18 = λ a. refl;
  list_19 = λ a. refl;
  list_20 = λ a. refl;
  list_21 = λ a. refl;
  list_22 = λ a. refl;
  list_23 = λ a. refl;
  list_24 = λ a. refl;
  list_25 = λ a. refl;
  list_26 = λ a. refl;
  list_27 = λ a. refl;
  list_28 = λ a. refl;
  list_29 = λ a. refl;
  list_ends = λ n a h.
      rw (
        apart n 2 h (lit≤ tt),
        apart n 4 h (lit≤ tt),
        apart n 5 h (lit≤ tt),
        apart n 14 h (lit≤ tt),
        apart n 20 h (lit≤ tt),
        apart n 22 h (lit≤ tt),
        apart n 8 h (lit≤ tt),
        apart n 11 h (lit≤ tt),
        apart n 16 h (lit≤ tt),
        apart n 17 h (lit≤ tt),
        apart n 18 h (lit≤ tt),
        apart n 1 h (lit≤ tt),
        apart n 3 h (lit≤ tt),
        apart n 6 h (lit≤ tt),
        apart n 7 h (lit≤ tt),
        apart n 9 h (lit≤ tt),
        apart n 10 h (lit≤ tt),
        apart n 12 h (lit≤ tt),
        apart n 13 h (lit≤ tt),
        apart n 15 h (lit≤ tt),
        apart n 19 h (lit≤ tt),
        apart n 21 h (lit≤ tt),
        apart n 23 h (lit≤ tt),
        apart n 24 h (lit≤ tt),
        apart n 25 h (lit≤ tt),
        apart n 26 h (lit≤ tt),
        apart n 27 h (lit≤ tt),
        apart n 28 h (lit≤ tt),
        apart n 29 h (lit≤ tt),
      );
}

pub flag_list : (hard caps : ℕ) → FlagList hard caps
flag_list hard caps = record { no_flag = refl; flag_1 = refl; flag_2 = refl; flag_4 = refl; flag_8 = refl }
