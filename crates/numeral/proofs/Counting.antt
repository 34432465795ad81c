-- Counting up from 0 spells each number below 10,000 in decimal. Assumes nothing.
use Prim.Native.Nat.{ℕ, zero, suc, ◌+◌, ◌*◌, ◌/◌, ◌%◌, ◌≤◌, ◌<◌}
use mathlib.Core.Logic.{⊎_elim}
use mathlib.Core.Path.{◌≡◌, refl, ap, ◌∙◌}
use native.Mathlib.Nat.{div-div-eq-div-mul}
use native.Mathlib.Omega.{arith}
use borrow.Author.Tests.{lt-ltb, le-ltb, ne_eqb}
use Rattle.std.proofs.lemmas.Bool.{cases_lt}
use Rattle.numeral.specs.Decimal.{decimal}
use Rattle.numeral.specs.Numeral.{numeral, following, spelled, counted}

-- The number of four bytes whose digits are a, b, c and d
abbrev of : ℕ → ℕ → ℕ → ℕ → ℕ
of a b c d = 48 + a + 256 * (48 + b) + 65536 * (48 + c) + 16777216 * (48 + d)

by_digits : (k a b c d : ℕ) → k ≡ 1000 * a + 100 * b + 10 * c + d → b < 10 → c < 10 → d < 10 → numeral k ≡ of a b c d
by_digits k a b c d e hb hc hd =
    let ea : k / 1000 ≡ a = omega arith in
    let eb : k / 100 % 10 ≡ b = omega arith in
    let ec : k / 10 % 10 ≡ c = omega arith in
    let ed : k % 10 ≡ d = omega arith in
    simp (ea, eb, ec, ed)

-- The next numeral, by the digits that are 9 at its end
module _ (n m a b c : ℕ) (ha : a < 10) (hb : b < 10) (hc : c < 10) where
  past_none : (d : ℕ) → d < 9 → n ≡ of a b c d → m ≡ of a b c (suc d) → following n ≡ m
  unfolding following
  past_none d hd e f = simp (lt-ltb (n / 16777216) 57 (omega arith)) (omega arith)

  past_one : c < 9 → n ≡ of a b c 9 → m ≡ of a b (suc c) 0 → following n ≡ m
  unfolding following
  past_one h e f = simp (le-ltb (n / 16777216) 57 (omega arith), lt-ltb (n / 65536 % 256) 57 (omega arith)) (omega arith)

  past_two : b < 9 → n ≡ of a b 9 9 → m ≡ of a (suc b) 0 0 → following n ≡ m
  unfolding following
  past_two h e f =
      simp (le-ltb (n / 16777216) 57 (omega arith), le-ltb (n / 65536 % 256) 57 (omega arith), lt-ltb (n / 256 % 256) 57 (omega arith))
      (omega arith)

  past_three : n ≡ of a 9 9 9 → m ≡ of (suc a) 0 0 0 → following n ≡ m
  unfolding following
  past_three e f =
      simp (le-ltb (n / 16777216) 57 (omega arith), le-ltb (n / 65536 % 256) 57 (omega arith), le-ltb (n / 256 % 256) 57 (omega arith))
      (omega arith)

module _
    (k a b c d : ℕ)
    (e : k ≡ 1000 * a + 100 * b + 10 * c + d)
    (ha : a < 10) (hb : b < 10) (hc : c < 10) (hd : d < 10) (hk : k < 9999) where
  with_nines : 9 ≤ d → 9 ≤ c → 9 ≤ b → following (numeral k) ≡ numeral (suc k)
  with_nines h g f =
      past_three (numeral k) (numeral (suc k)) a b c ha hb hc
      (by_digits k a 9 9 9 (omega arith) (omega arith) (omega arith) (omega arith))
      (by_digits (suc k) (suc a) 0 0 0 (omega arith) (omega arith) (omega arith) (omega arith))

  with_two : 9 ≤ d → 9 ≤ c → b < 9 → following (numeral k) ≡ numeral (suc k)
  with_two h g f =
      past_two (numeral k) (numeral (suc k)) a b c ha hb hc f
      (by_digits k a b 9 9 (omega arith) hb (omega arith) (omega arith))
      (by_digits (suc k) a (suc b) 0 0 (omega arith) (omega arith) (omega arith) (omega arith))

  with_one : 9 ≤ d → c < 9 → following (numeral k) ≡ numeral (suc k)
  with_one h g =
      past_one (numeral k) (numeral (suc k)) a b c ha hb hc g
      (by_digits k a b c 9 (omega arith) hb hc (omega arith))
      (by_digits (suc k) a b (suc c) 0 (omega arith) hb (omega arith) (omega arith))

  with_none : d < 9 → following (numeral k) ≡ numeral (suc k)
  with_none h =
      past_none (numeral k) (numeral (suc k)) a b c ha hb hc d h (by_digits k a b c d e hb hc hd)
      (by_digits (suc k) a b c (suc d) (omega arith) hb hc (omega arith))

  with_digits : following (numeral k) ≡ numeral (suc k)
  with_digits =
      ⊎_elim with_none (λ h. ⊎_elim (with_one h) (λ g. ⊎_elim (with_two h g) (with_nines h g) (cases_lt b 9)) (cases_lt c 9)) (cases_lt d 9)

pub following_numeral : (k : ℕ) → k < 9999 → following (numeral k) ≡ numeral (suc k)
following_numeral k h =
    with_digits k (k / 1000) (k / 100 % 10) (k / 10 % 10) (k % 10) (omega arith) (omega arith) (omega arith) (omega arith) (omega arith) h

pub counted_numeral : (k : ℕ) → k < 10000 → counted k ≡ numeral k
counted_numeral zero h = refl
counted_numeral (suc k) h = ap following (counted_numeral k (omega arith)) ∙ following_numeral k (omega arith)

-- The digits of the last two, and of the first two
tens_of : (k : ℕ) → k % 100 / 10 ≡ k / 10 % 10
tens_of k = omega arith

ones_of : (k : ℕ) → k % 100 % 10 ≡ k % 10
ones_of k = omega arith

thousands_of : (k : ℕ) → k / 100 / 10 ≡ k / 1000
thousands_of k = div-div-eq-div-mul k 100 10

-- What the bytes of a numeral spell
module _
    (n k : ℕ)
    (e0 : n % 256 ≡ 48 + k / 1000)
    (e1 : n / 256 % 256 ≡ 48 + k / 100 % 10)
    (e2 : n / 65536 % 256 ≡ 48 + k / 10 % 10)
    (e3 : n / 16777216 ≡ 48 + k % 10) where
  spells_one : k < 10 → spelled n ≡ decimal k
  unfolding spelled decimal
  spells_one h =
      let f0 : n % 256 ≡ 48 = omega arith in
      let f1 : n / 256 % 256 ≡ 48 = omega arith in
      let f2 : n / 65536 % 256 ≡ 48 = omega arith in
      let f3 : n / 16777216 ≡ 48 + k = omega arith in
      simp (f0, f1, f2, f3, lt-ltb k 10 h)

  spells_two : 10 ≤ k → k < 100 → spelled n ≡ decimal k
  unfolding spelled decimal
  spells_two g h =
      let f0 : n % 256 ≡ 48 = omega arith in
      let f1 : n / 256 % 256 ≡ 48 = omega arith in
      let f2 : n / 65536 % 256 ≡ 48 + k / 10 = omega arith in
      simp (f0, f1, f2, e3, ne_eqb (48 + k / 10) 48 (λ e. omega arith), le-ltb k 10 g, lt-ltb k 100 h)

  spells_three : 100 ≤ k → k < 1000 → spelled n ≡ decimal k
  unfolding spelled decimal
  spells_three g h =
      let f0 : n % 256 ≡ 48 = omega arith in
      let f1 : n / 256 % 256 ≡ 48 + k / 100 = omega arith in
      simp (f0, f1, e2, e3, tens_of k, ones_of k, ne_eqb (48 + k / 100) 48 (λ e. omega arith), le-ltb k 10 (omega arith), le-ltb k 100 g, lt-ltb k 1000 h)

  spells_four : 1000 ≤ k → k < 10000 → spelled n ≡ decimal k
  unfolding spelled decimal
  spells_four g h =
      simp (
        e0,
        e1,
        e2,
        e3,
        thousands_of k,
        tens_of k,
        ones_of k,
        ne_eqb (48 + k / 1000) 48 (λ e. omega arith),
        le-ltb k 10 (omega arith),
        le-ltb k 100 (omega arith),
        le-ltb k 1000 g,
        lt-ltb k 10000 h,
      )

  spells : k < 10000 → spelled n ≡ decimal k
  spells h =
      ⊎_elim spells_one (λ g. ⊎_elim (spells_two g) (λ g. ⊎_elim (spells_three g) (λ g. spells_four g h) (cases_lt k 1000)) (cases_lt k 100)) (cases_lt k 10)

pub digits_of : (n k : ℕ) → n ≡ numeral k → k < 10000 → spelled n ≡ decimal k
digits_of n k e h =
    let ha : k / 1000 < 10 = omega arith in
    let hb : k / 100 % 10 < 10 = omega arith in
    let hc : k / 10 % 10 < 10 = omega arith in
    let hd : k % 10 < 10 = omega arith in
    spells n k (omega arith) (omega arith) (omega arith) (omega arith) h

-- The numeral of k spells k in decimal
pub spelled_numeral : (k : ℕ) → k < 10000 → spelled (numeral k) ≡ decimal k
spelled_numeral k h = digits_of (numeral k) k refl h

-- Counting k times from the first numeral spells k in decimal
pub spelled_counted : (k : ℕ) → k < 10000 → spelled (counted k) ≡ decimal k
spelled_counted k h = ap spelled (counted_numeral k h) ∙ spelled_numeral k h
