-- Laws on tests and choices. Assumes nothing.
use Prim.Native.Nat.{ℕ, zero, suc}
use mathlib.Core.Path.{◌≡◌, refl, ap, sym, ◌∙◌}
use mathlib.Core.Bool.{Bool, true, false, not, ◌&&◌, ◌||◌}
use native.Mathlib.Omega.{arith}
use lib.Dec.{eqb, leb, ltb, eqb-suc-zero}
use borrow.Author.Tests.{lt-ltb, le-leb, lt-leb, ltb-true, ltb-false}

-- A test is true or false
pub by_test : {P : Type 0} (b : Bool) → (b ≡ true → P) → (b ≡ false → P) → P
by_test true f g = f refl
by_test false f g = g refl

pub and_left : (a b : Bool) → (a && b) ≡ true → a ≡ true
and_left true b h = refl
and_left false b h = h

pub and_right : (a b : Bool) → (a && b) ≡ true → b ≡ true
and_right true b h = h
and_right false true h = refl
and_right false false h = h

pub or_left : (a b : Bool) → (a || b) ≡ false → a ≡ false
or_left true b h = h
or_left false b h = refl

pub or_right : (a b : Bool) → (a || b) ≡ false → b ≡ false
or_right true true h = h
or_right true false h = refl
or_right false b h = h

-- Above 0 is other than 0
pub positive : (n : ℕ) → ltb 0 n ≡ not (eqb n 0)
positive zero = refl
positive (suc n) = lt-ltb 0 (suc n) (omega arith) ∙ sym (ap not (eqb-suc-zero n))

-- At most is not above
pub at_most : (a b : ℕ) → leb a b ≡ not (ltb b a)
at_most a b = by_test (ltb b a) (λ h. lt-leb a b (ltb-true b a h) ∙ sym (ap not h)) (λ h. le-leb a b (ltb-false b a h) ∙ sym (ap not h))
