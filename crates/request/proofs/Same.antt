-- "Explicit of that request": two requests are the same exactly when they are equal. Assumes nothing.
use Prim.Native.Nat.{ℕ}
use mathlib.Core.Path.{◌≡◌, refl, sym, ◌∙◌}
use mathlib.Core.Bool.{Bool, true, false, ◌&&◌, false≢true}
use lib.Dec.{eqb}
use borrow.Author.Tests.{eqb-true, eq-eqb}
use Rattle.notation.specs.Rows.{◌⇒◌∣◌, ◌is◌}
use Rattle.request.specs.Types.{PowerSource}
use Rattle.request.specs.Requests.{kind, first, second, same}
use Rattle.request.specs.contracts.PowerSourcePartialEq.TheImpl as derived

-- "A request is a kind .. and two 32-bit words": these three are all of it
unfoldable of_words : ℕ → ℕ → ℕ → PowerSource
of_words k w v =
    k is 0 ⇒ PowerSource.FixedVariableSupply (record { 0 = w }) ∣
    k is 1 ⇒ PowerSource.Battery (record { 0 = w }) ∣
    k is 2 ⇒ PowerSource.Pps (record { 0 = w }) ∣
    k is 3 ⇒ PowerSource.Avs (record { 0 = w }) ∣
    k is 4 ⇒ PowerSource.Unknown (record { 0 = w }) ∣
    PowerSource.EprRequest (record { rdo = w; pdo = v })

whole : (q : PowerSource) → of_words (kind q) (first q) (second q) ≡ q
unfolding of_words
whole (PowerSource.FixedVariableSupply w) = refl
whole (PowerSource.Battery w) = refl
whole (PowerSource.Pps w) = refl
whole (PowerSource.Avs w) = refl
whole (PowerSource.Unknown w) = refl
whole (PowerSource.EprRequest w) = refl

all_three : (a b c : Bool) → (a && (b && c)) ≡ true → (a ≡ true) × (b ≡ true) × (c ≡ true)
all_three true true c h = (refl, refl, h)
all_three true false c h = absurd (false≢true h)
all_three false b c h = absurd (false≢true h)

-- Two requests that it calls the same are equal
pub same_equal : (a b : PowerSource) → same a b ≡ true → a ≡ b
unfolding same
same_equal a b h =
    let t : (eqb (kind a) (kind b) ≡ true) × (eqb (first a) (first b) ≡ true) × (eqb (second a) (second b) ≡ true) =
    all_three (eqb (kind a) (kind b)) (eqb (first a) (first b)) (eqb (second a) (second b)) h in
    sym (whole a) ∙ rw (eqb-true (kind a) (kind b) t.0, eqb-true (first a) (first b) t.1, eqb-true (second a) (second b) t.2) (whole b)

-- and it calls equal ones the same
pub same_itself : (q : PowerSource) → same q q ≡ true
unfolding same
same_itself q = rw (eq-eqb (kind q) (kind q) refl, eq-eqb (first q) (first q) refl, eq-eqb (second q) (second q) refl)

pub equal_same : (a b : PowerSource) → a ≡ b → same a b ≡ true
equal_same a b e = rw e (same_itself b)

and_true : (b : Bool) → b ≡ (b && true)
and_true true = refl
and_true false = refl

-- The derived `==` is the definition's
pub derived_same : (a b : PowerSource) → (derived.ghosts).eq a b ≡ same a b
unfolding same
derived_same (PowerSource.FixedVariableSupply w) (PowerSource.FixedVariableSupply v) = and_true (eqb w.0 v.0)
derived_same (PowerSource.FixedVariableSupply w) _ = refl
derived_same (PowerSource.Battery w) (PowerSource.Battery v) = and_true (eqb w.0 v.0)
derived_same (PowerSource.Battery w) _ = refl
derived_same (PowerSource.Pps w) (PowerSource.Pps v) = and_true (eqb w.0 v.0)
derived_same (PowerSource.Pps w) _ = refl
derived_same (PowerSource.Avs w) (PowerSource.Avs v) = and_true (eqb w.0 v.0)
derived_same (PowerSource.Avs w) _ = refl
derived_same (PowerSource.Unknown w) (PowerSource.Unknown v) = and_true (eqb w.0 v.0)
derived_same (PowerSource.Unknown w) _ = refl
derived_same (PowerSource.EprRequest w) (PowerSource.EprRequest v) = refl
derived_same (PowerSource.EprRequest w) _ = refl
