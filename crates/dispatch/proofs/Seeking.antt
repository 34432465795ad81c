-- The search of the code, from the first row of a class to its end, finds what the search of all rows finds. Assumes nothing.
use Rattle.std.proofs.Common.{ℕ, suc, ◌+◌, ◌-◌, ◌<◌, ◌≤◌, Bool, true, false, ◌≡◌, refl, sym, ap, ap₂, ◌∙◌, arith, Option}
use Rattle.notation.specs.Rows.{◌⇒◌∣◌}
use Rattle.definition.specs.Types.{Mode}
use Rattle.dispatch.specs.declared.rows.Class.{Class}
use Rattle.dispatch.specs.declared.rows.Row.{Row}
use Rattle.dispatch.specs.Rows.{rule, last}
use Rattle.dispatch.specs.Search.{seek, found, answers, first_of, end_of}

-- What is found from n on, below end, is what is found from the top
abbrev pub Kept : Class → Option ℕ → Mode → Bool → Bool → ℕ → ℕ → Type 0
Kept class t m dual bad end n = seek (answers class t m dual bad) (end - n) n ≡ found class t m dual bad

-- No row of a class stands outside its part
together : (class : Class) (t : Option ℕ) (m : Mode) (dual bad : Bool) → Kept class t m dual bad (end_of class) (first_of class)
unfolding seek found answers rule
together Class.Request t m dual bad = refl
together Class.EprRequest t m dual bad = refl
together Class.EprMode t m dual bad = refl
together Class.Control t m dual bad = refl
together Class.ExtendedControl t m dual bad = refl

pub begun : (class : Class) (t : Option ℕ) (m : Mode) (dual bad : Bool) (end n : ℕ) → end ≡ end_of class → n ≡ first_of class
    → Kept class t m dual bad end n
begun class t m dual bad end n is_end is_first =
    ap₂ (λ e k. seek (answers class t m dual bad) (e - k) k) is_end is_first ∙ together class t m dual bad

-- The row at n answers or it does not, and b says which
row_at : (answering : Row → Bool) (end n : ℕ) (r : Row) (b : Bool) → r ≡ rule n → b ≡ answering r → n < end
    → (b ⇒ n ∣ seek answering (end - (n + 1)) (n + 1)) ≡ seek answering (end - n) n
unfolding seek
row_at answering end n r b is_rule is_answer below =
    ap (λ a. a ⇒ n ∣ seek answering (end - (n + 1)) (n + 1)) (is_answer ∙ ap answering is_rule)
    ∙ ap (λ k. seek answering k n) {x = suc (end - (n + 1))} {y = end - n} (omega (arith, below))

pub stopped : (class : Class) (t : Option ℕ) (m : Mode) (dual bad : Bool) (end n : ℕ) (r : Row) (b : Bool) → r ≡ rule n
    → b ≡ answers class t m dual bad r → b ≡ true → n < end → Kept class t m dual bad end n → n ≡ found class t m dual bad
stopped class t m dual bad end n r b is_rule is_answer so below kept = row_at _ end n r true is_rule (sym so ∙ is_answer) below ∙ kept

pub went_on : (class : Class) (t : Option ℕ) (m : Mode) (dual bad : Bool) (end n : ℕ) (r : Row) (b : Bool) → r ≡ rule n
    → b ≡ answers class t m dual bad r → b ≡ false → n < end → Kept class t m dual bad end n → Kept class t m dual bad end (n + 1)
went_on class t m dual bad end n r b is_rule is_answer so below kept = row_at _ end n r false is_rule (sym so ∙ is_answer) below ∙ kept

-- Past the end there is the last row
pub ended : (class : Class) (t : Option ℕ) (m : Mode) (dual bad : Bool) (end n : ℕ) → end ≤ n → Kept class t m dual bad end n
    → last ≡ found class t m dual bad
unfolding seek
ended class t m dual bad end n past kept = ap (λ k. seek (answers class t m dual bad) k n) {x = 0} {y = end - n} (omega (arith, past)) ∙ kept
