-- "After a reset the first N increments succeed; the next fails and leaves N", for every N; and the attempts that remain run down from N - 1 to 0.
-- Assumes nothing.
use Prim.Native.Nat.{ℕ, zero, suc, ◌-◌, ◌≤◌, ◌<◌}
use native.Mathlib.Numerals.{add-one}
use native.Mathlib.Omega.{arith}
use native.Mathlib.Nat.{eq-or-lt_of_le}
use mathlib.Core.Path.{◌≡◌, refl, ap, sym, ◌∙◌}
use mathlib.Core.Logic.{⊎_elim}
use borrow.Author.Tests.{lt-ltb, le-ltb}
use Rattle.std.specs.Prelude.{Bool, true, false, ltb, Result, Ok, Err}
use Rattle.notation.specs.Rows.{◌⇒◌∣◌}
use Rattle.counters.specs.declared.Counter.{Counter}
use Rattle.counters.specs.declared.Increment.{Increment}
use Rattle.counters.specs.declared.Exceeded.{Exceeded}
use Rattle.counters.specs.Counting.{counted, exceeded, increment, reported, remaining, reset}

-- The count that an increment reports, failed or not
abbrev pub kept : Result Increment Exceeded → Counter
kept (Ok i) = i.count
kept (Err e) = e.0.count

-- What an increment gave, by its count alone
abbrev pub as_count : Result Increment Exceeded → Result Counter Exceeded
as_count (Ok i) = Ok i.count
as_count (Err e) = Err e

-- The counter after an increment; and after k of them
abbrev pub next : Counter → Counter
next c = kept (increment c)

abbrev pub after : ℕ → Counter → Counter
after zero c = c
after (suc k) c = next (after k c)

-- "k of N"
abbrev pub at : ℕ → Counter → Counter
at k c = record { value = k; max_value = c.max_value }

below : (c : Counter) → c.value < c.max_value → increment c ≡ Ok (counted c)
unfolding increment
below c h = rw (lt-ltb c.value c.max_value h)

at_limit : (c : Counter) → c.max_value ≤ c.value → increment c ≡ Err (exceeded c)
unfolding increment
at_limit c h = rw (le-ltb c.value c.max_value h)

-- After k of them the count is k, as long as that is within the limit
pub counts : (c : Counter) (k : ℕ) → k ≤ c.max_value → after k (reset c) ≡ at k c
counts c zero h = refl
counts c (suc k) h = ap next (counts c k (omega arith)) ∙ (ap kept (below (at k c) (omega arith)) ∙ ap (λ n. at n c) (add-one k))

-- "After a reset the first N increments succeed", and N - 1, N - 2 and so on to 0 attempts remain
pub first_n_succeed : (c : Counter) (k : ℕ) → k < c.max_value
    → (increment (after k (reset c)) ≡ Ok (record { count = at (suc k) c; remaining = c.max_value - suc k }))
    × (reported (increment (after k (reset c))) ≡ c.max_value - suc k)
    × (remaining (as_count (increment (after k (reset c)))) ≡ c.max_value - suc k)
first_n_succeed c k h =
    let succeeded : increment (after k (reset c)) ≡ Ok (record { count = at (suc k) c; remaining = c.max_value - suc k }) = rw
    (counts c k (omega arith), below (at k c) h, add-one k) in
    (succeeded, ap reported succeeded, ap (λ t. remaining (as_count t)) succeeded)

-- "the next fails", and so does every one after it, "and leaves N"
pub leaves_n : (c : Counter) (k : ℕ) → c.max_value ≤ k → after k (reset c) ≡ at c.max_value c
leaves_n c zero h = ap (λ n. at n c) (omega arith)
leaves_n c (suc k) h = ⊎_elim (λ e. counts c (suc k) (omega arith) ∙ ap (λ n. at n c) (sym e))
    (λ l. ap next (leaves_n c k (omega arith)) ∙ ap kept (at_limit (at c.max_value c) (omega arith))) (eq-or-lt_of_le h)

pub next_fails : (c : Counter) (k : ℕ) → c.max_value ≤ k
    → (increment (after k (reset c)) ≡ Err (record { 0 = record { count = at c.max_value c; remaining = 0 } }))
    × (next (after k (reset c)) ≡ at c.max_value c) × (reported (increment (after k (reset c))) ≡ 0)
    × (remaining (as_count (increment (after k (reset c)))) ≡ 0)
next_fails c k h =
    let failed : increment (after k (reset c)) ≡ Err (record { 0 = record { count = at c.max_value c; remaining = 0 } }) = rw (leaves_n c k h)
    (at_limit (at c.max_value c) (omega arith)) in
    (failed, leaves_n c (suc k) (omega arith), ap reported failed, ap (λ t. remaining (as_count t)) failed)

tried_left : (c : Counter) (below : Bool)
    → remaining (as_count (below ⇒ Ok (counted c) ∣ Err (exceeded c))) ≡ reported (below ⇒ Ok (counted c) ∣ Err (exceeded c))
tried_left c true = refl
tried_left c false = refl

-- What remains at the count that an increment gave is what it reports, on any counter
pub remaining_is_reported : (c : Counter) → remaining (as_count (increment c)) ≡ reported (increment c)
unfolding increment
remaining_is_reported c = tried_left c (ltb c.value c.max_value)
