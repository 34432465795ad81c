-- Document 01, port order 1: "After a reset the first N increments succeed; the next fails and leaves N". Document 02, order 10: "Remaining is limit
-- minus count after the increment, and 0 on failure". Assumes nothing.
use Rattle.std.specs.Prelude.{ℕ, ◌+◌, ◌-◌, ltb, Result, Ok, Err}
use Rattle.notation.specs.Rows.{◌⇒◌∣◌}
use Rattle.counters.specs.declared.Counter.{Counter}
use Rattle.counters.specs.declared.Increment.{Increment}
use Rattle.counters.specs.declared.Exceeded.{Exceeded}

abbrev pub one_more : Counter → Counter
one_more c = record { value = c.value + 1; max_value = c.max_value }

abbrev pub left : Counter → ℕ
left c = c.max_value - c.value

abbrev pub counted : Counter → Increment
counted c = record { count = one_more c; remaining = left (one_more c) }

abbrev pub exceeded : Counter → Exceeded
exceeded c = record { 0 = record { count = c; remaining = 0 } }

unfoldable pub increment : Counter → Result Increment Exceeded
increment c =
    ltb c.value c.max_value ⇒ Ok (counted c) ∣
    Err (exceeded c)

-- What an increment reports, succeeded or failed
abbrev pub reported : Result Increment Exceeded → ℕ
reported (Ok i) = i.remaining
reported (Err e) = e.0.remaining

-- What is left of any count, and 0 on failure
abbrev pub remaining : Result Counter Exceeded → ℕ
remaining (Ok c) = left c
remaining (Err e) = 0

abbrev pub reset : Counter → Counter
reset c = record { value = 0; max_value = c.max_value }
