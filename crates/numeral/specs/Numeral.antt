-- An entry's number as four digits, kept as a number of four bytes, the first digit in the lowest: 305 is the bytes of `0305`. Assumes nothing.
use Rattle.std.specs.Prelude.{ℕ, zero, suc, ◌+◌, ◌-◌, ◌*◌, ◌/◌, ◌%◌, List, [], ◌∷◌, ltb}
use Rattle.notation.specs.Rows.{◌⇒◌∣◌, ◌is◌}
use Rattle.numeral.specs.Decimal.{digit}

-- The four bytes of such a number
abbrev pub first_byte : ℕ → ℕ
first_byte n = n % 256

abbrev pub second_byte : ℕ → ℕ
second_byte n = n / 256 % 256

abbrev pub third_byte : ℕ → ℕ
third_byte n = n / 65536 % 256

abbrev pub fourth_byte : ℕ → ℕ
fourth_byte n = n / 16777216

-- The numeral of k, which is below 10,000
abbrev pub numeral : ℕ → ℕ
numeral k = digit (k / 1000) + 256 * digit (k / 100 % 10) + 65536 * digit (k / 10 % 10) + 16777216 * digit (k % 10)

-- The next one: the last digit that is no 9 (57) is one more, and the nines after it are 0, which is 9 less
unfoldable pub following : ℕ → ℕ
following n =
    ltb (fourth_byte n) 57 ⇒ n + 16777216 ∣
    ltb (third_byte n) 57 ⇒ n - 9 * 16777216 + 65536 ∣
    ltb (second_byte n) 57 ⇒ n - 9 * 16777216 - 9 * 65536 + 256 ∣
    n - 9 * 16777216 - 9 * 65536 - 9 * 256 + 1

-- With no zero (48) before it
abbrev pub without_zeros : List ℕ → List ℕ
without_zeros [] = []
without_zeros (b ∷ []) = b ∷ []
without_zeros (b ∷ c ∷ bs) = b is 48 ⇒ without_zeros (c ∷ bs) ∣ b ∷ c ∷ bs

unfoldable pub spelled : ℕ → List ℕ
spelled n = without_zeros (first_byte n ∷ second_byte n ∷ third_byte n ∷ fourth_byte n ∷ [])

-- Counted up k times from 0
abbrev pub counted : ℕ → ℕ
counted zero = numeral 0
counted (suc k) = following (counted k)
