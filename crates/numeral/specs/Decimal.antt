-- Numbers in decimal, as the bytes of their digits. Assumes nothing.
use Rattle.std.specs.Prelude.{ℕ, ◌+◌, ◌/◌, ◌%◌, List, [], ◌∷◌, ◌++◌, ltb}
use Rattle.notation.specs.Rows.{◌⇒◌∣◌}

abbrev pub digit : ℕ → ℕ
digit d = 48 + d

abbrev pub two : ℕ → List ℕ
two n = digit (n / 10) ∷ digit (n % 10) ∷ []

abbrev pub three : ℕ → List ℕ
three n = digit (n / 100) ∷ two (n % 100)

abbrev pub four : ℕ → List ℕ
four n = two (n / 100) ++ two (n % 100)

abbrev pub five : ℕ → List ℕ
five n = digit (n / 10000) ∷ four (n % 10000)

-- A number below 100,000 in decimal, with no zero before it
unfoldable pub decimal : ℕ → List ℕ
decimal n =
    ltb n 10 ⇒ digit n ∷ [] ∣
    ltb n 100 ⇒ two n ∣
    ltb n 1000 ⇒ three n ∣
    ltb n 10000 ⇒ four n ∣
    five n
