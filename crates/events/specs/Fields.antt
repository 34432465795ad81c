-- An event's bytes: "code (one byte), a (one byte), b (two bytes), two words of four bytes". Assumes nothing.
use Rattle.std.specs.Prelude.{ℕ, List, length, Result, Ok, Err}
use Rattle.notation.specs.Rows.{◌⇒◌∣◌, ◌is◌}
use Rattle.little_endian.specs.Bytes.{at, half, word}
use Rattle.events.specs.Types.{Fields, Malformed}

abbrev pub fields : List ℕ → Fields
fields s = record { code = at s 0; a = at s 1; b = half s 2; first = word s 4; second = word s 8 }

-- "a bad or partial event": any number of bytes but twelve has no fields
unfoldable pub split : List ℕ → Result Fields Malformed
split s = length s is 12 ⇒ Ok (fields s) ∣ Err (record {})
