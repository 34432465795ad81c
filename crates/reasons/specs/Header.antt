-- "a bad header (short, mark, version, flags above 7, over 49,160 bytes ..)": the first of these, in this order. Document 02, order 5: "flags above 15
-- are now R8, in the place where flags above 7 stood". Assumes nothing.
use Rattle.std.specs.Prelude.{ℕ, List, length, leb, ltb, Result, Ok, Err}
use Rattle.notation.specs.Rows.{◌⇒◌∣◌, ◌is◌}
use Rattle.little_endian.specs.Bytes.{at, half}
use Rattle.trace.specs.Beginning.{marked}
use Rattle.reasons.specs.Types.{HeaderReason}

unfoldable pub after_mark : ℕ → ℕ → ℕ → Result (Unit {0}) HeaderReason
after_mark version flags bytes =
    version is 1 ⇒ (leb flags 15 ⇒ (ltb 49160 bytes ⇒ Err HeaderReason.Long ∣ Ok tt) ∣ Err HeaderReason.Flags) ∣ Err HeaderReason.Version

unfoldable pub of_header : List ℕ → Result (Unit {0}) HeaderReason
of_header s =
    ltb (length s) 8 ⇒ Err HeaderReason.Short ∣
    marked s ⇒ after_mark (half s 3) (at s 5) (length s) ∣
    Err HeaderReason.Mark
