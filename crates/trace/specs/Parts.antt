-- What is left of a file from a place on. "A bad or partial event ends it there with R8." Assumes nothing.
use Rattle.std.specs.Prelude.{ℕ, ◌-◌, List, length, leb, ltb}
use Rattle.notation.specs.Rows.{◌⇒◌∣◌}
use Rattle.trace.specs.Types.{Left}

unfoldable pub remaining : List ℕ → ℕ → Left
remaining s k =
    leb (length s) k ⇒ Left.End ∣
    ltb (length s - k) 12 ⇒ Left.Partial ∣
    Left.Event
