-- What the reader finds at a place of a file, and the place after. "A bad or partial event ends it there with R8." Assumes nothing.
use Rattle.std.specs.Prelude.{ℕ, ◌+◌, List, take, drop, ltb, Option, None, Some, Result}
use Rattle.notation.specs.Rows.{◌⇒◌∣◌}
use Rattle.trace.specs.declared.parts.Left.{Left}
use Rattle.events.specs.Types.{Call}
use Rattle.events.specs.declared.decoding.Malformed.{Malformed}
use Rattle.events.specs.Events.{decoded, malformed}
use Rattle.trace.specs.Parts.{remaining}

-- the end, or what the event says, which is R8's where fewer than twelve bytes are left
abbrev pub told : Left → Result Call Malformed → Option (Result Call Malformed)
told Left.End d = None
told Left.Partial d = Some malformed
told Left.Event d = Some d

-- "hands back the next twelve bytes"
unfoldable pub event : List ℕ → ℕ → Option (Result Call Malformed)
event s k = told (remaining s k) (decoded (take 12 (drop k s)))

-- twelve bytes on, where that is a number of 64 bits
unfoldable pub after : ℕ → ℕ
after k = ltb (k + 12) 18446744073709551616 ⇒ k + 12 ∣ k
