-- An await of a state, in one row: what entering it writes, what it issues, and where each outcome leads. Assumes nothing.
use Rattle.definition.specs.Types.{Action, Outcome}
use Rattle.definition.specs.Next.{Next}
use Rattle.definition.specs.Actions.{Issue, just, reset_then}

-- What entering writes; Entering.antt says how
pub data Entrance : Type 0 where
  unwritten : Entrance
  startup : Entrance
  swapped_startup : Entrance
  count_capabilities : Entrance
  clear_hard_resets : Entrance
  count_hard_reset : Entrance

pub record Await : Type 0 where
  pub entrance : Entrance
  pub issues : Issue
  pub then : Outcome → Next

-- Nothing is written, and one action issued
abbrev pub await : Action → (Outcome → Next) → Await
await a f = record { entrance = unwritten; issues = just a; then = f }

-- The protocol layer is reset before
abbrev pub reset_and_await : Action → (Outcome → Next) → Await
reset_and_await a f = record { entrance = unwritten; issues = reset_then a; then = f }

-- The same await, and this is written when it is entered
abbrev pub writes : Entrance → Await → Await
writes e a = record { entrance = e; issues = a.issues; then = a.then }
