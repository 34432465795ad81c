use Rattle.std.proofs.Common.{arith}
use Rattle.listing.proofs.Laying.{after, fewer}
use Rattle.listing.specs.Line.{answer, shown}
use Rattle.listing.proofs.lines.told.Goals as goal

pub returns-then-letter_of-eq87 : goal.returns-then-letter_of-eq87
unfolding answer shown
returns-then-letter_of-eq87 c =
    simp (← c.letter_of.ensures, c.if-letter_of-eq87.true) (fewer (omega arith) (after c.waiting-at.ensures c.actions.ensures))
