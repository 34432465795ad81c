use Rattle.std.proofs.Common.{arith, eq-eqb}
use borrow.Author.Tests.{ne_eqb}
use Rattle.listing.proofs.Laying.{after, fewer}
use Rattle.listing.specs.Line.{answer, shown}
use Rattle.listing.proofs.lines.rested.Goals as goal

pub returns-then-letter-eq82 : goal.returns-then-letter-eq82
unfolding answer shown
returns-then-letter-eq82 c =
    simp (← c.letter_of-letter.ensures, ← c.number_of-n.ensures, eq-eqb _ _ c.if-letter-eq82.true) (fewer (omega arith) c.refused.ensures)

pub returns : goal.returns
unfolding answer shown
returns c =
    let laid = rw (c.letter_of-letter.ensures, c.number_of-n.ensures, c.contract_letter.ensures) at
    (after (after (after c.bytes-at.ensures c.number-at.ensures) c.counts-at.ensures) c.both.ensures) in
    simp (c.requires.0, rw c.letter_of-letter.ensures at (ne_eqb _ _ c.if-letter-eq82.false)) laid
