use Rattle.listing.proofs.Laying.{after}
use Rattle.listing.proofs.lines.counts.Goals as goal

pub returns : goal.returns
returns c = after (after c.bytes-at.ensures c.number-at.ensures) (after c.bytes-at-2.ensures c.number.ensures)
