use Rattle.listing.proofs.Laying.{after}
use Rattle.listing.proofs.lines.refused.Goals as goal

pub returns : goal.returns
returns c = after (after c.bytes-at.ensures c.number-at.ensures) c.bytes.ensures
