use Rattle.listing.proofs.Laying.{after}
use Rattle.listing.proofs.lines.both.Goals as goal

pub returns : goal.returns
returns c = after (after c.action-at.ensures c.action-at-2.ensures) c.bytes.ensures
