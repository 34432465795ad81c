use Rattle.std.proofs.Common.{sym, ◌∙◌}
use Rattle.listing.proofs.Laying.{after}
use Rattle.listing.proofs.lines.line.Goals as goal

pub returns-clause-out_after : goal.returns-clause-out_after
returns-clause-out_after c =
    simp (sym c.has_room.ensures.value ∙ c.if-not-has_room.false) (after c.digits_of-at.ensures c.told.ensures).laid.bytes
