use Rattle.std.proofs.Common.{arith, eq-eqb}
use Rattle.std.proofs.lemmas.List.{append-nil}
use Rattle.listing.specs.Line.{action}
use Rattle.listing.proofs.Laying.{fewer}
use Rattle.listing.proofs.lines.actions.Goals as goal

pub returns-then-issued-eq0 : goal.returns-then-issued-eq0
unfolding action
returns-then-issued-eq0 c = simp (eq-eqb _ _ c.if-issued-eq0.true, append-nil) (fewer (omega arith) c.last.ensures)
