use Rattle.std.proofs.Common.{refl, arith, eq-eqb}
use borrow.Author.Tests.{ne_eqb}
use Rattle.listing.proofs.Laying.{after}
use Rattle.listing.specs.Line.{action}
use Rattle.listing.proofs.lines.action.Goals as goal

pub returns : goal.returns
unfolding action
returns c = simp (ne_eqb _ _ c.if-n-eq0.false) (after (after c.bytes-at.ensures c.number-at.ensures) (after c.bytes-at-2.ensures c.number.ensures))

pub returns-then-n-eq0 : goal.returns-then-n-eq0
unfolding action
returns-then-n-eq0 c = simp (eq-eqb _ _ c.if-n-eq0.true) (record { laid = record { place = omega arith; bytes = refl }; same_length = refl; at_most = omega arith })
