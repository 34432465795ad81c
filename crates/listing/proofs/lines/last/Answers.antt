use Rattle.std.proofs.Common.{arith, ◌≡◌, ◌/◌, ◌%◌, ◌-◌}
use borrow.Author.Tests.{ne_eqb, lt-ltb, le-ltb}
use Rattle.listing.proofs.Laying.{after, fewer}
use Rattle.numeral.specs.Decimal.{decimal}
use Rattle.listing.specs.Line.{action}
use Rattle.listing.proofs.lines.last.Goals as goal

pub returns-then-n-gt0 : goal.returns-then-n-gt0
unfolding decimal action
returns-then-n-gt0 c =
    simp (ne_eqb c.args.n 0 (λ e. omega arith), lt-ltb _ _ c.if-n-lt10.true, lt-ltb _ _ c.if-argument-lt10.true) (fewer (omega arith) (rw (c.digit.ensures, c.digit-then-n-gt0.ensures) at c.bytes.ensures))

pub returns-then-n-lt20 : goal.returns-then-n-lt20
unfolding decimal action
returns-then-n-lt20 c =
    let tens : c.args.n / 10 ≡ 1 = omega arith in
    let ones : c.args.n % 10 ≡ c.args.n - 10 = omega arith in
    simp (
      tens,
      ones,
      ne_eqb c.args.n 0 (λ e. omega arith),
      le-ltb _ _ c.if-n-lt10.false,
      lt-ltb c.args.n 100 (omega arith),
      lt-ltb _ _ c.if-argument-lt10.true,
    )
    (fewer (omega arith) (rw (c.digit-then-n-lt20.ensures, c.digit-then-n-lt20-2.ensures) at c.bytes-then-n-lt20.ensures))

pub returns : goal.returns
returns c = after c.action-at.ensures c.bytes-2.ensures
