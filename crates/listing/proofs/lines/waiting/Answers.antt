use borrow.Author.Tests.{lt-ltb}
use Rattle.std.proofs.Common.{arith, refl, ◌∙◌}
use Rattle.std.proofs.lemmas.Nat.{le_bytes_8}
use Rattle.numeral.specs.Decimal.{decimal}
use Rattle.listing.proofs.Laying.{fewer}
use Rattle.listing.proofs.Waiting.{fits}
use Rattle.listing.proofs.lines.waiting.Goals as goal

pub returns-then-caps-lt10 : goal.returns-then-caps-lt10
unfolding decimal
returns-then-caps-lt10 c =
    let bytes = c.to_le_bytes.ensures ∙
    le_bytes_8 _ _ refl (λ i. fits _ _ _ i c.waiting_word.ensures.letter c.if-hard-lt10.true c.if-caps-lt10.true) c.waiting_word.ensures.value in
    simp (lt-ltb _ 10 c.if-hard-lt10.true, lt-ltb _ 10 c.if-caps-lt10.true) (fewer (omega arith) (rw bytes at c.bytes.ensures))
