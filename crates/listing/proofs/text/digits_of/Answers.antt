use Rattle.std.proofs.Common.{rules, arith, ap, get_or, ◌≡◌, ◌%◌, ◌/◌}
use borrow.Author.Tests.{ne_eqb}
use Rattle.numeral.specs.Numeral.{spelled}
use Rattle.listing.proofs.Laying.{fewer}
use Rattle.listing.proofs.text.digits_of.Goals as goal

pub returns-in-48 : goal.returns-in-48
unfolding spelled
returns-in-48 c =
    let e0 : c.args.numeral.0 % 256 ≡ 48 = search rules in
    let e1 : c.args.numeral.0 / 256 % 256 ≡ 48 = search rules in
    let e2 : c.args.numeral.0 / 65536 % 256 ≡ 48 = search rules in
    let top : c.args.numeral.0 / 16777216 % 256 ≡ c.args.numeral.0 / 16777216 = omega arith in
    simp (e0, e1, e2) (fewer (omega arith) (rw (c.to_le_bytes.ensures, top) at c.bytes.ensures))

pub returns-in-48-2 : goal.returns-in-48-2
unfolding spelled
returns-in-48-2 c =
    let e0 : c.args.numeral.0 % 256 ≡ 48 = search rules in
    let e1 : c.args.numeral.0 / 256 % 256 ≡ 48 = search rules in
    let e2 : c.args.numeral.0 / 65536 % 256 ≡ 48 → ⊥ = λ e. omega (arith, ap (λ l. get_or l 2 0) c.to_le_bytes.ensures) in
    let top : c.args.numeral.0 / 16777216 % 256 ≡ c.args.numeral.0 / 16777216 = omega arith in
    simp (e0, e1, ne_eqb _ _ e2) (fewer (omega arith) (rw (c.to_le_bytes.ensures, top) at c.bytes-in-48-2.ensures))

pub returns-in-48-3 : goal.returns-in-48-3
unfolding spelled
returns-in-48-3 c =
    let e0 : c.args.numeral.0 % 256 ≡ 48 = search rules in
    let e1 : c.args.numeral.0 / 256 % 256 ≡ 48 → ⊥ = λ e. search rules in
    let top : c.args.numeral.0 / 16777216 % 256 ≡ c.args.numeral.0 / 16777216 = omega arith in
    simp (e0, ne_eqb _ _ e1) (fewer (omega arith) (rw (c.to_le_bytes.ensures, top) at c.bytes-in-48-3.ensures))

pub returns-in_default : goal.returns-in_default
unfolding spelled
returns-in_default c =
    let e0 : c.args.numeral.0 % 256 ≡ 48 → ⊥ = λ e. grind arith in
    let top : c.args.numeral.0 / 16777216 % 256 ≡ c.args.numeral.0 / 16777216 = omega arith in
    simp (ne_eqb _ _ e0) (rw (c.to_le_bytes.ensures, top) at c.bytes-in_default.ensures)
