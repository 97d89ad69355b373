use Rattle.std.proofs.Common.{◌≡◌, ◌-◌, ◌∙◌, Some, ap, arith, sym, true}
use Rattle.cd_address.specs.Address.{address}
use Rattle.cd_c.proofs.BlockLemmas.{block-found, fractions}
use Rattle.cd_c.proofs.sectors.cdpatch_block.Goals as goal

pub returns-then-not-has_address-clause-none : goal.returns-then-not-has_address-clause-none
returns-then-not-has_address-clause-none c = λ e b is.
    let found : c.saturating_sub-found.result ≡ fractions c.args.bcd.now - 150 =
    omega (arith, c.saturating_sub-found.ensures, c.number_of.ensures, c.number_of-2.ensures, c.number_of-3.ensures) in
    let same = block-found b c.saturating_sub-found.result c.args.bcd.now found is in
    let has : c.has_address.result ≡ true = c.has_address.ensures.1 (ap address (sym same) ∙ is) in
    absurd (cc (has, c.if-not-has_address.true))

pub returns-clause-only : goal.returns-clause-only
returns-clause-only c = λ e b is.
    let found : c.saturating_sub-found.result ≡ fractions c.args.bcd.now - 150 =
    omega (arith, c.saturating_sub-found.ensures, c.number_of.ensures, c.number_of-2.ensures, c.number_of-3.ensures) in
    block-found b c.saturating_sub-found.result c.args.bcd.now found is
