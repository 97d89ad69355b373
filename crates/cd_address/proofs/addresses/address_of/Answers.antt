use Rattle.std.proofs.Common.{◌≡◌, ℕ, ◌+◌, ◌/◌, ◌%◌, ◌<◌, ◌≤◌, [], ◌∷◌, Some, None, rules}
use Rattle.cd_address.specs.Address.{address, bcd}
use Rattle.cd_address.proofs.addresses.address_of.Goals as goal

none_past : (block : ℕ) → 449849 < block → None ≡ address block
unfolding address
none_past block h = search rules

some_to : (block minute second fraction : ℕ) → block ≤ 449849
    → minute ≡ bcd ((block + 150) / 4500) → second ≡ bcd ((block + 150) / 75 % 60)
    → fraction ≡ bcd ((block + 150) % 75)
    → Some (minute ∷ second ∷ fraction ∷ []) ≡ address block
unfolding address
some_to block minute second fraction h e f g = search rules

pub returns-then-block-gt-MAX_BLOCK-clause-value : goal.returns-then-block-gt-MAX_BLOCK-clause-value
returns-then-block-gt-MAX_BLOCK-clause-value c = none_past c.args.block c.if-block-gt-MAX_BLOCK.true

pub returns-clause-value : goal.returns-clause-value
returns-clause-value c =
    some_to c.args.block c.bcd_of.result c.bcd_of-2.result c.bcd_of-3.result
    c.if-block-gt-MAX_BLOCK.false
    c.bcd_of.ensures c.bcd_of-2.ensures c.bcd_of-3.ensures
