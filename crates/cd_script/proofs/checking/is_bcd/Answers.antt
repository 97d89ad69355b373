use Rattle.std.proofs.Common.{◌≡◌, ℕ, ◌+◌, ◌*◌, ◌/◌, ◌%◌, ◌<◌, ◌≤◌, arith}
use Rattle.std.proofs.lemmas.Bool.{lt-ltb, ltb-true}
use Rattle.cd_script.proofs.checking.is_bcd.Goals as goal

bcd_only : (limit b n : ℕ) → limit ≤ 100 → n < limit → b ≡ 16 * (n / 10) + n % 10
    → 10 * (b / 16) + b % 16 < limit
bcd_only limit b n most low is = omega arith

bcd_is : (b : ℕ) → b % 16 < 10
    → b ≡ 16 * ((10 * (b / 16) + b % 16) / 10) + (10 * (b / 16) + b % 16) % 10
bcd_is b low = omega arith

bcd_low : (b n : ℕ) → b ≡ 16 * (n / 10) + n % 10 → b % 16 < 10
bcd_low b n is = omega arith

pub returns-then-byte-lt10 : goal.returns-then-byte-lt10
returns-then-byte-lt10 c = (
  λ less. record {
    number = 10 * (c.args.byte / 16) + c.args.byte % 16;
    below = ltb-true _ _ less;
    is = bcd_is c.args.byte c.if-byte-lt10.true;
  },
  λ h. lt-ltb _ _ (bcd_only c.args.limit c.args.byte h.number c.requires h.below h.is),
)
