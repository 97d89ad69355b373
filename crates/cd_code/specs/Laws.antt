-- Laws that follow from the definitions of the codes. Each law is a contract in `laws.rt`.
use Rattle.std.specs.Prelude.{◌≡◌, ℕ, ◌==◌, ◌+◌, ◌*◌, ◌/◌, ◌%◌, ◌<◌, if◌then◌else◌, bit_xor, List, length, slice_index}
use Rattle.cd_code.specs.Field.{AreBytes, IsSum, double, product}
use Rattle.cd_code.specs.Edc.{IsEdc, bits, remainder}
use Rattle.cd_code.specs.Syndrome.{SameSums}

-- two elements are added bit by bit
abbrev pub SumByBits : Type 0
SumByBits = (a b : ℕ) → bit_xor a b ≡ 2 * bit_xor (a / 2) (b / 2) + (a + b) % 2

-- a product, bit by bit: `a` doubled times half of `b`, plus `a` if `b` is odd
abbrev pub ProductByBits : Type 0
ProductByBits =
    (a b : ℕ) → a < 256 → b < 256
    → product a b ≡ bit_xor (product (double a) (b / 2)) (if b % 2 == 1 then a else 0)

-- a product with 0 is 0
abbrev pub ProductOfNone : Type 0
ProductOfNone = (a : ℕ) → product a 0 ≡ 0

-- two lists of bytes have the same length, and differ at most in their last n bytes
pub record DifferAtMostInLast (n : ℕ) (v w : List ℕ) : Type 0 where
  pub bytes_left : AreBytes v
  pub bytes_right : AreBytes w
  pub same_length : length v ≡ length w
  pub front : (i : ℕ) → i + n < length v → slice_index v i ≡ slice_index w i

-- the last two bytes of a list follow from the others and the syndromes
abbrev pub PairIsUnique : Type 0
PairIsUnique = (v w : List ℕ) → DifferAtMostInLast 2 v w → SameSums v w → v ≡ w

-- the last four bytes of a list follow from the others and the remainder
abbrev pub EdcIsUnique : Type 0
EdcIsUnique =
    (v w : List ℕ) → DifferAtMostInLast 4 v w → remainder (bits v) ≡ remainder (bits w) → v ≡ w

-- the remainder of the sum of two lists of equal length is the sum of their remainders
abbrev pub RemainderOfSum : Type 0
RemainderOfSum =
    (u v w : List ℕ) → length u ≡ length v → length u ≡ length w → IsSum u v w
    → remainder (bits u) ≡ bit_xor (remainder (bits v)) (remainder (bits w))

-- the EDC word of the sum of two lists of equal length is the sum of their words
abbrev pub EdcOfSum : Type 0
EdcOfSum =
    (u v w : List ℕ) → length u ≡ length v → length u ≡ length w → IsSum u v w
    → (a b : ℕ) → IsEdc v a → IsEdc w b → IsEdc u (bit_xor a b)
