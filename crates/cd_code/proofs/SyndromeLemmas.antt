-- The two syndromes of a list: with one more byte, with a changed byte, and with a parity pair
-- after it.
use Rattle.std.proofs.Common.{◌≡◌, ◌≢◌, ℕ, zero, suc, ◌+◌, ◌-◌, ◌<◌, List, [], ◌∷◌, ◌++◌, length, get_or, bit_xor, refl, sym, ap, ap₂, ◌∙◌, arith, lit<, append_assoc, subst}
use Rattle.std.specs.Int.Bits.{xor_self, xor_zero_l, xor_zero_r, xor_assoc}
use Rattle.std.proofs.lemmas.Nat.{xor_comm, xor_lt}
use Rattle.std.proofs.lemmas.List.{length-set, length_push}
use Rattle.cd_code.specs.Field.{AreBytes, double, power, product}
use Rattle.cd_code.specs.Syndrome.{first_syndrome, second_syndrome, IsCodeWord, SameSums, with_added}
use Rattle.cd_code.specs.Laws.{DifferAtMostInLast}
use Rattle.cd_code.proofs.ByteLemmas.{DifferAtMostInLast-tail}
use Rattle.cd_code.proofs.general.Xor.{same_from_xor, xor_cancel, xor_cancel_right, xor_swap, xor_twice}
use Rattle.cd_code.proofs.FieldLemmas.{double-xor, double-lt, double-zero, product-xor, product-lt, product-one, product-power, product-power_suc, power-lt, third_tripled, tripled_third}
use Rattle.cd_code.proofs.FieldTableLemmas.{product-power_moves, product-power_moves_on}

pub first_syndrome-nil : first_syndrome [] ≡ 0
unfolding first_syndrome
first_syndrome-nil = refl

pub second_syndrome-nil : second_syndrome [] ≡ 0
unfolding second_syndrome
second_syndrome-nil = refl

-- one more byte after a list
pub first_syndrome-push : (v : List ℕ) (x : ℕ)
    → first_syndrome (v ++ x ∷ []) ≡ bit_xor (first_syndrome v) x
unfolding first_syndrome
first_syndrome-push [] x = xor_zero_r x
first_syndrome-push (y ∷ v) x =
    ap (bit_xor y) (first_syndrome-push v x) ∙ sym (xor_assoc y (first_syndrome v) x)

pub second_syndrome-lt : (v : List ℕ) → second_syndrome v < 256
unfolding second_syndrome
second_syndrome-lt [] = lit< tt
second_syndrome-lt (y ∷ v) =
    xor_lt 8 (product (power (length v)) y) (second_syndrome v)
    (product-lt (power (length v)) y (power-lt (length v))) (second_syndrome-lt v)

-- the step of Horner's rule
pub second_syndrome-push : (v : List ℕ) (x : ℕ) → x < 256
    → second_syndrome (v ++ x ∷ []) ≡ bit_xor (double (second_syndrome v)) x
unfolding second_syndrome
second_syndrome-push [] x h =
    xor_zero_r (product 1 x) ∙ product-one x h ∙ sym (xor_zero_l x)
    ∙ ap (λ z. bit_xor z x) (sym double-zero)
second_syndrome-push (y ∷ v) x h =
    let longer : length (v ++ x ∷ []) ≡ suc (length v) = omega (arith, length_push v x) in
    ap₂ bit_xor (ap (λ n. product (power n) y) longer ∙ product-power_suc (length v) y)
    (second_syndrome-push v x h)
    ∙ sym (xor_assoc (double (product (power (length v)) y)) (double (second_syndrome v)) x)
    ∙ ap (λ z. bit_xor z x)
    (sym (double-xor (product (power (length v)) y) (second_syndrome v)
    (product-lt (power (length v)) y (power-lt (length v))) (second_syndrome-lt v)))

pub first_syndrome-lt : (v : List ℕ) → AreBytes v → first_syndrome v < 256
unfolding first_syndrome
first_syndrome-lt [] h = lit< tt
first_syndrome-lt (y ∷ v) h =
    xor_lt 8 y (first_syndrome v) (h 0) (first_syndrome-lt v (λ i. h (suc i)))

-- the syndromes after `d` is added to a byte
pub first_syndrome-added : (v : List ℕ) (place d : ℕ) → place < length v
    → first_syndrome (with_added v place d) ≡ bit_xor (first_syndrome v) d
unfolding first_syndrome
first_syndrome-added [] place d h = absurd (omega arith)
first_syndrome-added (y ∷ v) zero d h =
    xor_assoc y d (first_syndrome v) ∙ ap (bit_xor y) (xor_comm d (first_syndrome v))
    ∙ sym (xor_assoc y (first_syndrome v) d)
first_syndrome-added (y ∷ v) (suc place) d h =
    ap (bit_xor y) (first_syndrome-added v place d (omega arith))
    ∙ sym (xor_assoc y (first_syndrome v) d)

pub second_syndrome-added : (v : List ℕ) (place d weight : ℕ) → weight + suc place ≡ length v
    → second_syndrome (with_added v place d) ≡ bit_xor (second_syndrome v) (product (power weight) d)
unfolding second_syndrome
second_syndrome-added [] place d weight h = absurd (omega arith)
second_syndrome-added (y ∷ v) zero d weight h =
    let w : weight ≡ length v = omega arith in
    let a = product (power (length v)) y in
    let b = product (power (length v)) d in
    let s = second_syndrome v in
    ap (λ z. bit_xor z s) (product-xor (power (length v)) y d)
    ∙ xor_assoc a b s ∙ ap (bit_xor a) (xor_comm b s) ∙ sym (xor_assoc a s b)
    ∙ ap (λ n. bit_xor (bit_xor a s) (product (power n) d)) (sym w)
second_syndrome-added (y ∷ v) (suc place) d weight h =
    ap (λ n. bit_xor (product (power n) y) (second_syndrome (with_added v place d)))
    (length-set v place (bit_xor (get_or v place 0) d))
    ∙ ap (bit_xor (product (power (length v)) y))
    (second_syndrome-added v place d weight (omega arith))
    ∙ sym (xor_assoc (product (power (length v)) y) (second_syndrome v) (product (power weight) d))

-- a list followed by the pair that `pair_from` returns is a code word
pub IsCodeWord-pair : (v : List ℕ) (plain weighted a : ℕ)
    → plain < 256 → first_syndrome v ≡ plain → second_syndrome v ≡ weighted
    → a ≡ product 244 (bit_xor plain (double (double weighted)))
    → IsCodeWord (v ++ a ∷ bit_xor plain a ∷ [])
IsCodeWord-pair v plain weighted a below firsts seconds e =
    let fours = double (double weighted) in
    let fours_lt : fours < 256 =
    double-lt (double weighted) (double-lt weighted (rw (← seconds) (second_syndrome-lt v))) in
    let sum_lt : bit_xor plain fours < 256 = xor_lt 8 plain fours below fours_lt in
    let a_lt : a < 256 = rw e (product-lt 244 (bit_xor plain fours) (lit< tt)) in
    let b = bit_xor plain a in
    let b_lt : b < 256 = xor_lt 8 plain a below a_lt in
    let tripled : bit_xor (double a) a ≡ bit_xor plain fours =
    ap (λ z. bit_xor (double z) z) e ∙ third_tripled (bit_xor plain fours) sum_lt in
    let shape : (v ++ a ∷ []) ++ b ∷ [] ≡ v ++ a ∷ b ∷ [] = append_assoc v (a ∷ []) (b ∷ []) in
    let one : first_syndrome (v ++ a ∷ []) ≡ b =
    first_syndrome-push v a ∙ ap (λ z. bit_xor z a) firsts in
    let two : second_syndrome (v ++ a ∷ []) ≡ bit_xor (double weighted) a =
    second_syndrome-push v a a_lt ∙ ap (λ z. bit_xor (double z) a) seconds in
    let weighted_lt : double weighted < 256 =
    double-lt weighted (rw (← seconds) (second_syndrome-lt v)) in
    let three : bit_xor (double (bit_xor (double weighted) a)) b ≡ 0 =
    ap (λ z. bit_xor z b) (double-xor (double weighted) a weighted_lt a_lt)
    ∙ xor_swap fours (double a) plain a
    ∙ ap₂ bit_xor (xor_comm fours plain) tripled ∙ xor_self (bit_xor plain fours) in
    record {
      first =
          ap first_syndrome (sym shape) ∙ first_syndrome-push (v ++ a ∷ []) b
          ∙ ap (λ z. bit_xor z b) one ∙ xor_self b;
      second =
          ap second_syndrome (sym shape) ∙ second_syndrome-push (v ++ a ∷ []) b b_lt
          ∙ ap (λ z. bit_xor (double z) b) two ∙ three;
    }

length-added : (v : List ℕ) (place d : ℕ) → length (with_added v place d) ≡ length v
length-added v place d = length-set v place (bit_xor (get_or v place 0) d)

-- with `d` added at a place, and the pair that `pair_change` returns added to the last two bytes,
-- both syndromes stay the same
pub SameSums-change : (v : List ℕ) (len place d moved p : ℕ)
    → length v ≡ len → place + 2 < len → d < 256
    → moved ≡ product (power (len - 1 - place)) d → p ≡ product 244 (bit_xor moved d)
    → SameSums (with_added (with_added (with_added v place d) (len - 2) p) (len - 1) (bit_xor p d)) v
SameSums-change v len place d moved p long inside below moves e =
    let q = bit_xor p d in
    let one = with_added v place d in
    let two = with_added one (len - 2) p in
    let one_len : length one ≡ length v = length-added v place d in
    let two_len : length two ≡ length one = length-added one (len - 2) p in
    let moved_lt : moved < 256 =
    rw moves (product-lt (power (len - 1 - place)) d (power-lt (len - 1 - place))) in
    let p_lt : p < 256 = rw e (product-lt 244 (bit_xor moved d) (lit< tt)) in
    let q_lt : q < 256 = xor_lt 8 p d p_lt below in
    let tripled : bit_xor (double p) p ≡ bit_xor moved d =
    ap (λ z. bit_xor (double z) z) e
    ∙ third_tripled (bit_xor moved d) (xor_lt 8 moved d moved_lt below) in
    let f = first_syndrome v in
    let s = second_syndrome v in
    let back : bit_xor (double p) q ≡ moved =
    sym (xor_assoc (double p) p d) ∙ ap (λ z. bit_xor z d) tripled ∙ xor_twice moved d in
    record {
      first =
          first_syndrome-added two (len - 1) q (omega arith)
          ∙ ap (λ z. bit_xor z q)
          (first_syndrome-added one (len - 2) p (omega arith)
          ∙ ap (λ z. bit_xor z p) (first_syndrome-added v place d (omega arith))
          ∙ xor_assoc f d p ∙ ap (bit_xor f) (xor_comm d p))
          ∙ xor_twice f q;
      second =
          second_syndrome-added two (len - 1) q 0 (omega arith)
          ∙ ap₂ bit_xor
          (second_syndrome-added one (len - 2) p 1 (omega arith)
          ∙ ap₂ bit_xor
          (second_syndrome-added v place d (len - 1 - place) (omega arith)
          ∙ ap (bit_xor s) (sym moves))
          (product-power 1 p p_lt))
          (product-one q q_lt)
          ∙ xor_assoc (bit_xor s moved) (double p) q
          ∙ ap (bit_xor (bit_xor s moved)) back
          ∙ xor_twice s moved;
    }

-- if d is not 0, neither byte of the pair is 0
pub pair-nonzero : (weight d moved p : ℕ) → 1 < weight → weight < 255 → 0 < d → d < 256
    → moved ≡ product (power weight) d → p ≡ product 244 (bit_xor moved d)
    → (p ≢ 0) × (bit_xor p d ≢ 0)
pair-nonzero weight d moved p more below nonzero byte moves e =
    let moved_lt : moved < 256 = rw moves (product-lt (power weight) d (power-lt weight)) in
    let tripled : bit_xor (double p) p ≡ bit_xor moved d =
    ap (λ z. bit_xor (double z) z) e
    ∙ third_tripled (bit_xor moved d) (xor_lt 8 moved d moved_lt byte) in (
      λ none.
          let nothing : bit_xor moved d ≡ 0 =
          sym tripled ∙ ap (λ z. bit_xor (double z) z) none ∙ xor_zero_r (double 0)
          ∙ double-zero in
          product-power_moves weight d (omega arith) below nonzero byte
          (sym moves ∙ same_from_xor moved d nothing),
      λ none.
          let same : p ≡ d = same_from_xor p d none in
          let doubled : moved ≡ double d =
          xor_cancel_right moved (double d) d
          (sym tripled ∙ ap (λ z. bit_xor (double z) z) same) in
          product-power_moves_on weight d more (omega arith) nonzero byte (sym moves ∙ doubled),
    )

-- two bytes are determined by their two syndromes
pair_same : (a b c d : ℕ) → a < 256 → b < 256 → c < 256 → d < 256
    → bit_xor a b ≡ bit_xor c d → bit_xor (double a) b ≡ bit_xor (double c) d → (a ≡ c) × (b ≡ d)
pair_same a b c d ha hb hc hd plain weighted =
    let three : (x y : ℕ) → bit_xor (bit_xor (double x) y) (bit_xor x y) ≡ bit_xor (double x) x =
    λ x y. xor_swap (double x) y x y ∙ ap (bit_xor (bit_xor (double x) x)) (xor_self y)
    ∙ xor_zero_r (bit_xor (double x) x) in
    let tripled : bit_xor (double a) a ≡ bit_xor (double c) c =
    sym (three a b) ∙ ap (λ z. bit_xor z (bit_xor a b)) weighted
    ∙ ap (bit_xor (bit_xor (double c) d)) plain ∙ three c d in
    let same : a ≡ c = sym (tripled_third a ha) ∙ ap (product 244) tripled ∙ tripled_third c hc in
    (same, xor_cancel c b d (ap (λ z. bit_xor z b) (sym same) ∙ plain))

first_syndrome-one : (x : ℕ) → first_syndrome (x ∷ []) ≡ x
unfolding first_syndrome
first_syndrome-one x = xor_zero_r x

first_syndrome-two : (x y : ℕ) → first_syndrome (x ∷ y ∷ []) ≡ bit_xor x y
unfolding first_syndrome
first_syndrome-two x y = ap (bit_xor x) (xor_zero_r y)

second_syndrome-two : (x y : ℕ) → x < 256 → y < 256
    → second_syndrome (x ∷ y ∷ []) ≡ bit_xor (double x) y
unfolding second_syndrome
second_syndrome-two x y hx hy =
    ap₂ bit_xor (product-power 1 x hx) (xor_zero_r (product 1 y) ∙ product-one y hy)

SameSums-tail : (x : ℕ) (v w : List ℕ) → length v ≡ length w → SameSums (x ∷ v) (x ∷ w)
    → SameSums v w
unfolding first_syndrome second_syndrome
SameSums-tail x v w e s = record {
  first = xor_cancel x (first_syndrome v) (first_syndrome w) s.first;
  second =
      xor_cancel (product (power (length v)) x) (second_syndrome v) (second_syndrome w)
      (s.second ∙ ap (λ n. bit_xor (product (power n) x) (second_syndrome w)) (sym e));
}

-- lists that differ at most in their last two bytes, and have the same syndromes, are equal
pub pair_unique : (v w : List ℕ) → DifferAtMostInLast 2 v w → SameSums v w → v ≡ w
pair_unique [] [] d s = refl
pair_unique (x ∷ []) (y ∷ []) d s =
    ap (λ z. z ∷ []) (sym (first_syndrome-one x) ∙ s.first ∙ first_syndrome-one y)
pair_unique (a ∷ b ∷ []) (c ∷ d ∷ []) h s =
    let same =
    pair_same a b c d (h.bytes_left 0) (h.bytes_left 1) (h.bytes_right 0) (h.bytes_right 1)
    (sym (first_syndrome-two a b) ∙ s.first ∙ first_syndrome-two c d)
    (sym (second_syndrome-two a b (h.bytes_left 0) (h.bytes_left 1)) ∙ s.second
    ∙ second_syndrome-two c d (h.bytes_right 0) (h.bytes_right 1)) in
    ap₂ (λ y z. y ∷ z ∷ []) same.0 same.1
pair_unique (x ∷ a ∷ b ∷ v) (y ∷ c ∷ e ∷ w) d s =
    let first : x ≡ y = d.front 0 (omega arith) in
    let lengths = d.same_length in
    let rest =
    pair_unique (a ∷ b ∷ v) (c ∷ e ∷ w)
    (DifferAtMostInLast-tail 2 x y (a ∷ b ∷ v) (c ∷ e ∷ w) d)
    (SameSums-tail x (a ∷ b ∷ v) (c ∷ e ∷ w) (omega arith)
    (let P : ℕ → Type 0 = λ z.
    SameSums (x ∷ a ∷ b ∷ v) (z ∷ c ∷ e ∷ w) in subst P (sym first) s)) in
    ap₂ (λ z u. z ∷ u) first rest
pair_unique _ _ d s = absurd (omega arith)

-- the syndromes of the sum of two lists, byte by byte
pub first_syndrome-sum : (u v w : List ℕ) → length u ≡ length v → length u ≡ length w
    → ((i : ℕ) → i < length u → get_or u i 0 ≡ bit_xor (get_or v i 0) (get_or w i 0))
    → first_syndrome u ≡ bit_xor (first_syndrome v) (first_syndrome w)
unfolding first_syndrome
first_syndrome-sum [] [] [] e f h = refl
first_syndrome-sum (x ∷ u) (y ∷ v) (z ∷ w) e f h =
    ap₂ bit_xor (h 0 (omega arith))
    (first_syndrome-sum u v w (omega arith) (omega arith) (λ i k. h (suc i) (omega arith)))
    ∙ xor_swap y z (first_syndrome v) (first_syndrome w)
first_syndrome-sum _ _ _ e f h = absurd (omega arith)

pub second_syndrome-sum : (u v w : List ℕ) → length u ≡ length v → length u ≡ length w
    → ((i : ℕ) → i < length u → get_or u i 0 ≡ bit_xor (get_or v i 0) (get_or w i 0))
    → second_syndrome u ≡ bit_xor (second_syndrome v) (second_syndrome w)
unfolding second_syndrome
second_syndrome-sum [] [] [] e f h = refl
second_syndrome-sum (x ∷ u) (y ∷ v) (z ∷ w) e f h =
    let left : length u ≡ length v = omega arith in
    let right : length u ≡ length w = omega arith in
    let a = product (power (length u)) y in
    let b = product (power (length u)) z in
    ap₂ bit_xor
    (ap (product (power (length u))) (h 0 (omega arith)) ∙ product-xor (power (length u)) y z)
    (second_syndrome-sum u v w left right (λ i k. h (suc i) (omega arith)))
    ∙ xor_swap a b (second_syndrome v) (second_syndrome w)
    ∙ ap₂ (λ m n. bit_xor (bit_xor (product (power m) y) (second_syndrome v))
    (bit_xor (product (power n) z) (second_syndrome w))) left right
second_syndrome-sum _ _ _ e f h = absurd (omega arith)
