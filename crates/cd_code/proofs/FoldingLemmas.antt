-- Folding sixteen bytes at a time does not change the remainder of the list.
use Rattle.std.proofs.Common.{◌≡◌, ℕ, zero, suc, ◌+◌, ◌*◌, ◌/◌, ◌%◌, ◌^◌, ◌<◌, ◌≤◌, List, [], ◌∷◌, ◌++◌, length, take, drop, replicate, bit_xor, refl, sym, ap, ap₂, ◌∙◌, arith, lit<, lit≤, append_assoc, length-append, length-take, length-drop}
use Rattle.std.specs.Int.Bits.{xor_zero_l, xor_zero_r}
use Rattle.std.specs.List.{range_with_len}
use Rattle.std.specs.Simd.Lanes.{zip2, pick_l}
use Rattle.std.proofs.Math.Seq.{take-add, take-append-add}
use Rattle.std.proofs.lemmas.Nat.{xor_comm, xor_lt}
use Rattle.std.proofs.lemmas.Nat.Bits.{bit_at_xor, same_from_bits}
use Rattle.std.proofs.lemmas.List.{take-append-drop, drop-append-le, take_all}
use Rattle.std.proofs.lemmas.Simd.{length-zip2, get_or-zip2, pick_l-range_with_len}
use Rattle.cd_code.specs.Edc.{bits, divide_step, remainder}
use Rattle.cd_code.specs.Folding.{IsFolded, with_folded}
use Rattle.cd_code.proofs.EdcLemmas.{step-xor, step-lt, after, after-lt, after-append, after-sum, after-xor_zeros, after_bits, after_bits-lt, after_bits-xor, after_bits-zero, remainder-after}
use Rattle.cd_code.proofs.general.Xor.{xor_common, xor_swap}

-- ---- k bytes 00

-- n bits 0 after the remainder r
zero_bits-step : (n r : ℕ) → after_bits n (divide_step r 0) 0 ≡ divide_step (after_bits n r 0) 0
zero_bits-step zero r = refl
zero_bits-step (suc n) r = zero_bits-step n (divide_step r 0)

zero_bits-more : (m n r : ℕ) → after_bits n (after_bits m r 0) 0 ≡ after_bits (m + n) r 0
zero_bits-more zero n r = let e : n ≡ zero + n = omega arith in ap (λ k. after_bits k r 0) e
zero_bits-more (suc m) n r =
    let e : suc (m + n) ≡ suc m + n = omega arith in
    zero_bits-more m n (divide_step r 0) ∙ ap (λ k. after_bits k r 0) e

-- the remainder when k bytes 00 follow the remainder r
pub zeros : ℕ → ℕ → ℕ
zeros k r = after_bits (8 * k) r 0

zeros-lt : (k r : ℕ) → r < 2 ^ 32 → zeros k r < 2 ^ 32
unfolding zeros
zeros-lt k r h = after_bits-lt (8 * k) r 0 h

pub zeros-xor : (k r s : ℕ) → r < 2 ^ 32 → s < 2 ^ 32
    → zeros k (bit_xor r s) ≡ bit_xor (zeros k r) (zeros k s)
unfolding zeros
zeros-xor k r s hr hs = after_bits-xor (8 * k) r s 0 0 hr hs

zeros-more : (m n r : ℕ) → zeros n (zeros m r) ≡ zeros (m + n) r
unfolding zeros
zeros-more m n r =
    zero_bits-more (8 * m) (8 * n) r
    ∙ (let e : 8 * m + 8 * n ≡ 8 * (m + n) = omega arith in ap (λ k. after_bits k r 0) e)

zeros-step : (k r : ℕ) → zeros k (divide_step r 0) ≡ divide_step (zeros k r) 0
unfolding zeros
zeros-step k r = zero_bits-step (8 * k) r

pub zeros-zero : (k : ℕ) → zeros k 0 ≡ 0
unfolding zeros
zeros-zero k = after_bits-zero (8 * k)

pub after-zeros : (k r : ℕ) → after r (replicate k 0) ≡ zeros k r
unfolding zeros
after-zeros zero r = refl
after-zeros (suc k) r =
    after-zeros k (after_bits 8 r 0) ∙ zero_bits-more 8 (8 * k) r
    ∙ (let e : 8 + 8 * k ≡ 8 * suc k = omega arith in ap (λ n. after_bits n r 0) e)

-- ---- the multiple of the generator with four terms

abbrev HasFour : ℕ → Type 0
HasFour r = zeros 32 r ≡ bit_xor (zeros 16 r) (bit_xor (zeros 4 r) (zeros 1 r))

four-bit : (b : ℕ) → b < 2 → HasFour b
unfolding zeros divide_step
four-bit zero h = refl
four-bit (suc zero) h = refl
four-bit _ h = absurd (omega arith)

step-bit : (b : ℕ) → b < 2 → divide_step 0 b ≡ b
unfolding divide_step
step-bit zero h = refl
step-bit (suc zero) h = refl
step-bit _ h = absurd (omega arith)

-- a step with a bit is a step with the bit 0, to which the bit is added
step-parts : (r b : ℕ) → r < 2 ^ 32 → b < 2 → divide_step r b ≡ bit_xor (divide_step r 0) b
step-parts r b hr hb =
    sym (ap₂ divide_step (xor_zero_r r) (xor_zero_l b))
    ∙ step-xor r 0 0 b hr (lit< tt) (lit< tt) hb ∙ ap (bit_xor (divide_step r 0)) (step-bit b hb)

four-xor : (r s : ℕ) → r < 2 ^ 32 → s < 2 ^ 32 → HasFour r → HasFour s → HasFour (bit_xor r s)
four-xor r s hr hs h k =
    zeros-xor 32 r s hr hs ∙ ap₂ bit_xor h k
    ∙ xor_swap (zeros 16 r) (bit_xor (zeros 4 r) (zeros 1 r)) (zeros 16 s)
    (bit_xor (zeros 4 s) (zeros 1 s))
    ∙ ap (bit_xor (bit_xor (zeros 16 r) (zeros 16 s)))
    (xor_swap (zeros 4 r) (zeros 1 r) (zeros 4 s) (zeros 1 s))
    ∙ sym (ap₂ bit_xor (zeros-xor 16 r s hr hs)
    (ap₂ bit_xor (zeros-xor 4 r s hr hs) (zeros-xor 1 r s hr hs)))

four-step_zero : (r : ℕ) → r < 2 ^ 32 → HasFour r → HasFour (divide_step r 0)
four-step_zero r hr h =
    let lt : (k : ℕ) → zeros k r < 2 ^ 32 = λ k. zeros-lt k r hr in
    let both = xor_lt 32 (zeros 4 r) (zeros 1 r) (lt 4) (lt 1) in
    zeros-step 32 r ∙ ap (λ s. divide_step s 0) h
    ∙ step-xor (zeros 16 r) (bit_xor (zeros 4 r) (zeros 1 r)) 0 0 (lt 16) both (lit< tt) (lit< tt)
    ∙ ap (bit_xor (divide_step (zeros 16 r) 0))
    (step-xor (zeros 4 r) (zeros 1 r) 0 0 (lt 4) (lt 1) (lit< tt) (lit< tt))
    ∙ sym (ap₂ bit_xor (zeros-step 16 r) (ap₂ bit_xor (zeros-step 4 r) (zeros-step 1 r)))

four-step : (r b : ℕ) → r < 2 ^ 32 → b < 2 → HasFour r → HasFour (divide_step r b)
four-step r b hr hb h =
    let small : b < 2 ^ 32 = omega arith in
    rw (step-parts r b hr hb)
    (four-xor (divide_step r 0) b (step-lt r 0 hr (lit< tt)) small (four-step_zero r hr h)
    (four-bit b hb))

four-bits : (n r x : ℕ) → r < 2 ^ 32 → HasFour r → HasFour (after_bits n r x)
four-bits zero r x hr h = h
four-bits (suc n) r x hr h =
    four-bits n (divide_step r (x % 2)) (x / 2) (step-lt r (x % 2) hr (omega arith))
    (four-step r (x % 2) hr (omega arith) h)

four-after : (r : ℕ) (v : List ℕ) → r < 2 ^ 32 → HasFour r → HasFour (after r v)
four-after r [] hr h = h
four-after r (x ∷ v) hr h =
    four-after (after_bits 8 r x) v (after_bits-lt 8 r x hr) (four-bits 8 r x hr h)

-- ---- lists

left-lt : (v : List ℕ) → after 0 v < 2 ^ 32
left-lt v = after-lt 0 v (lit< tt)

-- the remainder of one list followed by another
left-append : (u v : List ℕ) → after 0 (u ++ v) ≡ bit_xor (zeros (length v) (after 0 u)) (after 0 v)
left-append u v =
    after-append 0 u v ∙ ap (λ z. after z v) (sym (xor_zero_r (after 0 u)))
    ∙ after-xor_zeros (after 0 u) 0 v (left-lt u) (lit< tt)
    ∙ ap (λ z. bit_xor z (after 0 v)) (after-zeros (length v) (after 0 u))

-- the remainder of a sum of two lists of sixteen bytes
left-sum : (u v : List ℕ) → length u ≡ 16 → length v ≡ 16
    → after 0 (zip2 bit_xor u v) ≡ bit_xor (after 0 u) (after 0 v)
left-sum u v hu hv =
    let long = length-zip2 bit_xor u v (hu ∙ sym hv) in
    after-sum 0 0 (zip2 bit_xor u v) u v (lit< tt) (lit< tt) long (omega arith)
    (λ i h. get_or-zip2 bit_xor u v i 0 0 0 (omega arith) (omega arith))

length-sum : (u v : List ℕ) → length u ≡ 16 → length v ≡ 16 → length (zip2 bit_xor u v) ≡ 16
length-sum u v hu hv = length-zip2 bit_xor u v (hu ∙ sym hv) ∙ hu

length-window : (k : ℕ) (a b : List ℕ) → length a ≡ 16 → length b ≡ 16 → k ≤ 16
    → length (take 16 (drop k (a ++ b))) ≡ 16
length-window k a b ha hb h =
    omega (arith, length-take 16 (drop k (a ++ b)), length-drop k (a ++ b), length-append a b)

-- the remainder of n bytes, from place m on, of two lists of n bytes each
left-window : (m n : ℕ) (a b : List ℕ) → length a ≡ n → length b ≡ n → m ≤ n
    → after 0 (take n (drop m (a ++ b)))
    ≡ bit_xor (zeros m (after 0 a)) (bit_xor (zeros n (after 0 (take m a))) (after 0 (take m b)))
left-window m n a b ha hb h =
    let rest = drop m a in
    let front = take m b in
    let rest_len : length rest + m ≡ n = omega (arith, length-drop m a) in
    let front_len : length front ≡ m = omega (arith, length-take m b) in
    let p = after 0 (take m a) in
    let d = after 0 rest in
    let window : take n (drop m (a ++ b)) ≡ rest ++ front =
    ap (take n) (drop-append-le m a b (omega arith)) ∙ ap (λ k. take k (rest ++ b)) (sym rest_len)
    ∙ take-append-add rest b m in
    let whole : zeros m (after 0 a) ≡ bit_xor (zeros n p) (zeros m d) =
    ap (λ v. zeros m (after 0 v)) (sym (take-append-drop m a))
    ∙ ap (zeros m) (left-append (take m a) rest)
    ∙ zeros-xor m (zeros (length rest) p) d (zeros-lt (length rest) p (left-lt (take m a)))
    (left-lt rest)
    ∙ ap (λ z. bit_xor z (zeros m d))
    (zeros-more (length rest) m p ∙ ap (λ k. zeros k p) rest_len) in
    ap (after 0) window ∙ left-append rest front
    ∙ ap (λ k. bit_xor (zeros k d) (after 0 front)) front_len
    ∙ sym (ap (λ z. bit_xor z (bit_xor (zeros n p) (after 0 front))) whole
    ∙ xor_common (zeros n p) (zeros m d) (after 0 front) ∙ xor_comm (after 0 front) (zeros m d))

-- the remainder of sixteen folded bytes
left-folded : (a b c : List ℕ) → length a ≡ 16 → length b ≡ 16 → length c ≡ 16
    → after 0 (with_folded a b c) ≡ bit_xor (bit_xor (bit_xor (after 0 c) (after 0 b))
    (bit_xor (zeros 4 (after 0 a)) (bit_xor (zeros 16 (after 0 (take 4 a))) (after 0 (take 4 b)))))
    (bit_xor (zeros 1 (after 0 a)) (bit_xor (zeros 16 (after 0 (take 1 a))) (after 0 (take 1 b))))
left-folded a b c ha hb hc =
    let far = take 16 (drop 4 (a ++ b)) in
    let near = take 16 (drop 1 (a ++ b)) in
    let far_len = length-window 4 a b ha hb (lit≤ tt) in
    let one = zip2 bit_xor c b in
    let one_len = length-sum c b hc hb in
    left-sum (zip2 bit_xor one far) near (length-sum one far one_len far_len)
    (length-window 1 a b ha hb (lit≤ tt))
    ∙ ap₂ bit_xor
    (left-sum one far one_len far_len
    ∙ ap₂ bit_xor (left-sum c b hc hb) (left-window 4 16 a b ha hb (lit≤ tt)))
    (left-window 1 16 a b ha hb (lit≤ tt))

length-folded : (a b c : List ℕ) → length a ≡ 16 → length b ≡ 16 → length c ≡ 16
    → length (with_folded a b c) ≡ 16
length-folded a b c ha hb hc =
    length-sum (zip2 bit_xor (zip2 bit_xor c b) (take 16 (drop 4 (a ++ b))))
    (take 16 (drop 1 (a ++ b)))
    (length-sum (zip2 bit_xor c b) (take 16 (drop 4 (a ++ b))) (length-sum c b hc hb)
    (length-window 4 a b ha hb (lit≤ tt)))
    (length-window 1 a b ha hb (lit≤ tt))

-- the remainder of the 32 bytes of two registers
abbrev left_of : List ℕ → List ℕ → ℕ
left_of a b =
    bit_xor (zeros 16 (after 0 a))
    (bit_xor (bit_xor (bit_xor (after 0 b) (after 0 a)) (after 0 (take 4 a))) (after 0 (take 1 a)))

left-registers : (a b : List ℕ) → length a ≡ 16 → length b ≡ 16
    → after 0 (a ++ with_folded (replicate 16 0) a b) ≡ left_of a b
left-registers a b ha hb =
    let zs = replicate 16 0 in
    let none : (k : ℕ) → after 0 (replicate k 0) ≡ 0 = λ k. after-zeros k 0 ∙ zeros-zero k in
    let four = after 0 (take 4 a) in
    let one = after 0 (take 1 a) in
    let clear : (k n s : ℕ)
    → bit_xor (zeros k (after 0 zs)) (bit_xor (zeros 16 (after 0 (replicate n 0))) s) ≡ s =
    λ k n s.
    ap₂ bit_xor (ap (zeros k) (none 16) ∙ zeros-zero k)
    (ap (λ z. bit_xor z s) (ap (zeros 16) (none n) ∙ zeros-zero 16) ∙ xor_zero_l s)
    ∙ xor_zero_l s in
    left-append a (with_folded zs a b)
    ∙ ap (λ k. bit_xor (zeros k (after 0 a)) (after 0 (with_folded zs a b)))
    (length-folded zs a b refl ha hb)
    ∙ ap (bit_xor (zeros 16 (after 0 a)))
    (left-folded zs a b refl ha hb
    ∙ ap (λ z. bit_xor (bit_xor (bit_xor (after 0 b) (after 0 a)) z)
    (bit_xor (zeros 1 (after 0 zs)) (bit_xor (zeros 16 (after 0 (replicate 1 0))) one)))
    (clear 4 4 four)
    ∙ ap (bit_xor (bit_xor (bit_xor (after 0 b) (after 0 a)) four)) (clear 1 1 one))

-- two sums with equal bits in each place
ten_terms : (za ya xa zb zp zq b c p q : ℕ)
    → bit_xor (bit_xor (bit_xor za (bit_xor ya xa)) (bit_xor (bit_xor (bit_xor zb za) zp) zq)) c
    ≡ bit_xor zb (bit_xor
    (bit_xor (bit_xor
    (bit_xor (bit_xor (bit_xor c b) (bit_xor ya (bit_xor zp p)))
    (bit_xor xa (bit_xor zq q))) b) p) q)
ten_terms za ya xa zb zp zq b c p q =
    same_from_bits _ _ (λ i. simp bit_at_xor (omega arith))

-- sixteen more bytes
pub IsFolded-step : (v a b c : List ℕ) → IsFolded v a b → length c ≡ 16
    → IsFolded (v ++ c) b (with_folded a b c)
IsFolded-step v a b c h hc =
    let ha = h.older_size in
    let hb = h.newer_size in
    let ra = after 0 a in
    let rb = after 0 b in
    let rp = after 0 (take 4 a) in
    let rq = after 0 (take 1 a) in
    let x : (k r s : ℕ) → r < 2 ^ 32 → s < 2 ^ 32
    → zeros k (bit_xor r s) ≡ bit_xor (zeros k r) (zeros k s) = zeros-xor in
    let la = left-lt a in
    let lb = left-lt b in
    let lp = left-lt (take 4 a) in
    let lq = left-lt (take 1 a) in
    let two : bit_xor rb ra < 2 ^ 32 = xor_lt 32 rb ra lb la in
    let three : bit_xor (bit_xor rb ra) rp < 2 ^ 32 = xor_lt 32 (bit_xor rb ra) rp two lp in
    let four : bit_xor (bit_xor (bit_xor rb ra) rp) rq < 2 ^ 32 =
    xor_lt 32 (bit_xor (bit_xor rb ra) rp) rq three lq in
    let left : after 0 v ≡ left_of a b =
    sym (remainder-after v) ∙ h.same ∙ remainder-after (a ++ with_folded (replicate 16 0) a b)
    ∙ left-registers a b ha hb in
    let moved : zeros 16 (after 0 v)
    ≡ bit_xor (bit_xor (zeros 16 ra) (bit_xor (zeros 4 ra) (zeros 1 ra)))
    (bit_xor (bit_xor
    (bit_xor (zeros 16 rb) (zeros 16 ra)) (zeros 16 rp)) (zeros 16 rq)) =
    ap (zeros 16) left
    ∙ x 16 (zeros 16 ra) (bit_xor (bit_xor (bit_xor rb ra) rp) rq) (zeros-lt 16 ra la) four
    ∙ ap₂ bit_xor (zeros-more 16 16 ra ∙ four-after 0 a (lit< tt) (four-bit 0 (lit< tt)))
    (x 16 (bit_xor (bit_xor rb ra) rp) rq three lq
    ∙ ap (λ z. bit_xor z (zeros 16 rq))
    (x 16 (bit_xor rb ra) rp two lp ∙ ap (λ z. bit_xor z (zeros 16 rp)) (x 16 rb ra lb la))) in
    let n = with_folded a b c in
    let n_len = length-folded a b c ha hb hc in
    record {
      older_size = hb;
      newer_size = n_len;
      same =
          remainder-after (v ++ c) ∙ left-append v c
          ∙ ap (λ k. bit_xor (zeros k (after 0 v)) (after 0 c)) hc
          ∙ ap (λ z. bit_xor z (after 0 c)) moved
          ∙ ten_terms (zeros 16 ra) (zeros 4 ra) (zeros 1 ra) (zeros 16 rb) (zeros 16 rp)
          (zeros 16 rq) rb (after 0 c) (after 0 (take 4 b)) (after 0 (take 1 b))
          ∙ ap (λ z. bit_xor (zeros 16 rb)
          (bit_xor (bit_xor (bit_xor z rb) (after 0 (take 4 b))) (after 0 (take 1 b))))
          (sym (left-folded a b c ha hb hc))
          ∙ sym (remainder-after (b ++ with_folded (replicate 16 0) b n) ∙ left-registers b n hb n_len);
    }

pub IsFolded-nil : IsFolded [] (replicate 16 0) (replicate 16 0)
unfolding remainder bits divide_step
IsFolded-nil = record { older_size = refl; newer_size = refl; same = refl }

-- sixteen folded bytes, selected from registers by position
pub folded_by_position : (a b c : List ℕ) → length a ≡ 16 → length b ≡ 16
    → zip2 bit_xor (zip2 bit_xor (zip2 bit_xor c b) (pick_l 0 (a ++ b) (range_with_len 4 16)))
    (pick_l 0 (a ++ b) (range_with_len 1 16))
    ≡ with_folded a b c
folded_by_position a b c ha hb =
    let both : length (a ++ b) ≡ 32 = omega (arith, length-append a b) in
    ap (λ z. zip2 bit_xor (zip2 bit_xor (zip2 bit_xor c b) z)
    (pick_l 0 (a ++ b) (range_with_len 1 16)))
    (pick_l-range_with_len 0 (a ++ b) 4 16 (omega arith))
    ∙ ap (zip2 bit_xor (zip2 bit_xor (zip2 bit_xor c b) (take 16 (drop 4 (a ++ b)))))
    (pick_l-range_with_len 0 (a ++ b) 1 16 (omega arith))

-- 64 more bytes
pub IsFolded-block : (v a b x y z w block : List ℕ) → IsFolded v a b → length block ≡ 64
    → x ≡ with_folded a b (take 16 block) → y ≡ with_folded b x (take 16 (drop 16 block))
    → z ≡ with_folded x y (take 16 (drop 32 block)) → w ≡ with_folded y z (take 16 (drop 48 block))
    → IsFolded (v ++ block) z w
IsFolded-block v a b x y z w block h long ex ey ez ew =
    let part : (k : ℕ) → k + 16 ≤ 64 → length (take 16 (drop k block)) ≡ 16 =
    λ k le. omega (arith, length-take 16 (drop k block), length-drop k block) in
    let one = take 16 block in
    let two = take 16 (drop 16 block) in
    let three = take 16 (drop 32 block) in
    let four = take 16 (drop 48 block) in
    let parts : block ≡ ((one ++ two) ++ three) ++ four =
    sym (take_all 64 block (omega arith)) ∙ take-add 48 16 block
    ∙ ap (λ u. u ++ four) (take-add 32 16 block ∙ ap (λ u. u ++ three) (take-add 16 16 block)) in
    let one_in = rw (← ex) at (IsFolded-step v a b one h (part 0 (lit≤ tt))) in
    let two_in = rw (← ey) at (IsFolded-step (v ++ one) b x two one_in (part 16 (lit≤ tt))) in
    let three_in =
    rw (← ez) at (IsFolded-step ((v ++ one) ++ two) x y three two_in (part 32 (lit≤ tt))) in
    let four_in =
    rw (← ew) at (IsFolded-step (((v ++ one) ++ two) ++ three) y z four three_in
    (part 48 (lit≤ tt))) in
    let joined : (((v ++ one) ++ two) ++ three) ++ four ≡ v ++ block =
    (let e : (((v ++ one) ++ two) ++ three) ++ four
    ≡ v ++ (((one ++ two) ++ three) ++ four) = simp append_assoc in e)
    ∙ ap (λ u. v ++ u) (sym parts) in
    rw joined at four_in
