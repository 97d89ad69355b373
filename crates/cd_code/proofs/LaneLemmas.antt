-- Lemmas about lanes of field elements: a doubled vector, and a vector that is added to the sums at
-- a place.
use Rattle.std.proofs.Common.{◌≡◌, ℕ, zero, suc, ◌+◌, ◌-◌, ◌%◌, ◌<◌, ◌≤◌, cond, List, [], ◌∷◌, length, map, replicate, get_or, bit_and, bit_xor, refl, sym, ap, ap₂, ◌∙◌, arith}
use Rattle.std.specs.Simd.Lanes.{Each1, zip2, sel_l, top, chunk, put_chunk}
use Rattle.std.proofs.lemmas.List.{length-map, get_or-map}
use Rattle.std.specs.Int.Bits.{xor_zero_r}
use Rattle.std.proofs.lemmas.Nat.{and_mask, xor_lt}
use Rattle.std.proofs.lemmas.Simd.{below_from_Fits, Each1-get_or, length-chunk, length-zip2, get_or-chunk, get_or-zip2, get_or-put_chunk_at, get_or-put_chunk_above}
use lib.Dec.{leb}
use Rattle.cd_code.specs.Field.{double, product}
use Rattle.cd_code.proofs.FieldLemmas.{double-zero}
use Rattle.cd_code.proofs.general.Tables.{equal_below}
use Rattle.cd_code.proofs.general.Xor.{xor_twice_left}
use mir.Syntax.{w8}
use mir.Val.{Fits}

-- one lane: the sum with itself, and 1D if the top bit was set
abbrev lane_doubled : ℕ → ℕ
lane_doubled x = bit_xor ((x + x) % 256) (cond (top 7 (cond (leb 128 x) 255 0)) 29 0)

lane_doubled-double : (x : ℕ) → x < 256 → lane_doubled x ≡ double x
unfolding double
lane_doubled-double = equal_below lane_doubled double 256 refl

pub lanes_doubled : (v : List ℕ) → Each1 (λ x. x < 256) v
    → zip2 bit_xor (zip2 (λ a b. (a + b) % 256) v v)
    (sel_l (map (top 7) (zip2 (λ a b. cond (leb a b) 255 0) (replicate (length v) 128) v))
    (replicate (length v) 29) (replicate (length v) 0))
    ≡ map double v
lanes_doubled [] h = refl
lanes_doubled (x ∷ v) h =
    ap₂ (λ y w. y ∷ w) (lane_doubled-double x h.0) (lanes_doubled v h.1)

-- n bytes of a row, from a place on, added to n lanes that are written back to that place
pub lanes_added : (f : ℕ → ℕ) (at n : ℕ) (sums row lanes : List ℕ) → at + n ≤ length sums
    → at + n ≤ length row
    → lanes ≡ map f (chunk at n sums) → (c : ℕ) → at ≤ c → c < at + n
    → get_or (put_chunk at sums (zip2 bit_xor lanes (chunk at n row))) c 0
    ≡ bit_xor (f (get_or sums c 0)) (get_or row c 0)
lanes_added f at n sums row lanes hs hr e c from to =
    let j = c - at in
    let place : at + j ≡ c = omega arith in
    let taken : length (chunk at n sums) ≡ n = length-chunk at n sums hs in
    let row_taken : length (chunk at n row) ≡ n = length-chunk at n row hr in
    let lanes_len : length lanes ≡ n = ap length e ∙ length-map (chunk at n sums) f ∙ taken in
    let both : length (zip2 bit_xor lanes (chunk at n row)) ≡ n =
    length-zip2 bit_xor lanes (chunk at n row) (omega arith) ∙ lanes_len in
    let lane : get_or lanes j 0 ≡ f (get_or sums c 0) =
    ap (λ z. get_or z j 0) e ∙ get_or-map f (chunk at n sums) j 0 0 (omega arith)
    ∙ ap f (get_or-chunk at n sums j 0 (omega arith) ∙ ap (λ k. get_or sums k 0) place) in
    ap (λ k. get_or (put_chunk at sums (zip2 bit_xor lanes (chunk at n row))) k 0) (sym place)
    ∙ get_or-put_chunk_at at sums (zip2 bit_xor lanes (chunk at n row)) j 0 (omega arith)
    (omega arith)
    ∙ get_or-zip2 bit_xor lanes (chunk at n row) j 0 0 0 (omega arith) (omega arith)
    ∙ ap (λ z. bit_xor z (get_or (chunk at n row) j 0)) lane
    ∙ ap (bit_xor (f (get_or sums c 0)))
    (get_or-chunk at n row j 0 (omega arith) ∙ ap (λ k. get_or row k 0) place)

-- the sums after these lanes do not change
pub lanes_above : (at n : ℕ) (sums row lanes : List ℕ) → at + n ≤ length row → length lanes ≡ n
    → (c : ℕ) → at + n ≤ c
    → get_or (put_chunk at sums (zip2 bit_xor lanes (chunk at n row))) c 0 ≡ get_or sums c 0
lanes_above at n sums row lanes hr long c h =
    let row_taken : length (chunk at n row) ≡ n = length-chunk at n row hr in
    let both : length (zip2 bit_xor lanes (chunk at n row)) ≡ n =
    length-zip2 bit_xor lanes (chunk at n row) (omega arith) ∙ long in
    get_or-put_chunk_above at sums (zip2 bit_xor lanes (chunk at n row)) c 0 (omega arith)

-- ---- 32 lanes in registers

-- a doubled vector, lane by lane; past the end both sides are 0
pub get_or-doubled : (v : List ℕ) (i : ℕ) → get_or (map double v) i 0 ≡ double (get_or v i 0)
get_or-doubled [] i = sym double-zero
get_or-doubled (x ∷ v) zero = refl
get_or-doubled (x ∷ v) (suc i) = get_or-doubled v i

pub lanes_doubled_added : (weighted lanes doubled : List ℕ) → length weighted ≡ 32
    → length lanes ≡ 32 → doubled ≡ map double weighted
    → (i : ℕ) → i < 32
    → get_or (zip2 bit_xor doubled lanes) i 0
    ≡ bit_xor (double (get_or weighted i 0)) (get_or lanes i 0)
lanes_doubled_added weighted lanes doubled hw hl e i h =
    let long : length doubled ≡ 32 = ap length e ∙ length-map weighted double ∙ hw in
    get_or-zip2 bit_xor doubled lanes i 0 0 0 (omega arith) (omega arith)
    ∙ ap (λ z. bit_xor z (get_or lanes i 0))
    (ap (λ v. get_or v i 0) e ∙ get_or-map double weighted i 0 0 (omega arith))

-- F4 is the sum of alpha to the 7, 6, 5, 4, and 2
abbrev times_f4 : ℕ → ℕ
times_f4 x =
    double (double (bit_xor
    (double (double (bit_xor (double (bit_xor (double (bit_xor (double x) x)) x)) x))) x))

pub times_inverse : (x : ℕ) → x < 256 → times_f4 x ≡ product 244 x
unfolding double product
times_inverse = equal_below times_f4 (product 244) 256 refl

-- a lane of the selection between two vectors by a mask
select_lanes-lane : (old new mask : List ℕ) → length old ≡ 32 → length new ≡ 32 → length mask ≡ 32
    → (i : ℕ) → i < 32
    → get_or (zip2 bit_xor old (zip2 bit_and (zip2 bit_xor old new) mask)) i 0
    ≡ bit_xor (get_or old i 0)
    (bit_and (bit_xor (get_or old i 0) (get_or new i 0)) (get_or mask i 0))
select_lanes-lane old new mask ho hn ht i h =
    let both_len : length (zip2 bit_xor old new) ≡ 32 =
    length-zip2 bit_xor old new (ho ∙ sym hn) ∙ ho in
    let masked_len : length (zip2 bit_and (zip2 bit_xor old new) mask) ≡ 32 =
    length-zip2 bit_and (zip2 bit_xor old new) mask (both_len ∙ sym ht) ∙ both_len in
    get_or-zip2 bit_xor old (zip2 bit_and (zip2 bit_xor old new) mask) i 0 0 0 (omega arith)
    (omega arith)
    ∙ ap (bit_xor (get_or old i 0))
    (get_or-zip2 bit_and (zip2 bit_xor old new) mask i 0 0 0 (omega arith) (omega arith)
    ∙ ap (λ z. bit_and z (get_or mask i 0))
    (get_or-zip2 bit_xor old new i 0 0 0 (omega arith) (omega arith)))

pub select_lanes-new : (old new mask : List ℕ) → length old ≡ 32 → length new ≡ 32
    → length mask ≡ 32
    → Each1 (Fits w8) old → Each1 (Fits w8) new → (i : ℕ) → i < 32 → get_or mask i 0 ≡ 255
    → get_or (zip2 bit_xor old (zip2 bit_and (zip2 bit_xor old new) mask)) i 0 ≡ get_or new i 0
select_lanes-new old new mask ho hn ht fo fn i h e =
    let a = get_or old i 0 in
    let b = get_or new i 0 in
    let a_lt : a < 256 =
    Each1-get_or (λ x. x < 256) old i 0 (omega arith) (below_from_Fits w8 old fo) in
    let b_lt : b < 256 =
    Each1-get_or (λ x. x < 256) new i 0 (omega arith) (below_from_Fits w8 new fn) in
    let sum_lt : bit_xor a b < 256 = xor_lt 8 a b a_lt b_lt in
    let whole : bit_xor a b % 256 ≡ bit_xor a b = omega arith in
    select_lanes-lane old new mask ho hn ht i h
    ∙ ap (λ z. bit_xor a (bit_and (bit_xor a b) z)) e
    ∙ ap (bit_xor a) (and_mask (bit_xor a b) 8 ∙ whole)
    ∙ xor_twice_left a b

pub select_lanes-old : (old new mask : List ℕ) → length old ≡ 32 → length new ≡ 32
    → length mask ≡ 32
    → (i : ℕ) → i < 32 → get_or mask i 0 ≡ 0
    → get_or (zip2 bit_xor old (zip2 bit_and (zip2 bit_xor old new) mask)) i 0 ≡ get_or old i 0
select_lanes-old old new mask ho hn ht i h e =
    let a = get_or old i 0 in
    let b = get_or new i 0 in
    let none : bit_xor a b % 1 ≡ 0 = omega arith in
    select_lanes-lane old new mask ho hn ht i h
    ∙ ap (λ z. bit_xor a (bit_and (bit_xor a b) z)) e
    ∙ ap (bit_xor a) (and_mask (bit_xor a b) 0 ∙ none)
    ∙ xor_zero_r a
