-- Sixteen diagonals of both planes at a time: the bytes of their lanes, and the order of their
-- sums.
use Rattle.std.proofs.Common.{◌≡◌, ℕ, ◌+◌, ◌-◌, ◌*◌, ◌/◌, ◌%◌, ◌<◌, ◌≤◌, ◌⊎◌, inl, inr, nat_lt, List, [], ◌∷◌, ◌++◌, length, get_or, set, replicate, take, bit_and, bit_xor, refl, sym, ap, ap₂, ◌∙◌, arith, append_assoc}
use Rattle.std.specs.Int.Bits.{xor_zero_r}
use Rattle.std.specs.Bool.{if◌then◌else◌}
use Rattle.std.specs.Simd.Lanes.{Each1, pick_l, zip2}
use Rattle.std.proofs.lemmas.Bool.{cases_lt}
use Rattle.std.proofs.lemmas.Bool.Decides.{nat_tests}
use Rattle.std.proofs.lemmas.List.{get_or-map, get_or-set_other, get_or_append_left, take_all}
use Rattle.std.proofs.lemmas.Nat.{and_mask}
use Rattle.std.proofs.lemmas.Simd.{below_from_Fits, Each1-get_or, get_or-replicate, get_or-zip2}
use Rattle.cd_code.specs.Field.{AreBytes, double}
use Rattle.cd_code.specs.Syndrome.{first_syndrome, second_syndrome}
use Rattle.cd_code.proofs.FieldLemmas.{double-zero}
use Rattle.cd_code.proofs.general.Tables.{equal_below}
use Rattle.cd_code.proofs.SyndromeLemmas.{first_syndrome-nil, second_syndrome-nil, first_syndrome-push, second_syndrome-push}
use Rattle.cd_code.specs.CodeWords.{SumsOf, place_of, bytes_at, diagonal_input, diagonal_of}
use Rattle.cd_lanes.specs.DiagonalSteps.{SumsUpTo, bytes_up_to, lane_place}
use Rattle.cd_lanes.specs.declared.diagonals.TheConstants.{RISING, LANE_MASKS}
use Rattle.cd_code.proofs.ParityLemmas.{take-row}
use Rattle.cd_lanes.proofs.SumLemmas.{SumsOf-more}
use mir.Syntax.{w8}
use mir.Val.{Fits}
use Rattle.cd_code.proofs.PlaceLemmas.{length-bytes_at, bytes_at-byte, length-diagonal_input, diagonal_input_place, diagonal_of-parts}

-- ---- the bytes of a lane

length-word : (s : List ℕ) (plane n : ℕ) → length (bytes_at s (diagonal_input plane n)) ≡ 43
length-word s plane n = length-bytes_at s (diagonal_input plane n) ∙ length-diagonal_input plane n

-- a lane with a byte in this step
taken-more : (s : List ℕ) (top step i : ℕ) → i / 2 ≤ top → top ≤ step + i / 2
    → step + i / 2 < top + 43
    → bytes_up_to s top (step + 1) i
    ≡ bytes_up_to s top step i ++ get_or s (lane_place top step i) 0 ∷ []
taken-more s top step i within begun running =
    let n = top - i / 2 in
    let m = step - n in
    let plane = i % 2 in
    let word = bytes_at s (diagonal_input plane n) in
    let inside : m < 43 = omega arith in
    let one_more : step + 1 - n ≡ m + 1 = omega arith in
    let place : place_of plane ((44 * m + 43 * n) % 1118) ≡ lane_place top step i =
    place_at top step i n m within refl begun refl inside in
    ap (λ k. take k word) one_more
    ∙ take-row word m (get_or s (lane_place top step i) 0) (omega (arith, length-word s plane n))
    (bytes_at-byte s (diagonal_input plane n) m (omega (arith, length-diagonal_input plane n))
    ∙ ap (λ p. get_or s p 0) (diagonal_input_place plane n m inside ∙ place))
  where
    place_at : (top step i n m : ℕ) → i / 2 ≤ top → n ≡ top - i / 2 → top ≤ step + i / 2
        → m ≡ step - n → m < 43
        → place_of (i % 2) ((44 * m + 43 * n) % 1118) ≡ lane_place top step i
    place_at top step i n m within e begun f inside =
        let same_step : step ≡ m + n = omega arith in
        let number : (44 * m + 43 * n) % 1118 ≡ 43 * ((m + n) % 26) + m = omega arith in
        omega arith

-- a lane that has not begun, or has ended
taken-same : (s : List ℕ) (top step i : ℕ) → i / 2 ≤ top
    → (step + i / 2 < top) ⊎ (top + 43 ≤ step + i / 2)
    → bytes_up_to s top (step + 1) i ≡ bytes_up_to s top step i
taken-same s top step i within (inl before) =
    let word = bytes_at s (diagonal_input (i % 2) (top - i / 2)) in
    let a : step + 1 - (top - i / 2) ≡ 0 = omega arith in
    let b : step - (top - i / 2) ≡ 0 = omega arith in
    ap (λ k. take k word) (a ∙ sym b)
taken-same s top step i within (inr past) =
    let word = bytes_at s (diagonal_input (i % 2) (top - i / 2)) in
    let long = length-word s (i % 2) (top - i / 2) in
    take_all (step + 1 - (top - i / 2)) word (omega arith)
    ∙ sym (take_all (step - (top - i / 2)) word (omega arith))

-- no lane has begun
pub SumsUpTo-none : (s : List ℕ) (top step : ℕ) → step + 15 ≤ top
    → SumsUpTo s top step (replicate 32 0) (replicate 32 0)
SumsUpTo-none s top step h =
    let none : (i : ℕ) → i < 32 → bytes_up_to s top step i ≡ [] =
    λ i k. (let e : step - (top - i / 2) ≡ 0 = omega arith in
    ap (λ n. take n (bytes_at s (diagonal_input (i % 2) (top - i / 2)))) e) in
    record {
      first = λ i k. get_or-replicate 32 i 0 0 k
          ∙ sym (ap first_syndrome (none i k) ∙ first_syndrome-nil);
      second = λ i k. get_or-replicate 32 i 0 0 k
          ∙ sym (ap second_syndrome (none i k) ∙ second_syndrome-nil);
    }

-- the weighted sum of a lane that has not begun
weighted-unbegun : (s : List ℕ) (top step : ℕ) (plain weighted : List ℕ)
    → SumsUpTo s top step plain weighted
    → (i : ℕ) → i < 32 → step + i / 2 < top → get_or weighted i 0 ≡ 0
weighted-unbegun s top step plain weighted sums i h before =
    let none : step - (top - i / 2) ≡ 0 = omega arith in
    sums.second i h
    ∙ ap (λ n. second_syndrome (take n (bytes_at s (diagonal_input (i % 2) (top - i / 2))))) none
    ∙ second_syndrome-nil

-- one step: each lane adds its byte, or does not change
pub SumsUpTo-step : (s : List ℕ) (top step : ℕ) (plain weighted next next_weighted : List ℕ)
    → AreBytes s → 15 ≤ top
    → SumsUpTo s top step plain weighted
    → ((i : ℕ) → i < 32 → top ≤ step + i / 2 → step + i / 2 < top + 43
    → (get_or next i 0 ≡ bit_xor (get_or plain i 0) (get_or s (lane_place top step i) 0))
    × (get_or next_weighted i 0
    ≡ bit_xor (double (get_or weighted i 0)) (get_or s (lane_place top step i) 0)))
    → ((i : ℕ) → i < 32 → (step + i / 2 < top) ⊎ (top + 43 ≤ step + i / 2)
    → (get_or next i 0 ≡ get_or plain i 0) × (get_or next_weighted i 0 ≡ get_or weighted i 0))
    → SumsUpTo s top (step + 1) next next_weighted
SumsUpTo-step s top step plain weighted next next_weighted bytes least sums takes stays =
    let lane : (i : ℕ) → i < 32
    → (get_or next i 0 ≡ first_syndrome (bytes_up_to s top (step + 1) i))
    × (get_or next_weighted i 0 ≡ second_syndrome (bytes_up_to s top (step + 1) i)) =
    λ i h.
    let within : i / 2 ≤ top = omega arith in
    let rests : (step + i / 2 < top) ⊎ (top + 43 ≤ step + i / 2)
    → (get_or next i 0 ≡ first_syndrome (bytes_up_to s top (step + 1) i))
    × (get_or next_weighted i 0 ≡ second_syndrome (bytes_up_to s top (step + 1) i)) =
    λ outside.
    let same = taken-same s top step i within outside in
    let stay = stays i h outside in (
      stay.0 ∙ sums.first i h ∙ ap first_syndrome (sym same),
      stay.1 ∙ sums.second i h ∙ ap second_syndrome (sym same),
    ) in
    elim (cases_lt (step + i / 2) top) [
      | inl before ↦ rests (inl before)
      | inr begun ↦ elim (cases_lt (step + i / 2) (top + 43)) [
        | inl running ↦
            let more = taken-more s top step i within begun running in
            let took = takes i h begun running in
            let byte = get_or s (lane_place top step i) 0 in
            let so_far = bytes_up_to s top step i in (
              took.0 ∙ ap (λ z. bit_xor z byte) (sums.first i h)
                  ∙ sym (ap first_syndrome more ∙ first_syndrome-push so_far byte),
              took.1 ∙ ap (λ z. bit_xor (double z) byte) (sums.second i h)
                  ∙ sym (ap second_syndrome more
                  ∙ second_syndrome-push so_far byte (bytes (lane_place top step i))),
            )
        | inr past ↦ rests (inr past)
      ]
    ] in
    record { first = λ i h. (lane i h).0; second = λ i h. (lane i h).1 }

-- a step in which no lane has ended: a byte 00 does not change the lanes that have not begun
pub SumsUpTo-begin : (s : List ℕ) (top step : ℕ) (plain weighted lanes next next_weighted : List ℕ)
    → AreBytes s → 15 ≤ top → step < top + 28 → SumsUpTo s top step plain weighted
    → ((i : ℕ) → i < 32 → top ≤ step + i / 2
    → get_or lanes i 0 ≡ get_or s (lane_place top step i) 0)
    → ((i : ℕ) → i < 32 → step + i / 2 < top → get_or lanes i 0 ≡ 0)
    → ((i : ℕ) → i < 32 → get_or next i 0 ≡ bit_xor (get_or plain i 0) (get_or lanes i 0))
    → ((i : ℕ) → i < 32
    → get_or next_weighted i 0 ≡ bit_xor (double (get_or weighted i 0)) (get_or lanes i 0))
    → SumsUpTo s top (step + 1) next next_weighted
SumsUpTo-begin s top step plain weighted lanes next next_weighted bytes least most sums begun
    unbegun first second =
    SumsUpTo-step s top step plain weighted next next_weighted bytes least sums
    (λ i h from _.
    let lane = begun i h from in (
      first i h ∙ ap (bit_xor (get_or plain i 0)) lane,
      second i h ∙ ap (bit_xor (double (get_or weighted i 0))) lane,
    ))
    (λ i h outside.
    let before : step + i / 2 < top =
    elim outside [ inl before ↦ before | inr past ↦ absurd (omega arith) ] in
    let lane = unbegun i h before in
    let zero = weighted-unbegun s top step plain weighted sums i h before in (
      first i h ∙ ap (bit_xor (get_or plain i 0)) lane ∙ xor_zero_r (get_or plain i 0),
      second i h ∙ ap₂ (λ w b. bit_xor (double w) b) zero lane ∙ xor_zero_r (double 0)
          ∙ double-zero ∙ sym zero,
    ))

-- the lanes of the first step of diagonals 15 to 0: only those of diagonal 0 have a byte
abbrev pub corner : List ℕ → List ℕ
corner s = set (set (replicate 32 0) 30 (get_or s 12 0)) 31 (get_or s 13 0)

pub corner-takes : (s : List ℕ) (i : ℕ) → i < 32 → 15 ≤ 0 + i / 2
    → get_or (corner s) i 0 ≡ get_or s (lane_place 15 0 i) 0
corner-takes s i h last = elim (cases_lt i 31) [
  | inl lower ↦ let here : i ≡ 30 = omega arith in rw here refl
  | inr upper ↦ let here : i ≡ 31 = omega arith in rw here refl
]

pub corner-none : (s : List ℕ) (i : ℕ) → i < 32 → 0 + i / 2 < 15 → get_or (corner s) i 0 ≡ 0
corner-none s i h before =
    get_or-set_other (set (replicate 32 0) 30 (get_or s 12 0)) 31 i (get_or s 13 0) 0 (omega arith)
    ∙ get_or-set_other (replicate 32 0) 30 i (get_or s 12 0) 0 (omega arith)
    ∙ get_or-replicate 32 i 0 0 h

-- ---- diagonals in their order

-- the sums of ended diagonals, the last lanes first
pub SumsOf-rising : (s : List ℕ) (top step count : ℕ) (number : ℕ → ℕ)
    (plain weighted next next_weighted : List ℕ) → count ≤ 32
    → ((i : ℕ) → i < count
    → (number i / 2 + 15 ≡ top + i / 2) × ((number i % 2 ≡ i % 2) × (number i / 2 + 43 ≤ step)))
    → SumsUpTo s top step plain weighted
    → ((i : ℕ) → i < 32 → get_or next i 0 ≡ get_or plain (2 * (15 - i / 2) + i % 2) 0)
    → ((i : ℕ) → i < 32 → get_or next_weighted i 0 ≡ get_or weighted (2 * (15 - i / 2) + i % 2) 0)
    → SumsOf (λ i. bytes_at s (diagonal_input (number i % 2) (number i / 2))) count
    next next_weighted
SumsOf-rising s top step count number plain weighted next next_weighted few is sums firsts seconds =
    let word : (i : ℕ) → i < count
    → bytes_up_to s top step (2 * (15 - i / 2) + i % 2)
    ≡ bytes_at s (diagonal_input (number i % 2) (number i / 2)) =
    λ i h.
    let numbered = is i h in
    whole s top step i (number i) (omega arith) numbered.0 numbered.1.0 numbered.1.1 in
    record {
      first = λ i h. firsts i (omega arith) ∙ sums.first (2 * (15 - i / 2) + i % 2) (omega arith)
          ∙ ap first_syndrome (word i h);
      second = λ i h. seconds i (omega arith) ∙ sums.second (2 * (15 - i / 2) + i % 2) (omega arith)
          ∙ ap second_syndrome (word i h);
    }
  where
    whole : (s : List ℕ) (top step i n : ℕ) → i < 32 → n / 2 + 15 ≡ top + i / 2 → n % 2 ≡ i % 2
        → n / 2 + 43 ≤ step
        → bytes_up_to s top step (2 * (15 - i / 2) + i % 2)
        ≡ bytes_at s (diagonal_input (n % 2) (n / 2))
    whole s top step i n h e f past =
        let j = 2 * (15 - i / 2) + i % 2 in
        let diagonal : top - j / 2 ≡ n / 2 = omega arith in
        let plane : j % 2 ≡ n % 2 = omega arith in
        ap (λ d. take (step - d) (bytes_at s (diagonal_input (j % 2) d))) diagonal
        ∙ ap (λ k. take (step - n / 2) (bytes_at s (diagonal_input k (n / 2)))) plane
        ∙ take_all (step - n / 2) (bytes_at s (diagonal_input (n % 2) (n / 2)))
        (omega (arith, length-word s (n % 2) (n / 2)))

-- the sums of the first 20 words, and of the 32 after them
pub SumsOf-joined : (word : ℕ → List ℕ)
    (low low_weighted high high_weighted plain weighted : List ℕ)
    → SumsOf word 20 low low_weighted → SumsOf (λ i. word (20 + i)) 32 high high_weighted
    → ((i : ℕ) → i < 20 → get_or plain i 0 ≡ get_or low i 0)
    → ((i : ℕ) → i < 32 → get_or plain (20 + i) 0 ≡ get_or high i 0)
    → ((i : ℕ) → i < 20 → get_or weighted i 0 ≡ get_or low_weighted i 0)
    → ((i : ℕ) → i < 32 → get_or weighted (20 + i) 0 ≡ get_or high_weighted i 0)
    → SumsOf word 52 plain weighted
SumsOf-joined word low low_weighted high high_weighted plain weighted below above p q r t =
    let lane : (i : ℕ) → i < 52
    → (get_or plain i 0 ≡ first_syndrome (word i))
    × (get_or weighted i 0 ≡ second_syndrome (word i)) =
    λ i h. elim (cases_lt i 20) [
      | inl lower ↦ (p i lower ∙ below.first i lower, r i lower ∙ below.second i lower)
      | inr upper ↦
          let k = i - 20 in
          let place : 20 + k ≡ i = omega arith in
          let few : k < 32 = omega arith in (
            ap (λ n. get_or plain n 0) (sym place) ∙ q k few ∙ above.first k few
                ∙ ap (λ n. first_syndrome (word n)) place,
            ap (λ n. get_or weighted n 0) (sym place) ∙ t k few ∙ above.second k few
                ∙ ap (λ n. second_syndrome (word n)) place,
          )
    ] in
    record { first = λ i h. (lane i h).0; second = λ i h. (lane i h).1 }

-- the sums with the two rows of the diagonals' parity
pub SumsOf-parity : (s : List ℕ) (count : ℕ) (number : ℕ → ℕ)
    (first second plain weighted one one_weighted two two_weighted : List ℕ) → count ≤ 32
    → SumsOf (λ i. bytes_at s (diagonal_input (number i % 2) (number i / 2))) count plain weighted
    → AreBytes s
    → ((i : ℕ) → i < 32 → get_or first i 0 ≡ get_or s (2248 + number i) 0)
    → ((i : ℕ) → i < 32 → get_or second i 0 ≡ get_or s (2300 + number i) 0)
    → ((i : ℕ) → i < 32 → get_or one i 0 ≡ bit_xor (get_or plain i 0) (get_or first i 0))
    → ((i : ℕ) → i < 32
    → get_or one_weighted i 0 ≡ bit_xor (double (get_or weighted i 0)) (get_or first i 0))
    → ((i : ℕ) → i < 32 → get_or two i 0 ≡ bit_xor (get_or one i 0) (get_or second i 0))
    → ((i : ℕ) → i < 32
    → get_or two_weighted i 0 ≡ bit_xor (double (get_or one_weighted i 0)) (get_or second i 0))
    → SumsOf (λ i. diagonal_of s (number i)) count two two_weighted
SumsOf-parity s count number first second plain weighted one one_weighted two two_weighted few
    sums bytes firsts seconds f1 s1 f2 s2 =
    let input : ℕ → List ℕ = λ i. bytes_at s (diagonal_input (number i % 2) (number i / 2)) in
    let with_first : ℕ → List ℕ = λ i. input i ++ get_or first i 0 ∷ [] in
    let step = SumsOf-more input with_first count plain weighted first one one_weighted sums
    (λ i k. rw (firsts i (omega arith)) (bytes (2248 + number i))) (λ i k. refl)
    (λ i k. f1 i (omega arith)) (λ i k. s1 i (omega arith)) in
    SumsOf-more with_first (λ i. diagonal_of s (number i)) count one one_weighted second two
    two_weighted step
    (λ i k. rw (seconds i (omega arith)) (bytes (2300 + number i)))
    (λ i k.
    diagonal_of-parts s (number i)
    ∙ ap₂ (λ a b. input i ++ a ∷ b ∷ []) (sym (firsts i (omega arith)))
    (sym (seconds i (omega arith)))
    ∙ sym (append_assoc (input i) (get_or first i 0 ∷ []) (get_or second i 0 ∷ [])))
    (λ i k. f2 i (omega arith)) (λ i k. s2 i (omega arith))

-- ---- tables of lanes

abbrev mask_at : ℕ → ℕ
mask_at k = if nat_lt k 30 then 0 else if nat_lt k 116 then 255 else 0

lane_mask-entry : (k : ℕ) → k < 146 → get_or LANE_MASKS k 0 ≡ mask_at k
lane_mask-entry = equal_below (λ k. get_or LANE_MASKS k 0) mask_at 146 refl

pub lane_mask-yes : (k : ℕ) → 30 ≤ k → k < 116 → get_or LANE_MASKS k 0 ≡ 255
lane_mask-yes k low high =
    let e : mask_at k ≡ 255 = grind (arith, nat_tests) in lane_mask-entry k (omega arith) ∙ e

pub lane_mask-no : (k : ℕ) → k < 146 → (k < 30) ⊎ (116 ≤ k) → get_or LANE_MASKS k 0 ≡ 0
lane_mask-no k h outside =
    let e : mask_at k ≡ 0 = grind (arith, nat_tests) in lane_mask-entry k h ∙ e

-- a lane under a mask
mask_lanes-lane : (lanes mask : List ℕ) → length lanes ≡ 32 → length mask ≡ 32 → (i : ℕ) → i < 32
    → get_or (zip2 bit_and lanes mask) i 0 ≡ bit_and (get_or lanes i 0) (get_or mask i 0)
mask_lanes-lane lanes mask hl ht i h =
    get_or-zip2 bit_and lanes mask i 0 0 0 (omega arith) (omega arith)

pub mask_lanes-takes : (lanes mask : List ℕ) → length lanes ≡ 32 → length mask ≡ 32
    → Each1 (Fits w8) lanes
    → (i : ℕ) → i < 32 → get_or mask i 0 ≡ 255
    → get_or (zip2 bit_and lanes mask) i 0 ≡ get_or lanes i 0
mask_lanes-takes lanes mask hl ht fits i h e =
    let x = get_or lanes i 0 in
    let small : x < 256 =
    Each1-get_or (λ n. n < 256) lanes i 0 (omega arith) (below_from_Fits w8 lanes fits) in
    let whole : x % 256 ≡ x = omega arith in
    mask_lanes-lane lanes mask hl ht i h ∙ ap (bit_and x) e ∙ and_mask x 8 ∙ whole

pub mask_lanes-leaves : (lanes mask : List ℕ) → length lanes ≡ 32 → length mask ≡ 32
    → (i : ℕ) → i < 32 → get_or mask i 0 ≡ 0 → get_or (zip2 bit_and lanes mask) i 0 ≡ 0
mask_lanes-leaves lanes mask hl ht i h e =
    let x = get_or lanes i 0 in
    let none : x % 1 ≡ 0 = omega arith in
    mask_lanes-lane lanes mask hl ht i h ∙ ap (bit_and x) e ∙ and_mask x 0 ∙ none

-- lanes in the order of the table
pub rising_lane : (v w : List ℕ) → length v ≡ 32 → (i : ℕ) → i < 32
    → get_or (pick_l 0 (v ++ w) RISING) i 0 ≡ get_or v (2 * (15 - i / 2) + i % 2) 0
rising_lane v w long i h =
    let place : get_or RISING i 0 ≡ 2 * (15 - i / 2) + i % 2 =
    equal_below (λ k. get_or RISING k 0) (λ k. 2 * (15 - k / 2) + k % 2) 32 refl i h in
    get_or-map (λ k. get_or (v ++ w) k 0) RISING i 0 0 h
    ∙ ap (λ k. get_or (v ++ w) k 0) place
    ∙ get_or_append_left v w 0 (2 * (15 - i / 2) + i % 2) (omega arith)
