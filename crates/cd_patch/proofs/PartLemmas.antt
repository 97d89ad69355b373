-- The effect of an edit's bytes on the sectors in which they lie.
use Rattle.std.proofs.Common.{◌≡◌, ◌≢◌, ℕ, ◌+◌, ◌-◌, ◌*◌, ◌<◌, ◌≤◌, ◌⊎◌, inl, inr, Bool, List, [], length, get_or, set, take, drop, replicate, sym, ap, subst, ◌∙◌, below_more, arith}
use Rattle.std.specs.Prelude.{slice_range}
use Rattle.std.proofs.lemmas.Bool.{cases_lt}
use Rattle.std.proofs.lemmas.List.{ext_get_or, get_or_default, get_or-drop, get_or-replicate, get_or-set_other, get_or-set_same, get_or-take, length-drop, length-replicate, length-set, length-take-le}
use Rattle.cd_delta.proofs.UserLemmas.{length-written, written-range, written-other}
use Rattle.cd_delta.specs.Writing.{with_range}
use Rattle.cd_sector.proofs.DefectLemmas.{length-range, range-byte}
use Rattle.cd_sector.specs.Consistent.{user_of}
use Rattle.cd_patch.specs.Effect.{Becomes, user_part}
use Rattle.cd_patch.specs.Parts.{HasPart, IsPart}
use Rattle.cd_patch.proofs.BecomesLemmas.{Becomes-user}

-- ---- one sector

-- the part of the bytes that lies in a sector, written there from the front of `source`
HasPart-written : (carried : Bool) (k offset place first end : ℕ)
    (bytes source header before after : List ℕ) → IsPart k offset (length bytes) place first end
    → length (user_of before) ≡ 2048 → end ≤ first + length source
    → ((i : ℕ) → i < end - first → get_or source i 0 ≡ get_or bytes (first + i) 0)
    → Becomes carried before header (with_range (user_of before) place (take (end - first) source))
    after
    → HasPart carried k offset bytes header before after
HasPart-written carried k offset place first end bytes source header before after at size long
    same is_made =
    let part = take (end - first) source in
    let cut = length-take-le (end - first) source (omega arith) in
    let room : place + length part ≤ length (user_of before) = omega arith in
    let user =
    Becomes-user carried before header (with_range (user_of before) place part) after is_made in
    record {
      made = subst (λ u. Becomes carried before header u after) (sym user) is_made;
      inside = λ i j below inside there.
          let from : first ≤ i = elim at.from_start [ inl e ↦ omega arith | inr e ↦ omega arith ] in
          let to : i < end = elim at.to_end [ inl e ↦ omega arith | inr e ↦ omega arith ] in
          let n = i - first in
          let at_place : j ≡ place + n = omega arith in
          let at_byte : first + n ≡ i = omega arith in
          ap (λ u. get_or u j 0) user
          ∙ ap (λ m. get_or (with_range (user_of before) place part) m 0) at_place
          ∙ written-range (user_of before) place part n room (omega arith)
          ∙ get_or-take (end - first) source n 0 (omega arith) ∙ same n (omega arith)
          ∙ ap (λ m. get_or bytes m 0) at_byte;
      outside = λ j below out.
          let there : (j < place) ⊎ (place + length part ≤ j) =
          elim out [ inl before_it ↦ inl (omega arith) | inr after_it ↦ inr (omega arith) ] in
          ap (λ u. get_or u j 0) user ∙ written-other (user_of before) place part j room there;
    }

-- a sector in which nothing is written
pub HasPart-nothing : (carried : Bool) (k offset : ℕ) (bytes header before after : List ℕ)
    → length bytes ≡ 0 → Becomes carried before header (user_of before) after
    → HasPart carried k offset bytes header before after
HasPart-nothing carried k offset bytes header before after none is_made =
    let user = Becomes-user carried before header (user_of before) after is_made in
    record {
      made = subst (λ u. Becomes carried before header u after) (sym user) is_made;
      inside = λ i j below inside there. absurd (omega arith);
      outside = λ j below out. ap (λ u. get_or u j 0) user;
    }

-- the sector's user data is its part of the joined user data after the bytes were written into
-- their range
pub user_part-of : (carried : Bool) (k count offset : ℕ) (bytes joined header before after : List ℕ)
    → k < count → length joined ≡ 2048 * count
    → offset + length bytes ≤ 2048 * count → length (user_of after) ≡ 2048
    → ((j : ℕ) → j < 2048 → get_or joined (2048 * k + j) 0 ≡ get_or (user_of before) j 0)
    → HasPart carried k offset bytes header before after
    → user_of after ≡ user_part (with_range joined offset bytes) k
unfolding user_part
user_part-of carried k count offset bytes joined header before after inside size fits
    after_size same part =
    let whole = with_range joined offset bytes in
    let room : offset + length bytes ≤ length joined = omega arith in
    let long = length-written joined offset bytes room in
    let from = 2048 * k in
    let to = 2048 * (k + 1) in
    let cut : length (slice_range whole from to) ≡ 2048 =
    length-range whole from to (omega arith) (omega arith) ∙ omega arith in
    let byte : (j : ℕ) → j < 2048
    → get_or (slice_range whole from to) j 0 ≡ get_or whole (from + j) 0 = λ j below.
    range-byte whole from to j (omega arith) in
    let other : (j : ℕ) → j < 2048 → (from + j < offset) ⊎ (offset + length bytes ≤ from + j)
    → get_or (user_of after) j 0 ≡ get_or (slice_range whole from to) j 0 = λ j below out.
    part.outside j below out ∙ sym (same j below)
    ∙ sym (written-other joined offset bytes (from + j) room out) ∙ sym (byte j below) in
    ext_get_or 0 (user_of after) (slice_range whole from to) (after_size ∙ sym cut)
    (λ j within.
    let below : j < 2048 = omega arith in
    elim (cases_lt (from + j) offset) [
      | inl before_it ↦ other j below (inl before_it)
      | inr after ↦ elim (cases_lt (from + j) (offset + length bytes)) [
        | inl here ↦
            let n = from + j - offset in
            let at : offset + n ≡ from + j = omega arith in
            part.inside n j (omega arith) below (sym at)
            ∙ sym (written-range joined offset bytes n room (omega arith))
            ∙ ap (λ m. get_or whole m 0) at
            ∙ sym (byte j below)
        | inr past ↦ other j below (inr past)
      ]
    ])

-- ---- one sector after the other

-- the sectors below index k result from the rule for their index, and the others are unchanged
pub record MadeBelow (Rule : ℕ → List ℕ → List ℕ → Type 0) (k : ℕ)
    (old new : List (List ℕ)) : Type 0 where
  pub size : length new ≡ length old
  pub made : (i : ℕ) → i < k → Rule i (get_or old i []) (get_or new i [])
  pub others : (i : ℕ) → k ≤ i → get_or new i [] ≡ get_or old i []

pub MadeBelow-more : (Rule : ℕ → List ℕ → List ℕ → Type 0) (k : ℕ) (old new : List (List ℕ))
    (after : List ℕ)
    → MadeBelow Rule k old new → k < length old → Rule k (get_or old k []) after
    → MadeBelow Rule (k + 1) old (set new k after)
MadeBelow-more Rule k old new after below inside here =
    let at : get_or (set new k after) k [] ≡ after = get_or-set_same new k after [] (omega arith) in
    record {
      size = length-set new k after ∙ below.size;
      made = below_more _ _
          (λ i less.
          let apart : i ≢ k = omega arith in
          subst (Rule i (get_or old i [])) (sym (get_or-set_other new k i after [] apart))
          (below.made i less))
          (subst (Rule k (get_or old k [])) (sym at) here);
      others = λ i above.
          let apart : i ≢ k = omega arith in
          get_or-set_other new k i after [] apart ∙ below.others i (omega arith);
    }

-- the sector that a loop reads is still the old one
pub read_old : {Rule : ℕ → List ℕ → List ℕ → Type 0} {k : ℕ} {old new : List (List ℕ)} (d : List ℕ)
    → MadeBelow Rule k old new → k < length old → get_or new k d ≡ get_or old k []
read_old {Rule} {k} {old} {new} d below inside =
    get_or_default new k d [] (omega arith) ∙ below.others k (omega arith)

-- ---- bytes that are copied, or equal

-- the bytes of a range that lie in a sector, copied
pub HasPart-copied : (carried : Bool) (k offset place first end : ℕ)
    (bytes header before after : List ℕ) → IsPart k offset (length bytes) place first end
    → length (user_of before) ≡ 2048
    → Becomes carried before header
    (with_range (user_of before) place (take (end - first) (drop first bytes))) after
    → HasPart carried k offset bytes header before after
HasPart-copied carried k offset place first end bytes header before after at size is_made =
    HasPart-written carried k offset place first end bytes (drop first bytes) header before after at
    size (omega (arith, length-drop first bytes)) (λ i below. get_or-drop first bytes i 0) is_made

-- the bytes of a filled range that lie in a sector: they equal the first bytes of a sector filled
-- with the value
pub HasPart-filled : (carried : Bool) (k offset place first end count value : ℕ)
    (header before after : List ℕ)
    → IsPart k offset (length (replicate count value)) place first end
    → length (user_of before) ≡ 2048
    → Becomes carried before header
    (with_range (user_of before) place (take (end - first) (replicate 2048 value))) after
    → HasPart carried k offset (replicate count value) header before after
HasPart-filled carried k offset place first end count value header before after at size is_made =
    let all = length-replicate count value in
    let long = length-replicate 2048 value in
    HasPart-written carried k offset place first end (replicate count value) (replicate 2048 value)
    header before after at size (omega arith)
    (λ i below.
    get_or-replicate 2048 i value 0 (omega arith)
    ∙ sym (get_or-replicate count (first + i) value 0 (omega arith)))
    is_made

-- ---- the size of the user data

pub length-user : (s : List ℕ) → length s ≡ 2352 → length (user_of s) ≡ 2048
unfolding user_of
length-user s size = length-range s 16 2064 (omega arith) (omega arith)
