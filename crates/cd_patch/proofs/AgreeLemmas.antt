-- If the first sectors are equal, the patches that begin there have equal outcomes, and leave
-- equal sectors.
use Rattle.std.proofs.Common.{◌≡◌, ℕ, zero, suc, ◌+◌, ◌<◌, ◌≤◌, inl, inr, Bool, List, [], ◌∷◌, get_or, take, Some, refl, sym, ap, ◌∙◌, arith}
use Rattle.std.specs.List.{All, slice_get}
use Rattle.std.specs.List.Sorted.{IsNonDecreasingBy}
use Rattle.std.proofs.lemmas.List.Sorted.{IsNonDecreasingBy-drop}
use Rattle.std.proofs.lemmas.Bool.{cases_lt}
use Rattle.std.proofs.lemmas.List.Elements.{All-head, All-tail}
use Rattle.std.proofs.lemmas.Option.{get_or_from_slice_get, slice_get_within}
use Rattle.cd_script.specs.Patch.{IsPatch}
use Rattle.cd_script.specs.PatchForm.{Patch}
use Rattle.cd_patch.specs.Blocks.{block_limit, sector_at}
use Rattle.cd_patch.specs.Sequence.{PatchSequence}
use Rattle.cd_patch.specs.declared.outcome.Outcome.{Outcome}
use Rattle.cd_patch.proofs.FrameLemmas.{outcome-same}
use Rattle.cd_patch.proofs.RangeLemmas.{blocks_met-most}
use Rattle.cd_patch.proofs.SequenceLemmas.{Effects-agree, PatchSequence-keeps}
use Rattle.cd_patch.proofs.SectorAtLemmas.{same_front, same_front-at}

-- the sectors below a block are equal
abbrev SameBelow : List (List ℕ) → List (List ℕ) → ℕ → ℕ → Type 0
SameBelow sectors others base bound =
    (block : ℕ) → block < bound → sector_at sectors base block ≡ sector_at others base block

-- the patches that begin up to a block have equal outcomes
abbrev SameUpTo : List Patch → List Outcome → List Outcome → ℕ → Type 0
SameUpTo ps os os' block =
    (k : ℕ) (p : Patch) → slice_get ps k ≡ Some p → p.block ≤ block
    → slice_get os k ≡ slice_get os' k

agree : (carry : Bool) (i base : ℕ) (ps : List Patch) (os os' : List Outcome)
    (old old' last last' : List (List ℕ)) → All IsPatch ps → IsNonDecreasingBy (λ p. p.block) ps
    → SameBelow old old' base (base + (i + block_limit)) → PatchSequence carry ps os base old last
    → PatchSequence carry ps os' base old' last'
    → SameUpTo ps os os' (base + i) × SameBelow last last' base (base + i + 1)
agree carry i base [] [] [] old old' last last' each rises same h h' = (
  λ k p is up_to. refl,
  λ b below. ap (λ l. sector_at l base b) h ∙ same b (omega arith)
      ∙ ap (λ l. sector_at l base b) (sym h'),
)
agree carry i base [] [] (o ∷ os') old old' last last' each rises same h h' = elim h' [ ]
agree carry i base [] (o ∷ os) os' old old' last last' each rises same h h' = elim h [ ]
agree carry i base (p ∷ ps) [] os' old old' last last' each rises same h h' = elim h [ ]
agree carry i base (p ∷ ps) (o ∷ os) [] old old' last last' each rises same h h' = elim h' [ ]
agree carry i base (p ∷ ps) (o ∷ os) (o' ∷ os') old old' last last' each rises same h h' =
    elim (cases_lt (base + i) p.block) [
      | inl after ↦
          let from : All (λ q. base + i + 1 ≤ q.block) (p ∷ ps) = λ k d inside.
          let low : p.block ≤ (get_or (p ∷ ps) k d).block = rises 0 k d (omega arith) inside in
          omega arith in (
            λ k q is up_to.
                let here : get_or (p ∷ ps) k q ≡ q = get_or_from_slice_get (p ∷ ps) k q q is in
                let low : base + i + 1 ≤ (get_or (p ∷ ps) k q).block =
                from k q (slice_get_within (p ∷ ps) k q is) in
                absurd (omega (arith, ap (λ (r : Patch). r.block) here)),
            λ b below.
                PatchSequence-keeps carry (p ∷ ps) (o ∷ os) base (base + i + 1) old last from h b below
                ∙ same b (omega arith)
                ∙ sym (PatchSequence-keeps carry (p ∷ ps) (o' ∷ os') base (base + i + 1) old' last'
                from h' b below),
          )
      | inr here ↦
          let most = blocks_met-most p (All-head IsPatch p ps each) in
          let next : SameBelow h.next h'.next base (base + (i + block_limit)) =
          Effects-agree carry (base + (i + block_limit)) base p old old' h.next h'.next
          (omega arith) same h.effect h'.effect in
          let equal : o ≡ o' =
          h.decided ∙ outcome-same carry old old' base base p (λ b low high. same b (omega arith))
          ∙ sym h'.decided in
          let rest =
          agree carry i base ps os os' h.next h'.next last last' (All-tail IsPatch p ps each)
          (IsNonDecreasingBy-drop (λ q. q.block) 1 (p ∷ ps) rises) next h.others h'.others in
          (first_equal p ps o o' os os' (base + i) equal rest.0, rest.1)
    ]
  where
    first_equal : (p : Patch) (ps : List Patch) (o o' : Outcome) (os os' : List Outcome) (block : ℕ)
        → o ≡ o' → SameUpTo ps os os' block → SameUpTo (p ∷ ps) (o ∷ os) (o' ∷ os') block
    first_equal p ps o o' os os' block equal rest zero q is up_to = ap (λ x. Some x) equal
    first_equal p ps o o' os os' block equal rest (suc k) q is up_to = rest k q is up_to

pub runs-agree : (carry : Bool) (i base : ℕ) (ps : List Patch) (os os' : List Outcome)
    (old old' last last' : List (List ℕ)) → All IsPatch ps → IsNonDecreasingBy (λ p. p.block) ps
    → take (i + block_limit) old ≡ take (i + block_limit) old' → PatchSequence carry ps os base old last
    → PatchSequence carry ps os' base old' last'
    → ((k : ℕ) (p : Patch) → slice_get ps k ≡ Some p → p.block ≤ base + i
    → slice_get os k ≡ slice_get os' k) × (take (i + 1) last ≡ take (i + 1) last')
runs-agree carry i base ps os os' old old' last last' each rises same h h' =
    let both =
    agree carry i base ps os os' old old' last last' each rises
    (same_front-at old' old base (i + block_limit) same) h h' in
    (both.0, same_front last' last base (i + 1) (λ b below. both.1 b (omega arith)))
