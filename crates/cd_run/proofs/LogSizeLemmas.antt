-- The largest number of bytes of a log, line by line.
use Rattle.std.proofs.Common.{ℕ, zero, suc, ◌+◌, ◌*◌, ◌^◌, ◌<◌, ◌≤◌, ◌==◌, Bool, true, false, cond, List, [], ◌∷◌, ◌++◌, length, length-append, Option, Some, None, sym, subst, arith, lit<}
use Rattle.std.specs.Prelude.{All, IfSome, codes, decimal, drop, not, unwrap_or, ◌&&◌}
use Rattle.std.proofs.lemmas.Fmt.{length-decimal-le}
use Rattle.std.proofs.lemmas.List.Elements.{All-cons, All-head, All-nil, All-tail}
use Rattle.std.proofs.lemmas.List.Sorted.{length_permutation}
use Rattle.std.proofs.lemmas.List.Sums.{count_by-le-length}
use Rattle.cd_script.specs.Order.{order}
use Rattle.cd_script.specs.Patch.{IsPatch}
use Rattle.cd_script.specs.PatchForm.{Patch}
use Rattle.cd_script.proofs.NumberingLemmas.{lines-numbered}
use Rattle.cd_script.proofs.OrderLemmas.{order-permutes}
use Rattle.cd_script.proofs.ParseLemmas.{order-list}
use Rattle.cd_sector.specs.Consistent.{consistent, is_mode1}
use Rattle.cd_sector.specs.Kind.{kind_of}
use Rattle.cd_patch.specs.Blocks.{blocks_met, sector_at}
use Rattle.cd_patch.specs.Deciding.{by_difference, either_refusal, first_difference, first_refusal, outcome, refusal_at, user_met}
use Rattle.cd_patch.specs.EditMeaning.{needs_consistent, old_bytes}
use Rattle.cd_patch.specs.Outcome.{is_applied}
use Rattle.cd_patch.specs.Sequence.{PatchSequence}
use Rattle.cd_patch.specs.declared.outcome.Outcome.{Outcome}
use Rattle.cd_patch.specs.declared.outcome.Outcome.TheVariants.{Applied, Damaged, Differs, NoBlock, NotMode1}
use Rattle.cd_patch.proofs.RangeLemmas.{blocks_met-most, old-fits}
use Rattle.cd_patch.proofs.SequenceLemmas.{PatchSequence-lengths}
use Rattle.cd_run.specs.LogSize.{LogIsShort}
use Rattle.cd_run.specs.PatchLog.{applied_count, counts_line, log_line, log_lines, log_text, outcome_line, outcome_text, refused_count}

-- ---- the numbers of outcomes

-- a block has 32 bits, and an offset 16
abbrev HasShortNumbers : Outcome → Type 0
HasShortNumbers Applied = Unit {0}
HasShortNumbers (NoBlock block) = block < 2 ^ 32
HasShortNumbers (NotMode1 block) = block < 2 ^ 32
HasShortNumbers (Damaged block) = block < 2 ^ 32
HasShortNumbers (Differs block offset) = (block < 2 ^ 32) × (offset < 2 ^ 16)

refusal_at-short : (must_be_consistent : Bool) (block : ℕ) (found : Option (List ℕ))
    → block < 2 ^ 32 → IfSome (refusal_at must_be_consistent block found) HasShortNumbers
refusal_at-short must_be_consistent block None below = below
refusal_at-short must_be_consistent block (Some sector) below =
    go (not (is_mode1 (kind_of sector))) (must_be_consistent && not (consistent sector))
  where
    go : (other damaged : Bool)
        → IfSome (cond other (Some (NotMode1 block)) (cond damaged (Some (Damaged block)) None))
        HasShortNumbers
    go true damaged = below
    go false true = below
    go false false = tt

either-short : (refusal other : Option Outcome) → IfSome refusal HasShortNumbers
    → IfSome other HasShortNumbers → IfSome (either_refusal refusal other) HasShortNumbers
either-short None other h k = k
either-short (Some refusal) other h k = h

first_refusal-short : (sectors : List (List ℕ)) (base : ℕ) (must_be_consistent : Bool)
    (block count : ℕ) → block + count < 2 ^ 32
    → IfSome (first_refusal sectors base must_be_consistent block count) HasShortNumbers
first_refusal-short sectors base must_be_consistent block zero below = tt
first_refusal-short sectors base must_be_consistent block (suc count) below =
    either-short _ _
    (refusal_at-short must_be_consistent block (sector_at sectors base block) (omega arith))
    (first_refusal-short sectors base must_be_consistent (block + 1) count (omega arith))

first_difference-below : (place : ℕ) (bytes old : List ℕ) (end : ℕ) → place + length old ≤ end
    → IfSome (first_difference place bytes old) (λ found. found < end)
first_difference-below place [] [] end le = tt
first_difference-below place (b ∷ bytes) [] end le = tt
first_difference-below place [] (o ∷ old) end le = omega arith
first_difference-below place (b ∷ bytes) (o ∷ old) end le =
    go (b == o) (first_difference-below (place + 1) bytes old end (omega arith))
  where
    go : (same : Bool) → IfSome (first_difference (place + 1) bytes old) (λ found. found < end)
        → IfSome (cond same (first_difference (place + 1) bytes old) (Some place))
        (λ found. found < end)
    go true later = later
    go false later = omega arith

by_difference-short : (block : ℕ) (found : Option ℕ) → block + 3 < 2 ^ 32
    → IfSome found (λ place. place < 6144) → HasShortNumbers (by_difference block found)
by_difference-short block None below h = tt
by_difference-short block (Some place) below h = (omega arith, omega arith)

first-short : (refusal : Option Outcome) (other : Outcome) → IfSome refusal HasShortNumbers
    → HasShortNumbers other → HasShortNumbers (unwrap_or refusal other)
first-short None other h k = k
first-short (Some refusal) other h k = h

-- the numbers of a patch's outcome
outcome-short : (carry : Bool) (sectors : List (List ℕ)) (base : ℕ) (p : Patch) → IsPatch p
    → HasShortNumbers (outcome carry sectors base p)
unfolding outcome
outcome-short carry sectors base p h =
    first-short _ _
    (first_refusal-short sectors base (needs_consistent carry p.edit) p.block (blocks_met p)
    (omega (arith, h.block, blocks_met-most p h)))
    (by_difference-short p.block _ (omega (arith, h.block))
    (first_difference-below p.offset (drop p.offset (user_met sectors base p)) (old_bytes p.edit)
    6144 (omega (arith, (old-fits p h).1))))

outcomes-short : (carry : Bool) (ps : List Patch) (os : List Outcome) (base : ℕ)
    (old last : List (List ℕ)) → All IsPatch ps → PatchSequence carry ps os base old last
    → All HasShortNumbers os
outcomes-short carry [] [] base old last each h = All-nil HasShortNumbers
outcomes-short carry [] (o ∷ os) base old last each h = elim h [ ]
outcomes-short carry (p ∷ ps) [] base old last each h = elim h [ ]
outcomes-short carry (p ∷ ps) (o ∷ os) base old last each h =
    All-cons HasShortNumbers o os
    (subst HasShortNumbers (sym h.decided)
    (outcome-short carry old base p (All-head IsPatch p ps each)))
    (outcomes-short carry ps os base h.next last (All-tail IsPatch p ps each) h.others)

-- ---- the bytes of lines

ten : (n : ℕ) → n < 2 ^ 32 → length (decimal n) ≤ 10
ten n h = length-decimal-le 10 n (lit< tt) (omega arith) (omega arith)

five : (n : ℕ) → n < 2 ^ 16 → length (decimal n) ≤ 5
five n h = length-decimal-le 5 n (lit< tt) (omega arith) (omega arith)

-- the text for an outcome in its line
text-short : (o : Outcome) → HasShortNumbers o → length (outcome_text o) ≤ 58
unfolding outcome_text
text-short Applied h = omega arith
text-short (NoBlock block) h =
    omega (arith, ten block h, length-append (codes "refused: no block ") (decimal block))
text-short (NotMode1 block) h =
    omega (
      arith,
      ten block h,
      length-append (codes "refused: block " ++ decimal block) (codes " is not mode 1"),
      length-append (codes "refused: block ") (decimal block),
    )
text-short (Damaged block) h =
    omega (
      arith,
      ten block h,
      length-append (codes "refused: block " ++ decimal block) (codes " is damaged"),
      length-append (codes "refused: block ") (decimal block),
    )
text-short (Differs block offset) h =
    let front = codes "refused: old bytes differ at block " in
    omega (
      arith,
      ten block h.0,
      five offset h.1,
      length-append ((front ++ decimal block) ++ codes " offset ") (decimal offset),
      length-append (front ++ decimal block) (codes " offset "),
      length-append front (decimal block),
    )

line-short : (number : ℕ) (o : Outcome) → number < 2 ^ 32 → HasShortNumbers o
    → length (outcome_line number o) ≤ 76
unfolding outcome_line
line-short number o h k =
    let line = codes "line " in
    omega (
      arith,
      ten number h,
      text-short o k,
      length-append (((line ++ decimal number) ++ codes ": ") ++ outcome_text o) (codes "\n"),
      length-append ((line ++ decimal number) ++ codes ": ") (outcome_text o),
      length-append (line ++ decimal number) (codes ": "),
      length-append line (decimal number),
    )

lines-short : (ps : List Patch) (os : List Outcome) → All (λ p. p.line < 2 ^ 32) ps
    → All HasShortNumbers os → length (log_lines ps os) ≤ 76 * length ps
lines-short [] os h k = omega arith
lines-short (p ∷ ps) [] h k = omega arith
lines-short (p ∷ ps) (o ∷ os) h k =
    omega (
      arith,
      line-short p.line o (h 0 p (omega arith)) (k 0 o (omega arith)),
      lines-short ps os (λ i d lt. h (suc i) d (omega arith)) (λ i d lt. k (suc i) d (omega arith)),
      length-append (log_line p o) (log_lines ps os),
    )

last-short : (a b : ℕ) → a < 2 ^ 32 → b < 2 ^ 32 → length (counts_line a b) ≤ 38
unfolding counts_line
last-short a b h k =
    let front = codes "applied " in
    omega (
      arith,
      ten a h,
      ten b k,
      length-append (((front ++ decimal a) ++ codes " refused ") ++ decimal b) (codes "\n"),
      length-append ((front ++ decimal a) ++ codes " refused ") (decimal b),
      length-append (front ++ decimal a) (codes " refused "),
      length-append front (decimal a),
    )

text-log-short : (ps : List Patch) (os : List Outcome) → All (λ p. p.line < 2 ^ 32) ps
    → All HasShortNumbers os → length os < 2 ^ 32 → length (log_text ps os) ≤ 76 * length ps + 38
unfolding log_text
text-log-short ps os h k many =
    let applied = count_by-le-length is_applied os in
    let refused = count_by-le-length (λ o. not (is_applied o)) os in
    omega (
      arith,
      lines-short ps os h k,
      last-short (applied_count os) (refused_count os) (omega arith) (omega arith),
      length-append (log_lines ps os) (counts_line (applied_count os) (refused_count os)),
    )

pub log-short : LogIsShort
log-short text ps carry base image within reads outcomes last patched =
    let ordered = order-list _ ps reads in
    let lines = lines-numbered text ps reads in
    let count = length_permutation ps (order ps) (order-permutes ps) in
    let many = PatchSequence-lengths carry (order ps) outcomes base _ _ patched.run in
    omega (
      arith,
      count,
      text-log-short (order ps) outcomes (λ k d lt. omega (arith, lines k d lt, within))
          (outcomes-short carry (order ps) outcomes base _ _ ordered.each patched.run)
          (omega (arith, many, ordered.count)),
    )
