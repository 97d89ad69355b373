-- The log of patches in two parts, and how far one sink has got when the other fails.
use Rattle.std.proofs.Common.{◌≡◌, ℕ, ◌+◌, ◌-◌, ◌*◌, ◌/◌, ◌<◌, ◌≤◌, ◌⊎◌, inl, inr, Bool, true, false, not, List, [], ◌∷◌, ◌++◌, length, map, refl, sym, ap, ◌∙◌, arith, append_assoc, length-append, subst}
use Rattle.std.specs.Prelude.{All, cond}
use Rattle.std.proofs.lemmas.Bool.{cases_lt, cond-true, cond-false, lt-ltb, le-ltb}
use Rattle.std.proofs.lemmas.List.Elements.{All-head, All-tail}
use Rattle.cd_script.specs.PatchForm.{Patch}
use Rattle.cd_sector.specs.declared.sector.TheConstants.{SECTOR_SIZE}
use Rattle.cd_patch.specs.Blocks.{blocks_met}
use Rattle.cd_patch.specs.Outcome.{is_applied}
use Rattle.cd_patch.specs.Sequence.{PatchSequence}
use Rattle.cd_patch.specs.declared.outcome.Outcome.{Outcome}
use Rattle.cd_patch.specs.declared.outcome.Outcome.TheVariants.{NoBlock}
use Rattle.cd_patch.proofs.FrameLemmas.{Effect-missing, outcome-missing}
use Rattle.cd_sector.specs.Image.{sectors}
use Rattle.cd_run.specs.Steps.{WantsMore}
use Rattle.cd_run.specs.PatchLog.{applied_count, bytes_before, counts_line, front_within, lines_below, lines_within, log_line, log_lines, log_text, log_when_out_fails, refused_count, sent_when_log_fails}
use Rattle.cd_sector.proofs.general.Counts.{count_by-cons}

pub log_lines-append : (ps qs : List Patch) (os us : List Outcome) → length os ≡ length ps
    → log_lines (ps ++ qs) (os ++ us) ≡ log_lines ps os ++ log_lines qs us
log_lines-append [] qs [] us same = refl
log_lines-append [] qs (o ∷ os) us same = absurd (omega arith)
log_lines-append (p ∷ ps) qs [] us same = absurd (omega arith)
log_lines-append (p ∷ ps) qs (o ∷ os) us same =
    ap (λ l. log_line p o ++ l) (log_lines-append ps qs os us (omega arith))
    ∙ sym (append_assoc (log_line p o) (log_lines ps os) (log_lines qs us))

-- the lines of the first patches begin the log
pub log_text-append : (ps qs : List Patch) (os us : List Outcome) → length os ≡ length ps
    → log_text (ps ++ qs) (os ++ us)
    ≡ log_lines ps os ++ (log_lines qs us
    ++ counts_line (applied_count (os ++ us)) (refused_count (os ++ us)))
unfolding log_text
log_text-append ps qs os us same = rw (log_lines-append ps qs os us same, append_assoc)

-- ---- when the output has failed

lines_below-none : (block : ℕ) (ps : List Patch) (os : List Outcome) → All (λ p. block ≤ p.block) ps
    → lines_below block ps os ≡ []
lines_below-none block [] os after = refl
lines_below-none block (p ∷ ps) [] after = refl
lines_below-none block (p ∷ ps) (o ∷ os) after =
    rw (le-ltb p.block block (All-head (λ q. block ≤ q.block) p ps after))
    (lines_below-none block ps os (All-tail (λ q. block ≤ q.block) p ps after))

-- the first patches begin below the block, and the others do not
pub lines_below-cut : (block : ℕ) (ps qs : List Patch) (os us : List Outcome)
    → length os ≡ length ps → All (λ p. p.block < block) ps → All (λ p. block ≤ p.block) qs
    → lines_below block (ps ++ qs) (os ++ us) ≡ log_lines ps os
lines_below-cut block [] qs [] us same below after = lines_below-none block qs us after
lines_below-cut block [] qs (o ∷ os) us same below after = absurd (omega arith)
lines_below-cut block (p ∷ ps) qs [] us same below after = absurd (omega arith)
lines_below-cut block (p ∷ ps) qs (o ∷ os) us same below after =
    rw (lt-ltb p.block block (All-head (λ q. q.block < block) p ps below))
    (ap (λ l. log_line p o ++ l) (lines_below-cut block ps qs os us (omega arith)
    (All-tail (λ q. q.block < block) p ps below) after))

module _ (ps : List Patch) (os : List Outcome) (base count sent : ℕ) where
  -- within a complete sector
  pub log_when_out_fails-sector : (number : ℕ) → sent / SECTOR_SIZE ≡ number
      → sent < SECTOR_SIZE * (count / SECTOR_SIZE)
      → log_when_out_fails ps os base count sent ≡ lines_below (base + number + 1) ps os
  unfolding log_when_out_fails
  log_when_out_fails-sector number which inside =
      rw (lt-ltb sent (SECTOR_SIZE * (count / SECTOR_SIZE)) inside, which)

  -- within the tail
  pub log_when_out_fails-tail : (number : ℕ) → count / SECTOR_SIZE ≡ number
      → SECTOR_SIZE * (count / SECTOR_SIZE) ≤ sent → sent < count
      → log_when_out_fails ps os base count sent ≡ lines_below (base + number) ps os
  unfolding log_when_out_fails
  log_when_out_fails-tail number all after inside =
      rw (le-ltb sent (SECTOR_SIZE * (count / SECTOR_SIZE)) after, lt-ltb sent count inside, all)

  -- after all bytes
  pub log_when_out_fails-end : sent ≡ count
      → log_when_out_fails ps os base count sent ≡ log_text ps os
  unfolding log_when_out_fails
  log_when_out_fails-end all =
      rw (le-ltb sent (SECTOR_SIZE * (count / SECTOR_SIZE)) (omega arith))
      (rw (le-ltb sent count (omega arith)))

-- ---- when the image continues past its largest size

module _ (end : ℕ) where
  -- the patches that do not reach past the end come first
  pub lines_within-cut : (ps qs : List Patch) (os us : List Outcome) → length os ≡ length ps
      → All (λ p. p.block + blocks_met p ≤ end) ps → lines_within end qs us ≡ []
      → lines_within end (ps ++ qs) (os ++ us) ≡ log_lines ps os
  lines_within-cut [] qs [] us same within none = none
  lines_within-cut [] qs (o ∷ os) us same within none = absurd (omega arith)
  lines_within-cut (p ∷ ps) qs [] us same within none = absurd (omega arith)
  lines_within-cut (p ∷ ps) qs (o ∷ os) us same within none =
      cond-false _ _ _
      (le-ltb end (p.block + blocks_met p) (All-head (λ q. q.block + blocks_met q ≤ end) p ps within))
      ∙ ap (λ l. log_line p o ++ l)
      (lines_within-cut ps qs os us (omega arith)
      (All-tail (λ q. q.block + blocks_met q ≤ end) p ps within) none)

  pub front_within-cut : (ps qs : List Patch) → All (λ p. p.block + blocks_met p ≤ end) ps
      → front_within end (ps ++ qs) ≡ front_within end qs
  front_within-cut [] qs within = refl
  front_within-cut (p ∷ ps) qs within =
      cond-false _ _ _
      (le-ltb end (p.block + blocks_met p) (All-head (λ q. q.block + blocks_met q ≤ end) p ps within))
      ∙ front_within-cut ps qs (All-tail (λ q. q.block + blocks_met q ≤ end) p ps within)

  -- the first patch reaches past the end
  lines_within-past : (p : Patch) (qs : List Patch) (us : List Outcome)
      → end < p.block + blocks_met p → lines_within end (p ∷ qs) us ≡ []
  lines_within-past p qs [] past = refl
  lines_within-past p qs (u ∷ us) past = cond-true _ _ _ (lt-ltb end (p.block + blocks_met p) past)

  front_within-past : (p : Patch) (qs : List Patch) (front : ℕ) → end < p.block + blocks_met p
      → front ≤ end → (p.block ≡ front) ⊎ ((front ≡ end) × (end ≤ p.block))
      → front_within end (p ∷ qs) ≡ front
  front_within-past p qs front past low at =
      cond-true _ _ _ (lt-ltb end (p.block + blocks_met p) past)
      ∙ elim (cases_lt p.block end) [
        | inl below ↦ cond-true _ _ _ (lt-ltb p.block end below) ∙ begins_at below at
        | inr after ↦ cond-false _ _ _ (le-ltb p.block end after) ∙ ends_at after at
      ]
    where
      begins_at : p.block < end → (p.block ≡ front) ⊎ ((front ≡ end) × (end ≤ p.block))
          → p.block ≡ front
      begins_at below (inl same) = same
      begins_at below (inr other) = omega (arith, other.1, below)

      ends_at : end ≤ p.block → (p.block ≡ front) ⊎ ((front ≡ end) × (end ≤ p.block))
          → end ≡ front
      ends_at after (inl same) = omega (arith, same, after, low)
      ends_at after (inr other) = sym other.0

  -- a sector has to be read after the last possible one
  pub lines_within-none : (left : List Patch) (us : List Outcome) (block count : ℕ)
      → block + count ≡ end → WantsMore left block count → lines_within end left us ≡ []
  lines_within-none [] us block count last wants = refl
  lines_within-none (p ∷ ps) us block count last (WantsMore.none_held none ahead) =
      lines_within-past p ps us
      (omega (arith, last, none, All-head (λ q. block < q.block) p ps ahead))
  lines_within-none (p ∷ ps) us block count last (WantsMore.patch_meets q others is at more) =
      subst (λ left. lines_within end left us ≡ []) (sym is)
      (lines_within-past q others us (omega (arith, last, at, more)))

  pub front_within-front : (left : List Patch) (block count : ℕ) → block + count ≡ end
      → WantsMore left block count → front_within end left ≡ block
  front_within-front [] block count last (WantsMore.none_held none ahead) =
      omega (arith, last, none)
  front_within-front [] block count last (WantsMore.patch_meets q others is at more) = cc
  front_within-front (p ∷ ps) block count last (WantsMore.none_held none ahead) =
      let after = All-head (λ q. block < q.block) p ps ahead in
      front_within-past p ps block (omega (arith, last, none, after)) (omega (arith, last))
      (inr (omega (arith, last, none), omega (arith, last, none, after)))
  front_within-front (p ∷ ps) block count last (WantsMore.patch_meets q others is at more) =
      subst (λ left. front_within end left ≡ block) (sym is)
      (front_within-past q others block (omega (arith, last, at, more)) (omega (arith, last))
      (inl at))

-- ---- when the log has failed

module _ (image : List ℕ) (base : ℕ) where
  pub bytes_before-below : (block : ℕ) → block < base → bytes_before image base block ≡ 0
  unfolding bytes_before
  bytes_before-below block below = cond-true _ _ _ (lt-ltb block base below)

  pub bytes_before-within : (block number : ℕ) → block ≡ base + number
      → number < length (sectors image) → bytes_before image base block ≡ SECTOR_SIZE * number
  unfolding bytes_before
  bytes_before-within block number at inside =
      let which : block - base ≡ number = omega arith in
      rw (le-ltb block base (omega arith), which, lt-ltb number (length (sectors image)) inside)

  pub bytes_before-after : (block : ℕ) → base + length (sectors image) ≤ block
      → bytes_before image base block ≡ length image
  unfolding bytes_before
  bytes_before-after block after =
      rw (le-ltb block base (omega arith))
      (rw (le-ltb (block - base) (length (sectors image)) (omega arith)))

  pub sent_when_log_fails-line : (p : Patch) (qs : List Patch) (o : Outcome) (us : List Outcome) (n : ℕ)
      → n < length (log_line p o)
      → sent_when_log_fails (p ∷ qs) (o ∷ us) base image n ≡ bytes_before image base p.block
  sent_when_log_fails-line p qs o us n inside = cond-true _ _ _ (lt-ltb n (length (log_line p o)) inside)

  -- after the lines of the first patches
  pub sent_when_log_fails-later : (ps qs : List Patch) (os us : List Outcome) (n : ℕ)
      → length os ≡ length ps
      → sent_when_log_fails (ps ++ qs) (os ++ us) base image (length (log_lines ps os) + n)
      ≡ sent_when_log_fails qs us base image n
  sent_when_log_fails-later [] qs [] us n same = ap (sent_when_log_fails qs us base image) (omega arith)
  sent_when_log_fails-later [] qs (o ∷ os) us n same = absurd (omega arith)
  sent_when_log_fails-later (p ∷ ps) qs [] us n same = absurd (omega arith)
  sent_when_log_fails-later (p ∷ ps) qs (o ∷ os) us n same =
      let line = log_line p o in
      let all = length-append line (log_lines ps os) in
      let left : length (line ++ log_lines ps os) + n - length line ≡ length (log_lines ps os) + n =
      omega arith in
      cond-false _ _ _ (le-ltb (length (line ++ log_lines ps os) + n) (length line) (omega arith))
      ∙ ap (sent_when_log_fails (ps ++ qs) (os ++ us) base image) left
      ∙ sent_when_log_fails-later ps qs os us n (omega arith)

  -- if all of the image belongs before each line
  pub sent_when_log_fails-after : (ps : List Patch) (os : List Outcome) (n : ℕ)
      → All (λ p. bytes_before image base p.block ≡ length image) ps
      → sent_when_log_fails ps os base image n ≡ length image
  sent_when_log_fails-after [] os n each = refl
  sent_when_log_fails-after (p ∷ ps) [] n each = refl
  sent_when_log_fails-after (p ∷ ps) (o ∷ os) n each =
      let line = log_line p o in
      elim (cases_lt n (length line)) [
        | inl here ↦
            cond-true _ _ _ (lt-ltb n (length line) here)
            ∙ All-head (λ q. bytes_before image base q.block ≡ length image) p ps each
        | inr further ↦
            cond-false _ _ _ (le-ltb n (length line) further)
            ∙ sent_when_log_fails-after ps os (n - length line)
            (All-tail (λ q. bytes_before image base q.block ≡ length image) p ps each)
      ]

-- ---- patches whose first block is missing

-- the outcomes of patches whose first block the image does not have
abbrev pub missing_outcomes : List Patch → List Outcome
missing_outcomes ps = map (λ p. NoBlock p.block) ps

-- the first block of each is not among the sectors
abbrev pub AreMissing : List (List ℕ) → ℕ → List Patch → Type 0
AreMissing whole base ps = All (λ p. (p.block < base) ⊎ (base + length whole ≤ p.block)) ps

pub PatchSequence-missing : (carry : Bool) (ps : List Patch) (whole : List (List ℕ)) (base : ℕ)
    → AreMissing whole base ps → PatchSequence carry ps (missing_outcomes ps) base whole whole
PatchSequence-missing carry [] whole base none = refl
PatchSequence-missing carry (p ∷ ps) whole base none =
    let here = All-head (λ q. (q.block < base) ⊎ (base + length whole ≤ q.block)) p ps none in
    let others = All-tail (λ q. (q.block < base) ⊎ (base + length whole ≤ q.block)) p ps none in
    record {
      decided = sym (outcome-missing carry whole base p here);
      next = whole;
      effect = Effect-missing carry whole base p here;
      others = PatchSequence-missing carry ps whole base others;
    }

pub applied_count-missing_outcomes : (ps : List Patch) → applied_count (missing_outcomes ps) ≡ 0
applied_count-missing_outcomes [] = refl
applied_count-missing_outcomes (p ∷ ps) = applied_count-missing_outcomes ps

-- each outcome is an acceptance or a refusal
pub counts-all : (os : List Outcome) → applied_count os + refused_count os ≡ length os
counts-all [] = refl
counts-all (o ∷ os) =
    omega (arith, counts-all os, count_by-cons is_applied o os, counted, either (is_applied o))
  where
    counted : refused_count (o ∷ os) ≡ cond (not (is_applied o)) 1 0 + refused_count os
    counted = count_by-cons (λ u. not (is_applied u)) o os

    either : (b : Bool) → cond b 1 0 + cond (not b) 1 0 ≡ 1
    either true = refl
    either false = refl

-- ---- their lines

abbrev pub missing_lines : List Patch → List ℕ
missing_lines ps = log_lines ps (missing_outcomes ps)
