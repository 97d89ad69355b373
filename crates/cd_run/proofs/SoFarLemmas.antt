-- The facts that a run knows of each way of patching an image of which it has read a part.
use Rattle.std.proofs.Common.{◌≡◌, ℕ, ◌+◌, ◌*◌, ◌<◌, ◌≤◌, Bool, inl, inr, List, [], ◌++◌, length, Option, None, Some, refl, sym, ap, ◌∙◌, arith, append_assoc}
use Rattle.std.proofs.lemmas.List.{nil_from_length}
use Rattle.std.specs.Prelude.{All, IsSome}
use Rattle.cd_script.specs.PatchForm.{Patch}
use Rattle.cd_sector.specs.Image.{bytes_of, sector_limit, sectors, tail}
use Rattle.cd_sector.specs.declared.sector.TheConstants.{SECTOR_SIZE}
use Rattle.cd_sector.proofs.ImageLemmas.{IsCut-sectors, sectors-bytes_of, sectors-short}
use Rattle.cd_patch.specs.Sequence.{PatchSequence}
use Rattle.cd_patch.specs.declared.outcome.Outcome.{Outcome}
use Rattle.cd_patch.proofs.SequenceLemmas.{PatchSequence-determined, PatchSequence-front, PatchSequence-lengths, PatchSequence-split}
use Rattle.cd_run.specs.PatchLog.{lines_below, log_lines, log_text, log_when_too_long, sent_when_too_long}
use Rattle.cd_run.specs.Patched.{IsPatched}
use Rattle.cd_run.specs.Running.{Reached}
use Rattle.cd_run.specs.Steps.{WantsMore}
use Rattle.cd_run.proofs.BytesLemmas.{AreSized, bytes_of-append}
use Rattle.cd_run.proofs.PatchLogLemmas.{front_within-cut, front_within-front, lines_below-cut, lines_within-cut, lines_within-none, log_text-append}

-- an image whose first sectors are these
pub bytes_of-begins : (front others : List (List ℕ)) (last : List ℕ)
    → sectors last ≡ front ++ others → (more : List ℕ) × (last ≡ bytes_of front ++ more)
bytes_of-begins front others last cut = (
  bytes_of others ++ tail last,
  sym (IsCut-sectors last).joined ∙ simp (cut, bytes_of-append, append_assoc),
)

-- an image whose first sectors are those that were read; once it has ended, it has no others
pub record Extends (seen : List (List ℕ)) (end : Option (List ℕ)) (image : List ℕ) : Type 0 where
  pub more : List (List ℕ)
  pub cut : sectors image ≡ seen ++ more
  pub unended : IsSome end → more ≡ []

-- before its end is known, it begins with these sectors
pub Extends-begun : {seen : List (List ℕ)} {image : List ℕ} (more : List ℕ) → AreSized seen
    → image ≡ bytes_of seen ++ more → Extends seen None image
Extends-begun {seen = seen} more sized is = record {
  more = sectors more;
  cut = ap sectors is ∙ sectors-bytes_of seen more sized;
  unended = λ never. cc;
}

-- at its end, it is these sectors and a tail
pub Extends-ended : {seen : List (List ℕ)} {image : List ℕ} (rest : List ℕ) → AreSized seen
    → length rest < SECTOR_SIZE → image ≡ bytes_of seen ++ rest → Extends seen (Some rest) image
Extends-ended {seen = seen} rest sized short is = record {
  more = [];
  cut =
      ap sectors is ∙ sectors-bytes_of seen rest sized
      ∙ ap (λ ss. seen ++ ss) (sectors-short rest short);
  unended = λ some. refl;
}

-- the known part of a way to patch the image: the outcomes after the known ones, and the patched
-- sectors after the settled ones
pub record Known (settled : List (List ℕ)) (outcomes os : List Outcome)
    (last : List ℕ) : Type 0 where
  pub back : List Outcome
  pub others : List (List ℕ)
  pub all : os ≡ outcomes ++ back
  pub cut : sectors last ≡ settled ++ others

module _ {carry : Bool} {taken left : List Patch} {base : ℕ} {seen done window : List (List ℕ)}
    {outcomes : List Outcome} {block sectors_read applied : ℕ} {end : Option (List ℕ)}
    {closed : Bool}
    (g : Reached carry taken left base seen done window outcomes block sectors_read applied end
    closed) where
  pub outcomes_length : length outcomes ≡ length taken
  outcomes_length = PatchSequence-lengths _ _ _ _ _ _ (g.run [] (λ some. refl))

  module _ {image : List ℕ} (x : Extends seen end image) {os : List Outcome} {last : List ℕ}
      (patched : IsPatched carry (taken ++ left) os base image last) where
    -- the rest of a run, after the decided patches
    pub rest_of : (back : List Outcome) × (os ≡ outcomes ++ back)
        × PatchSequence carry left back base (done ++ (window ++ x.more)) (sectors last)
    rest_of =
        let split = PatchSequence-split carry taken left _ base _ _ (rw x.cut at patched.run) in
        let same =
        PatchSequence-determined carry taken split.0 outcomes base _ _ _ split.4
        (g.run x.more x.unended) in
        (split.1, split.3 ∙ ap (λ f. f ++ split.1) same.0, rw same.1 at split.5)

    -- sectors at the front in which no remaining patch begins are settled
    pub known : (settled : List (List ℕ)) (after : List (List ℕ) → List (List ℕ))
        → ((more : List (List ℕ)) → done ++ (window ++ more) ≡ settled ++ after more)
        → All (λ p. base + length settled ≤ p.block) left → Known settled outcomes os last
    known settled after grouped ahead =
        let front =
        PatchSequence-front carry left rest_of.0 base settled (after x.more) (sectors last) ahead
        (rw grouped at rest_of.2) in
        record { back = rest_of.0; others = front.0; all = rest_of.1; cut = front.1 }

    -- nothing was sent, or no remaining patch begins in the sectors sent
    pub known_now : Known done outcomes os last
    known_now = elim g.ahead [
      | inl begun ↦ record {
        back = rest_of.0;
        others = sectors last;
        all = rest_of.1;
        cut =
            ap (λ ss. ss ++ sectors last)
            (sym (nil_from_length done (omega (arith, begun.0, g.counts.held, g.counts.count))));
      }
      | inr ahead ↦
          known done (λ more. window ++ more) (λ more. refl)
          (λ k d inside. omega (arith, ahead k d inside, g.counts.front))
    ]

    -- the lines of the decided patches begin the log
    pub log-begins : (more : List ℕ) × (log_text (taken ++ left) os ≡ log_lines taken outcomes ++ more)
    log-begins = (
      _,
      ap (log_text (taken ++ left)) known_now.all
          ∙ log_text-append taken left outcomes known_now.back outcomes_length,
    )

    -- they are the lines below each block from which on the remaining patches begin
    pub lines-below : (limit : ℕ) → All (λ p. p.block < limit) taken
        → All (λ p. limit ≤ p.block) left
        → lines_below limit (taken ++ left) os ≡ log_lines taken outcomes
    lines-below limit below from =
        ap (lines_below limit (taken ++ left)) known_now.all
        ∙ lines_below-cut limit taken left outcomes known_now.back outcomes_length below from

  -- ---- a byte follows the last sector that an image may have

  module _ (unended : end ≡ None) (all : sectors_read ≡ sector_limit)
      (wants : WantsMore left block (length window)) where
    at_end : block + length window ≡ base + sector_limit
    at_end = omega (arith, g.counts.front, g.counts.held, g.counts.count, all)

    pub log-too_long : {image : List ℕ} → Extends seen end image → {os : List Outcome}
        {last : List ℕ} → IsPatched carry (taken ++ left) os base image last
        → log_when_too_long (taken ++ left) os base ≡ log_lines taken outcomes
    log-too_long x patched =
        let k = known_now x patched in
        ap (λ us. log_when_too_long (taken ++ left) us base) k.all
        ∙ lines_within-cut (base + sector_limit) taken left outcomes k.back outcomes_length
        (g.reached unended)
        (lines_within-none (base + sector_limit) left k.back block (length window) at_end wants)

    pub sent-too_long : sent_when_too_long (taken ++ left) base ≡ SECTOR_SIZE * length done
    sent-too_long =
        omega (
          arith,
          g.counts.front,
          front_within-cut (base + sector_limit) taken left (g.reached unended),
          front_within-front (base + sector_limit) left block (length window) at_end wants,
        )
