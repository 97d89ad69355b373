-- The end of a run by an error before the image has ended: whatever else the image may have, the
-- bytes sent and the bytes logged begin the right output and log.
use Rattle.std.proofs.Common.{◌≡◌, ℕ, ◌+◌, ◌*◌, ◌<◌, ◌≤◌, Bool, false, List, [], ◌∷◌, ◌++◌, length, take, drop, Option, None, Err, refl, sym, ap, ◌∙◌, subst, arith, append_assoc, append-nil, length-append, take_at}
use Rattle.std.specs.Prelude.{All, IsSome}
use Rattle.std.proofs.lemmas.List.{length-drop, length-take-le}
use Rattle.cd_stream.specs.Stream.{Incoming, Outgoing}
use Rattle.cd_stream.specs.Transfer.{Gives, Sends}
use Rattle.cd_stream.proofs.TransferLemmas.{Gives-trans, Takes-trans}
use Rattle.cd_script.specs.PatchForm.{Patch}
use Rattle.cd_sector.specs.declared.sector.TheConstants.{SECTOR_SIZE}
use Rattle.cd_patch.specs.Blocks.{block_limit}
use Rattle.cd_patch.specs.declared.outcome.Outcome.{Outcome}
use Rattle.cd_patch.proofs.SequenceLemmas.{PatchSequence-determined, PatchSequence-split}
use Rattle.cd_image.specs.Applying.{Applies, Streams}
use Rattle.cd_sector.specs.Image.{image_limit, bytes_of, sector_limit, sectors}
use Rattle.std.proofs.lemmas.Bool.{true≢false}
use Rattle.cd_run.specs.Running.{Reached, tail_bytes}
use Rattle.cd_run.specs.Steps.{WantsMore}
use Rattle.cd_image.specs.Passing.{PassInvariant}
use Rattle.cd_run.specs.Patched.{EachPatching, IsPatched}
use Rattle.cd_run.specs.PatchLog.{bytes_before, log_line, log_lines, log_text}
use Rattle.cd_read.specs.Ends.{MayBeImage, MayBeImageAtEnd}
use Rattle.cd_read.specs.Reading.{ReadsSector}
use Rattle.cd_read.specs.declared.fault.Fault.{Fault}
use Rattle.cd_read.specs.declared.fault.Fault.TheVariants.{Log, Read, TooLong, Write}
use Rattle.cd_image.proofs.KnownLemmas.{LogCut, StopsAtLog-within, applies, begins_now, extends, length_sent, size_read}
use Rattle.cd_read.proofs.EndLemmas.{Fits-begins}
use Rattle.cd_run.proofs.BytesLemmas.{bytes_of-more, length-bytes_of}
use Rattle.cd_run.proofs.SoFarLemmas.{Extends, Extends-begun, Known, bytes_of-begins, known, lines-below, log-too_long, outcomes_length, sent-too_long}
use Rattle.cd_run.proofs.RunningLemmas.{Decidable}
use Rattle.cd_run.proofs.PatchLogLemmas.{bytes_before-below, bytes_before-within, log_text-append, log_when_out_fails-sector, sent_when_log_fails-later, sent_when_log_fails-line}
use Rattle.cd_image.proofs.general.Lists.{cut_after, cut_at}

-- ---- the source fails, or gives too much

module _ {carry : Bool} {taken left : List Patch} {base : ℕ} {start now : Streams}
    {window : List (List ℕ)} {block sectors_read applied : ℕ}
    (g : PassInvariant carry taken left base start now window block sectors_read applied None
    false) where
  length_read : (came : List ℕ)
      → length (bytes_of g.seen ++ came) ≡ 2352 * sectors_read + length came
  length_read came =
      omega (
        arith,
        length-append (bytes_of g.seen) came,
        length-bytes_of g.seen g.state.seen_sizes,
      )

  gives_all : {image : Incoming} (came : List ℕ) → Gives now.image image came
      → Gives start.image image (bytes_of g.seen ++ came)
  gives_all came gives = rw append-nil at (Gives-trans _ _ _ _ _ g.gives gives)

  pub Applies-unread : {image : Incoming} → WantsMore left block (length window)
      → length window < block_limit
      → (bytes : List ℕ) (fault : Fault)
      → ReadsSector sectors_read bytes now.image image (Err fault)
      → Applies carry (taken ++ left) base start (record now { image = image }) (Err fault)
  Applies-unread wants room bytes Read r =
      applies (gives_all r.came (record { consumes = r.consumes; counted = r.counted })) g.sends
      g.logs
      (omega (arith, length_read r.came, length_sent g)) (record {
        failed = omega arith;
        flushes = omega arith;
        unended = r.unended;
        within = omega (arith, length_read r.came);
        begins = λ whole fits.
            let begins = Fits-begins _ whole (omega (arith, length_read r.came)) fits in
            begins_now g (Extends-begun _ g.state.seen_sizes (rw append_assoc at begins.1));
      })
  Applies-unread wants room bytes TooLong r =
      applies (gives_all r.came (record { consumes = r.consumes; counted = r.counted })) g.sends
      g.logs
      (omega (arith, length_read r.came, length_sent g)) (record {
        failed = omega arith;
        flushes = omega arith;
        beyond = omega (arith, length_read r.came);
        unended = r.unended;
        begins = λ whole fits. begins_now g (begun whole fits);
        between_sinks = λ whole fits os last patched.
            sym (log-too_long g.state refl all wants (begun whole fits) patched);
        sent_before = length_sent g ∙ sym (sent-too_long g.state refl all wants);
      })
    where
      all : sectors_read ≡ sector_limit
      all = omega arith

      begun : (whole : List ℕ) → MayBeImage (bytes_of g.seen ++ r.came) whole
          → Extends g.seen None whole
      begun whole fits =
          let size : length (bytes_of g.seen) ≡ image_limit =
          omega (arith, length-bytes_of g.seen g.state.seen_sizes) in
          Extends-begun _ g.state.seen_sizes (rw (take_at (bytes_of g.seen) r.came _ size) at
          fits.begins.1)
  Applies-unread wants room bytes Write r = elim r [ ]
  Applies-unread wants room bytes Log r = elim r [ ]

-- ---- the output fails in the first sector of the window

module _ {carry : Bool} {taken left : List Patch} {base : ℕ} {start now : Streams}
    {sector : List ℕ} {window : List (List ℕ)} {block sectors_read applied : ℕ}
    {end : Option (List ℕ)}
    (g : PassInvariant carry taken left base start now
    (sector ∷ window) block sectors_read applied end false) where
  pub Applies-write : {X E : Type 0} {e : E} {out : Outgoing}
      → Sends {X = X} {E = E} now.out out sector (Err e) → length sector ≡ SECTOR_SIZE
      → All (λ p. block < p.block) left
      → Applies carry (taken ++ left) base start (record now { out = out }) (Err Write)
  Applies-write fails size ahead =
      applies g.gives (Takes-trans _ _ _ _ _ g.sends fails.taken.2) g.logs
      (omega (arith, size_read g, length_part)) (record {
        failed = omega arith;
        out_flushes = 0;
        flushes = omega arith;
        once = omega arith;
        at_end = λ less. refl;
        cut = λ sure. omega (arith, size_read g, length_part, fails.taken.1);
        within = omega (arith, size_read g);
        begins = λ whole fits os last patched.
            let k = knows fits patched in
            let begun = bytes_of-begins _ k.others last k.cut in (
              (
                drop fails.taken.0 sector ++ begun.0,
                begun.1 ∙ rw (bytes_of-more, append_assoc, append_assoc, cut_at),
              ),
              (begins_now g (extends g fits) os last patched).1,
            );
        between_sinks = λ whole fits os last patched.
            sym (log_when_out_fails-sector (taken ++ left) os base _ _ (length g.done)
            (omega (arith, length_part, fails.taken.1))
            (omega (arith, length_part, fails.taken.1, size_read g))
            ∙ lines-below g.state (extends g fits) patched (base + length g.done + 1)
            (λ i d here. omega (arith, g.state.due refl i d here))
            (λ i d here. omega (arith, ahead i d here)));
      })
    where
      length_part : length (bytes_of g.done ++ take fails.taken.0 sector)
          ≡ 2352 * length g.done + fails.taken.0
      length_part =
          omega (
            arith,
            length-append (bytes_of g.done) (take fails.taken.0 sector),
            length_sent g,
            length-take-le fails.taken.0 sector,
            fails.taken.1,
          )

      knows : {whole : List ℕ}
          → MayBeImageAtEnd now.image.rest (bytes_of g.seen ++ tail_bytes end) whole
          → {os : List Outcome} {last : List ℕ} → IsPatched carry (taken ++ left) os base whole last
          → Known (g.done ++ sector ∷ []) g.outcomes os last
      knows fits patched =
          known g.state (extends g fits) patched _ (λ more. window ++ more)
          (λ more. sym (append_assoc g.done (sector ∷ []) (window ++ more)))
          (λ i d here. omega (arith, ahead i d here, length-append g.done (sector ∷ [])))

-- ---- the log fails in the line of a patch, before the tail was sent

-- the number of bytes that belong before the line of a patch
before_line : {p : Patch} {window : List (List ℕ)} {block sectors_read : ℕ} (base : ℕ)
    {tail : Option (List ℕ)} {closed : Bool} (done : List (List ℕ)) (whole : List ℕ)
    → closed ≡ false → Decidable p window block sectors_read tail closed → block ≡ base + length done
    → length done + length window ≡ sectors_read → sectors_read ≤ length (sectors whole)
    → bytes_before whole base p.block ≡ 2352 * length done
before_line base done whole unclosed_yet (Decidable.at_front first some unclosed reach) front held
    all =
    bytes_before-within whole base _ (length done) (first ∙ front) (omega arith)
before_line base done whole unclosed_yet (Decidable.under_base under none unended unclosed) front held all =
    bytes_before-below whole base _ (omega arith) ∙ omega arith
before_line base done whole unclosed_yet (Decidable.past_tail gone from) front held all =
    absurd (true≢false (sym gone ∙ unclosed_yet))

module _ {carry : Bool} {taken : List Patch} {p : Patch} {left : List Patch} {base : ℕ}
    {start now : Streams} {window window' : List (List ℕ)}
    {block sectors_read applied block' sectors' applied' : ℕ}
    {end end' : Option (List ℕ)} {closed closed' : Bool} (o : Outcome)
    (g : PassInvariant carry taken (p ∷ left) base start now window block sectors_read applied end
    closed)
    (unclosed : closed ≡ false) (same : end' ≡ end)
    (may : Decidable p window block sectors_read end closed)
    (after : Reached carry (taken ++ p ∷ []) left base g.seen g.done window' (g.outcomes ++ o ∷ [])
    block' sectors' applied' end' closed') where
  -- a run decides this patch next
  next : {whole : List ℕ} → Extends g.seen end whole → {os : List Outcome} {last : List ℕ}
      → IsPatched carry (taken ++ p ∷ left) os base whole last
      → (back : List Outcome) × (os ≡ g.outcomes ++ o ∷ back)
  next extended patched =
      let run = rw (extended.cut, ← append_assoc taken (p ∷ []) left) at patched.run in
      let split = PatchSequence-split carry (taken ++ p ∷ []) left _ base _ _ run in
      let same =
      PatchSequence-determined carry (taken ++ p ∷ []) split.0 (g.outcomes ++ o ∷ []) base _ _ _
      split.4
      (after.run extended.more (λ some. extended.unended (subst IsSome same some))) in
      (split.1, split.3 ∙ ap (λ f. f ++ split.1) same.0 ∙ append_assoc g.outcomes (o ∷ []) split.1)

  pub Applies-log : {X E : Type 0} {e : E} {log : Outgoing}
      → Sends {X = X} {E = E} now.log log (log_line p o) (Err e)
      → Applies carry (taken ++ p ∷ left) base start (record now { log = log }) (Err Log)
  Applies-log fails =
      applies g.gives (rw unclosed at g.sends) (Takes-trans _ _ _ _ _ g.logs fails.taken.2)
      (omega (arith, size_read g, length_sent g))
      (StopsAtLog-within cut (omega arith) (omega arith) (omega (arith, size_read g)))
    where
      cut : (whole : List ℕ)
          → MayBeImageAtEnd now.image.rest (bytes_of g.seen ++ tail_bytes end) whole
          → EachPatching carry (taken ++ p ∷ left) base whole
          (LogCut (taken ++ p ∷ left) base (bytes_of g.done)
          (log_lines taken g.outcomes ++ take fails.taken.0 (log_line p o)) whole)
      cut whole fits os last patched =
          let n = fails.taken.0 in
          let line = log_line p o in
          let extended = extends g fits in
          let r = next extended patched in
          let all = ap length extended.cut in
          record {
            begins = (begins_now g extended os last patched).0;
            missing = drop n line ++ _;
            some = omega (arith, length-append {A = ℕ}, length-drop n line, fails.taken.1);
            cut =
                ap (log_text (taken ++ p ∷ left)) r.1
                ∙ log_text-append taken (p ∷ left) g.outcomes (o ∷ r.0) (outcomes_length g.state)
                ∙ cut_after n (log_lines taken g.outcomes) line (log_lines left r.0) _;
            between_sinks =
                length_sent g
                ∙ sym (rw (r.1, length-append, length-take-le n line (omega (arith, fails.taken.1)))
                (sent_when_log_fails-later whole base taken (p ∷ left) g.outcomes (o ∷ r.0) n
                (outcomes_length g.state)
                ∙ sent_when_log_fails-line whole base p left o r.0 n fails.taken.1
                ∙ before_line base g.done whole unclosed may g.state.counts.front
                (omega (arith, g.state.counts.held, g.state.counts.count))
                (omega (arith, all, length-append g.seen extended.more, g.state.counts.count))));
          }
