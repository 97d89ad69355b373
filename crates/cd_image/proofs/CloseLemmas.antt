-- The end of a call on patches after the last sector of the image.
use Rattle.std.proofs.Common.{◌≡◌, ℕ, ◌+◌, ◌-◌, ◌*◌, ◌<◌, ◌≤◌, inl, inr, Bool, true, false, List, [], ◌∷◌, ◌++◌, length, take, drop, Option, None, Some, Result, Ok, Err, refl, sym, ap, ◌∙◌, arith, append_assoc, append-nil, length-append, take-append-drop}
use Rattle.std.specs.Prelude.{All}
use Rattle.cd_sector.specs.declared.sector.TheConstants.{SECTOR_SIZE}
use Rattle.std.proofs.Math.Nat.{add-zero}
use Rattle.std.proofs.lemmas.Bool.{true≢false}
use Rattle.std.proofs.lemmas.List.{length-drop, length-take-le}
use Rattle.cd_stream.specs.Stream.{IsBeginning, Outgoing}
use Rattle.cd_stream.specs.Transfer.{Flushes, Gives, Sends, Takes}
use Rattle.cd_stream.proofs.TransferLemmas.{Takes-flushed, Takes-trans}
use Rattle.cd_script.specs.PatchForm.{Patch}
use Rattle.cd_patch.specs.declared.outcome.Outcome.{Outcome}
use Rattle.cd_patch.specs.declared.outcome.Outcome.TheVariants.{NoBlock}
use Rattle.cd_patch.specs.Sequence.{PatchSequence}
use Rattle.cd_patch.proofs.SequenceLemmas.{PatchSequence-append, PatchSequence-count, PatchSequence-lengths}
use Rattle.cd_image.specs.Applying.{Applies, Streams}
use Rattle.cd_sector.specs.Image.{image_limit, bytes_of}
use Rattle.cd_image.specs.Passing.{PassInvariant}
use Rattle.cd_run.specs.Running.{Reached}
use Rattle.cd_run.specs.Patched.{IsPatched}
use Rattle.cd_image.specs.Applying.{patch_tally}
use Rattle.cd_run.specs.PatchLog.{applied_count, counts_line, log_line, log_lines, log_text, log_when_out_fails, refused_count, sent_when_log_fails}
use Rattle.cd_read.specs.declared.fault.Fault.TheVariants.{Log, Write}
use Rattle.cd_image.specs.declared.patch_log.Tally.{Tally}
use Rattle.cd_sector.proofs.general.Counts.{count_by-append}
use Rattle.cd_sector.proofs.ImageLemmas.{cut_of_joined}
use Rattle.cd_image.proofs.KnownLemmas.{StopsAtLog-within, applies, by_run, size_read}
use Rattle.cd_run.proofs.BytesLemmas.{length-bytes_of}
use Rattle.cd_run.proofs.SoFarLemmas.{outcomes_length}
use Rattle.cd_run.proofs.RunningLemmas.{Decidable, never_some}
use Rattle.cd_image.proofs.ApplyLemmas.{Applies-log}
use Rattle.cd_run.proofs.PatchLogLemmas.{PatchSequence-missing, applied_count-missing_outcomes, bytes_before-after, counts-all, log_when_out_fails-end, log_when_out_fails-tail, log_lines-append, missing_lines, sent_when_log_fails-after, sent_when_log_fails-later, lines_below-cut, missing_outcomes}
use Rattle.cd_image.proofs.general.Lists.{cut_at}

-- a tally by its four numbers
abbrev pub tally : ℕ → ℕ → ℕ → ℕ → Tally
tally applied refused count left =
    record { applied = applied; refused = refused; sectors = count; tail = left }

-- ---- after the last sector

-- the image was read to its end and its sectors were sent; `end` is its tail
module _ {carry : Bool} {taken left : List Patch} {base : ℕ} {start now : Streams}
    {block sectors_read applied : ℕ} {end : List ℕ} {closed : Bool}
    (g : PassInvariant carry taken left base start now [] block sectors_read applied (Some end)
    closed) where
  ahead : All (λ p. block ≤ p.block) left
  ahead = elim g.state.ahead [
    | inl begun ↦ never_some (Some end) begun.1 refl
    | inr past ↦ past
  ]

  -- the bytes of the log: those that were written, and those that remain
  abbrev log_bytes : List ℕ
  log_bytes = log_lines taken g.outcomes

  abbrev lines : List ℕ
  lines = missing_lines left

  abbrev last_line : List ℕ
  last_line = counts_line applied (length (taken ++ left) - applied)

  -- the run of all the patches on the image that was read
  record Run : Type 0 where
    read : List ℕ
    outcomes : List Outcome
    gives : Gives start.image now.image read
    within : length read ≤ image_limit
    size : length (bytes_of g.done ++ end) ≡ length read
    patched : IsPatched carry (taken ++ left) outcomes base read (bytes_of g.done ++ end)
    whole_log : log_text (taken ++ left) outcomes ≡ log_bytes ++ (lines ++ last_line)
    tally_right : tally applied (length (taken ++ left) - applied) sectors_read (length end)
        ≡ patch_tally read outcomes
    -- until the tail was sent, the bytes logged are those that belong before it; all of the image
    -- belongs before the rest of the log
    log_at_tail : closed ≡ false → (sent : ℕ)
        → (length (bytes_of g.done) ≤ sent) × (sent < length read)
        → log_when_out_fails (taken ++ left) outcomes base (length read) sent ≡ log_bytes
    sent_at_log : (n : ℕ)
        → sent_when_log_fails (taken ++ left) outcomes base read (length log_bytes + n)
        ≡ length read

  r : Run
  unfolding log_text
  r =
      let image = bytes_of g.seen ++ end in
      let missing = missing_outcomes left in
      let os = g.outcomes ++ missing in
      let old = cut_of_joined g.seen end g.state.seen_sizes g.state.counts.short in
      let new = cut_of_joined g.done end g.state.done_sizes g.state.counts.short in
      let lengths = outcomes_length g.state in
      let past : All (λ p. base + length g.done ≤ p.block) left =
      λ k d inside. omega (arith, ahead k d inside, g.state.counts.front) in
      let first = simp append-nil at (g.state.run [] (λ _. refl)) in
      let others = PatchSequence-missing _ left g.done base (λ k d here. inr (past k d here)) in
      let run : PatchSequence carry (taken ++ left) os base g.seen g.done =
      PatchSequence-append carry taken left _ _ _ _ _ _ first others in
      let each = PatchSequence-lengths carry (taken ++ left) os base g.seen g.done run in
      let as_many = PatchSequence-count carry (taken ++ left) os base g.seen g.done run in
      let done = length-bytes_of g.done g.state.done_sizes in
      let size : length image ≡ SECTOR_SIZE * sectors_read + length end = size_read g in
      let applied_is : applied ≡ applied_count os =
      simp (count_by-append, applied_count-missing_outcomes, add-zero) g.state.counts.counted in
      let refused : length (taken ++ left) - applied ≡ refused_count os =
      omega (arith, counts-all os) in
      let lines = log_lines-append taken left g.outcomes missing lengths in
      record {
        read = image;
        outcomes = os;
        gives = g.gives;
        within = omega arith;
        size = omega (arith, length-append {A = ℕ});
        patched = record { run = rw (← old.0, ← new.0) run; same_tail = sym new.1 ∙ old.1 };
        whole_log = simp (lines, ← applied_is, ← refused, append_assoc);
        tally_right = cc (applied_is, refused, g.state.counts.count, old.0, old.1);
        log_at_tail = λ unclosed sent inside.
            log_when_out_fails-tail (taken ++ left) os base _ _ sectors_read (omega arith)
            (omega arith) inside.1
            ∙ lines_below-cut (base + sectors_read) taken left g.outcomes missing lengths
            (λ k d here. (g.state.due unclosed k d here).1)
            (λ k d here. omega (arith, past k d here));
        sent_at_log = λ n.
            sent_when_log_fails-later image base taken left g.outcomes missing n lengths
            ∙ sent_when_log_fails-after image base left missing n (λ k d here.
            bytes_before-after image base _ (omega (arith, past k d here, ap length old.0)));
      }

-- the output fails in the tail
pub Closes-tail : {X E : Type 0} {f : E} {carry : Bool} {taken left : List Patch} {base : ℕ}
    {start now : Streams} {block sectors_read applied : ℕ} {end : List ℕ} {out : Outgoing}
    (g : PassInvariant carry taken left base start now [] block sectors_read applied (Some end)
    false)
    → Sends {X = X} {E = E} now.out out end (Err f)
    → Applies carry (taken ++ left) base start (record now { out = out }) (Err Write)
Closes-tail {now = now} {end = end} g fails =
    let run = r g in
    let n = fails.taken.0 in
    let sent = bytes_of g.done ++ take n end in
    let inside : (length (bytes_of g.done) ≤ length sent) × (length sent < length run.read) =
    omega (arith, run.size, fails.taken.1, length-append {A = ℕ}, length-take-le n end) in
    applies run.gives (Takes-trans _ _ _ _ _ g.sends fails.taken.2) g.logs
    (omega (arith, run.size, length-append {A = ℕ})) (record {
      failed = omega arith;
      out_flushes = 0;
      flushes = omega arith;
      once = omega arith;
      at_end = λ less. refl;
      cut = λ sure. inside.1;
      within = run.within;
      begins = by_run now.image.rest (g.ended refl).0 run.patched _ ((drop n end, rw (append_assoc, take-append-drop)), (_, run.whole_log));
      between_sinks = by_run now.image.rest (g.ended refl).0 run.patched _ (sym (run.log_at_tail refl (length sent) inside));
    })

-- ---- the tail was sent

module _ {carry : Bool} {taken left : List Patch} {base : ℕ} {start now : Streams}
    {block sectors_read applied : ℕ} {end : List ℕ}
    (g : PassInvariant carry taken left base start now [] block sectors_read applied (Some end)
    true) where
  -- the log fails in the bytes that are written to it next
  pub Closes-log : {Y F : Type 0} {f : F} {log : Outgoing} {part : List ℕ}
      → IsBeginning part (missing_lines left ++ counts_line applied (length (taken ++ left) - applied))
      → Sends {X = Y} {E = F} now.log log part (Err f)
      → Applies carry (taken ++ left) base start (record now { log = log }) (Err Log)
  Closes-log {part = part} begins fails =
      let run = r g in
      let n = fails.taken.0 in
      applies run.gives g.sends (Takes-trans _ _ _ _ _ g.logs fails.taken.2)
      (omega (arith, run.size)) (StopsAtLog-within (by_run now.image.rest (g.ended refl).0 run.patched _ (record {
        begins = ([], sym (append-nil _));
        missing = drop n part ++ begins.0;
        some = omega (arith, fails.taken.1, length-append {A = ℕ}, length-drop n part);
        cut =
            run.whole_log ∙ ap (λ l. log_lines taken g.outcomes ++ l) begins.1
            ∙ rw (append_assoc, cut_at);
        between_sinks = run.size ∙ sym (rw length-append (run.sent_at_log _));
      })) (omega arith) (omega arith) run.within)

-- the line of a patch whose first block is missing is the first line of the remaining patches
line_first : (p : Patch) (left : List Patch) {o : Outcome} (rest : List ℕ) → o ≡ NoBlock p.block
    → missing_lines (p ∷ left) ++ rest ≡ log_line p o ++ (missing_lines left ++ rest)
line_first p left rest is =
    rw is (append_assoc (log_line p (NoBlock p.block)) (missing_lines left) rest)

-- the log fails in the line of a patch
pub Applies-line : {X E : Type 0} {e : E} {carry : Bool} {taken : List Patch} {p : Patch}
    {left : List Patch} {base : ℕ} {start now : Streams} {window window' : List (List ℕ)}
    {block sectors_read applied block' sectors' applied' : ℕ}
    {end end' : Option (List ℕ)} {closed closed' : Bool} (o : Outcome) {log : Outgoing}
    (g : PassInvariant carry taken (p ∷ left) base start now window block sectors_read applied end
    closed)
    → end' ≡ end → Decidable p window block sectors_read end closed
    → (window ≡ [] → o ≡ NoBlock p.block)
    → Reached carry (taken ++ p ∷ []) left base g.seen g.done window' (g.outcomes ++ o ∷ [])
    block' sectors' applied' end' closed'
    → Sends {X = X} {E = E} now.log log (log_line p o) (Err e)
    → Applies carry (taken ++ p ∷ left) base start (record now { log = log }) (Err Log)
Applies-line {closed = false} o g same may missing after fails =
    Applies-log o g refl same may after fails
Applies-line {p = p} {left = left} {window = []} {end = Some end} {closed = true} o g same may missing after fails =
    Closes-log g (_, line_first p left _ (missing refl)) fails
Applies-line {window = []} {end = None} {closed = true} o g same may missing after fails =
    never_some None refl (g.state.closes refl).1
Applies-line {window = s ∷ ss} {closed = true} o g same may missing after fails =
    absurd (omega (arith, ap length (g.state.closes refl).0))

-- ---- all patches were decided, and the tail was sent

pub with_nil : {X E : Type 0} {result : Result X E} {old new : Outgoing} (applied : ℕ)
    (taken : List Patch) → Sends old new (counts_line applied (length taken - applied)) result
    → Sends old new (counts_line applied (length (taken ++ []) - applied)) result
with_nil applied taken sends = rw append-nil sends

module _ {carry : Bool} {taken : List Patch} {base : ℕ} {start now : Streams}
    {block sectors_read applied : ℕ} {end : List ℕ}
    (g : PassInvariant carry taken [] base start now [] block sectors_read applied (Some end)
    true) where
  abbrev run : Run g
  run = r g

  module _ {Z G : Type 0} {z : Z} {log : Outgoing}
      (counted : Sends {X = Z} {E = G} now.log log
      (counts_line applied (length (taken ++ []) - applied)) (Ok z)) where
    all_logged : Takes start.log log
        (log_lines taken g.outcomes ++ counts_line applied (length (taken ++ []) - applied))
    all_logged = Takes-trans _ _ _ _ _ g.logs counted.taken

    -- the output fails in its flush
    pub Closes-flush : {H : Type 0} {f : H} {late : Outgoing}
        → Flushes {E = H} now.out late (Err f)
        → Applies carry (taken ++ []) base start (record now { out = late; log = log }) (Err Write)
    Closes-flush {late = late} fails =
        applies run.gives (Takes-flushed _ _ _ _ _ g.sends fails) all_logged
        (omega (arith, run.size)) (record {
          failed = omega arith;
          out_flushes = late.flushes - now.out.flushes;
          flushes = omega arith;
          once = omega arith;
          at_end = λ less. absurd (omega (arith, run.size));
          cut = λ sure. absurd (true≢false (sym fails.fails ∙ g.sends.flush_may_fail ∙ sure));
          within = run.within;
          begins =
              by_run now.image.rest (g.ended refl).0 run.patched _ (([], sym (append-nil _)), ([], run.whole_log ∙ sym (append-nil _)));
          between_sinks =
              by_run now.image.rest (g.ended refl).0 run.patched _ (sym (log_when_out_fails-end _ _ _ _ _ run.size ∙ run.whole_log));
        })

    -- the log fails in its flush
    pub Closes-log_flush : {H K : Type 0} {u : Unit {0}} {f : K} {late last : Outgoing}
        → Flushes {E = H} now.out late (Ok u) → Flushes {E = K} log last (Err f)
        → Applies carry (taken ++ []) base start (record now { out = late; log = last }) (Err Log)
    Closes-log_flush {last = last} flushed fails =
        applies run.gives (Takes-flushed _ _ _ _ _ g.sends flushed)
        (Takes-flushed _ _ _ _ _ all_logged fails) (omega (arith, run.size)) (record {
          failed = omega arith;
          out_flushes = 1;
          log_flushes = last.flushes - log.flushes;
          flushes = omega arith;
          once = omega arith;
          within = run.within;
          begins =
              by_run now.image.rest (g.ended refl).0 run.patched _ (([], sym (append-nil _)), ([], run.whole_log ∙ sym (append-nil _)));
          between_sinks = by_run now.image.rest (g.ended refl).0 run.patched _ (run.size ∙ sym (rw length-append (run.sent_at_log _)));
          flushed = by_run now.image.rest (g.ended refl).0 run.patched _ (λ all. flushed.finished);
          at_end = by_run now.image.rest (g.ended refl).0 run.patched _ (λ all. refl, λ once. sym run.whole_log);
          cut = λ sure. absurd (true≢false (sym fails.fails ∙ all_logged.flush_may_fail ∙ sure));
        })

    -- nothing failed
    pub Closes-ok : {H K : Type 0} {u v : Unit {0}} {late last : Outgoing}
        → Flushes {E = H} now.out late (Ok u) → Flushes {E = K} log last (Ok v)
        → Applies carry (taken ++ []) base start (record now { out = late; log = last })
        (Ok (tally applied (length (taken ++ []) - applied) sectors_read (length end)))
    Closes-ok flushed log_flushed =
        applies run.gives (Takes-flushed _ _ _ _ _ g.sends flushed)
        (Takes-flushed _ _ _ _ _ all_logged log_flushed) (omega (arith, run.size)) (record {
          failed = omega arith;
          flushes = omega arith;
          out_finished = flushed.finished;
          log_finished = log_flushed.finished;
          at_end = (g.ended refl).0;
          ended = (g.ended refl).1;
          within = run.within;
          outcomes = run.outcomes;
          patched = run.patched;
          log_right = sym run.whole_log;
          tally_right = run.tally_right;
        })
