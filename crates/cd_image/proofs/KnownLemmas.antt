-- The facts that a pass knows of each way of patching an image that may be the one being read.
use Rattle.std.proofs.Common.{◌≡◌, ℕ, ◌+◌, ◌*◌, ◌<◌, ◌≤◌, Bool, List, [], ◌++◌, length, Option, None, Some, Result, Ok, Err, IsErrAnd, refl, sym, ap, ◌∙◌, subst, arith, append-nil, length-append}
use Rattle.std.specs.Io.KnownBytes.{IsAtEnd}
use Rattle.cd_script.specs.PatchForm.{Patch}
use Rattle.cd_patch.specs.declared.outcome.Outcome.{Outcome}
use Rattle.cd_image.specs.Applying.{Applies, AppliesBy, Begins, Failed, Flushed, StopsAtLog, Streams}
use Rattle.cd_sector.specs.Image.{image_limit, bytes_of}
use Rattle.cd_run.specs.InHand.{bytes_in_hand}
use Rattle.cd_run.specs.Running.{tail_bytes}
use Rattle.cd_image.specs.Passing.{PassInvariant}
use Rattle.cd_run.specs.Patched.{EachPatching, IsPatched}
use Rattle.cd_run.specs.PatchLog.{log_lines, log_text, sent_when_log_fails}
use Rattle.cd_stream.specs.Stream.{IsBeginning}
use Rattle.cd_stream.specs.Transfer.{Gives, Takes}
use Rattle.cd_read.specs.declared.fault.Fault.{Fault}
use Rattle.cd_image.specs.declared.patch_log.Tally.{Tally}
use Rattle.cd_read.specs.Ends.{MayBeImageAtEnd}
use Rattle.cd_read.proofs.EndLemmas.{MayBeImageAtEnd-begins, MayBeImageAtEnd-end}
use Rattle.cd_run.proofs.BytesLemmas.{length-bytes_of}
use Rattle.cd_run.proofs.PatchedLemmas.{IsPatched-determined}
use Rattle.cd_run.proofs.SoFarLemmas.{Extends, Extends-begun, Extends-ended, bytes_of-begins, known_now, log-begins}

-- the contract, from the bytes that each stream has read or written
pub applies : {carry : Bool} {patches : List Patch} {base : ℕ} {old new : Streams}
    {read sent log_bytes : List ℕ} {result : Result Tally Fault} → Gives old.image new.image read
    → Takes old.out new.out sent → Takes old.log new.log log_bytes
    → length read ≤ length sent + bytes_in_hand
    → AppliesBy carry patches base read sent log_bytes old new result
    → Applies carry patches base old new result
applies {read = read} {sent = sent} {log_bytes = log_bytes} came went logged few by = record {
  read = read;
  sent = sent;
  log_bytes = log_bytes;
  consumes = came.consumes;
  given = came.counted;
  appends = went.appends;
  out_taken = went.counted;
  out_lent = went.lent;
  logs = logged.appends;
  log_taken = logged.counted;
  log_lent = logged.lent;
  in_hand = few;
  answers = by;
}

-- the operator `?` on a call that fails
pub Applies-fault : {carry : Bool} {patches : List Patch} {base : ℕ} {old new : Streams}
    {fault : Fault}
    {result : Result Tally Fault} → IsErrAnd result (λ f. f ≡ fault)
    → Applies carry patches base old new (Err fault) → Applies carry patches base old new result
Applies-fault {result = Ok tally} is applies = elim is [ ]
Applies-fault {carry} {patches} {base} {old} {new} {result = Err f} is applies =
    subst (λ f. Applies carry patches base old new (Err f)) (sym is) applies

-- all of the image was read: what holds for this way of patching it holds for each way of patching
-- each image that it may be
pub by_run : (left : Option (List ℕ)) {carry : Bool} {patches : List Patch} {outcomes : List Outcome}
    {base : ℕ} {read sent : List ℕ} → IsAtEnd left
    → IsPatched carry patches outcomes base read sent
    → (Holds : List ℕ → List Outcome → List ℕ → Type 0) → Holds read outcomes sent
    → (whole : List ℕ) → MayBeImageAtEnd left read whole
    → EachPatching carry patches base whole (Holds whole)
by_run left {read = read} at_end this Holds h whole fits os last patched =
    let is = MayBeImageAtEnd-end left read whole at_end fits in
    let same = IsPatched-determined _ _ _ _ _ _ _ _ (rw is at patched) this in
    rw (is, same.0, same.1) h

-- a run whose log failed before its end: some of the log is missing
pub record LogCut (patches : List Patch) (base : ℕ) (sent log_bytes whole : List ℕ)
    (os : List Outcome) (last : List ℕ) : Type 0 where
  pub begins : IsBeginning sent last
  pub missing : List ℕ
  pub some : 0 < length missing
  pub cut : log_text patches os ≡ log_bytes ++ missing
  pub between_sinks : length sent ≡ sent_when_log_fails patches os base whole (length log_bytes)

less_logged : {patches : List Patch} {base : ℕ} {sent log_bytes whole : List ℕ}
    {os : List Outcome} {last : List ℕ} → LogCut patches base sent log_bytes whole os last
    → length log_bytes < length (log_text patches os)
less_logged {log_bytes = log_bytes} h =
    omega (arith, ap length h.cut, h.some, length-append log_bytes h.missing)

-- a log that fails before its end: no sink was flushed
pub StopsAtLog-within : {carry : Bool} {patches : List Patch} {base : ℕ}
    {read sent log_bytes : List ℕ} {old new : Streams}
    → ((whole : List ℕ) → MayBeImageAtEnd new.image.rest read whole
    → EachPatching carry patches base whole (LogCut patches base sent log_bytes whole))
    → Failed old new 0 0 1 → Flushed old new 0 0 → length read ≤ image_limit
    → StopsAtLog carry patches base read sent log_bytes old new
StopsAtLog-within each failed unflushed within = record {
  failed = failed;
  out_flushes = 0;
  log_flushes = 0;
  flushes = unflushed;
  once = omega arith;
  within = within;
  begins = λ whole fits os last patched.
      let h = each whole fits os last patched in (h.begins, (h.missing, h.cut));
  between_sinks = λ whole fits os last patched. (each whole fits os last patched).between_sinks;
  flushed = λ whole fits os last patched all.
      absurd (omega (arith, less_logged (each whole fits os last patched), ap length all));
  at_end = λ whole fits os last patched. (
    λ all. absurd (omega (arith, less_logged (each whole fits os last patched), ap length all)),
    λ once. absurd (omega arith),
  );
  cut = λ sure whole fits os last patched. less_logged (each whole fits os last patched);
}

module _ {carry : Bool} {taken left : List Patch} {base : ℕ} {start now : Streams}
    {window : List (List ℕ)} {block sectors_read applied : ℕ} {end : Option (List ℕ)}
    {closed : Bool}
    (g : PassInvariant carry taken left base start now window block sectors_read applied end
    closed) where
  pub length_sent : length (bytes_of g.done) ≡ 2352 * length g.done
  length_sent = length-bytes_of g.done g.state.done_sizes

  -- the number of bytes read
  pub size_read : length (bytes_of g.seen ++ tail_bytes end)
      ≡ 2352 * sectors_read + length (tail_bytes end)
  size_read =
      omega (
        arith,
        length-append (bytes_of g.seen) (tail_bytes end),
        length-bytes_of g.seen g.state.seen_sizes,
      )

  -- the bytes sent and the bytes logged begin the patched image and its log
  pub begins_now : {whole : List ℕ} → Extends g.seen end whole → (os : List Outcome) (last : List ℕ)
      → IsPatched carry (taken ++ left) os base whole last
      → Begins (taken ++ left) (bytes_of g.done) (log_lines taken g.outcomes) os last
  begins_now extends os last patched =
      let k = known_now g.state extends patched in
      (bytes_of-begins g.done k.others last k.cut, log-begins g.state extends patched)

-- an image that may be the one being read: if nothing is left of the source, the end of the image
-- is known
pub extends : {carry : Bool} {taken left : List Patch} {base : ℕ} {start now : Streams}
    {window : List (List ℕ)} {block sectors_read applied : ℕ} {end : Option (List ℕ)}
    {closed : Bool}
    (g : PassInvariant carry taken left base start now window block sectors_read applied end closed)
    {whole : List ℕ} → MayBeImageAtEnd now.image.rest (bytes_of g.seen ++ tail_bytes end) whole
    → Extends g.seen end whole
extends {now = now} {end = None} g {whole} fits =
    let begins =
    MayBeImageAtEnd-begins now.image.rest (bytes_of g.seen ++ []) whole (omega (arith, size_read g))
    fits in
    Extends-begun _ g.state.seen_sizes
    (begins.1 ∙ ap (λ l. l ++ begins.0) (append-nil (bytes_of g.seen)))
extends {now = now} {end = Some t} g {whole} fits =
    Extends-ended t g.state.seen_sizes g.state.counts.short
    (MayBeImageAtEnd-end now.image.rest (bytes_of g.seen ++ t) whole (g.ended refl).0 fits)
