-- `list` and `audit` on an image that exists.
use Rattle.std.proofs.Common.{◌≡◌, ℕ, ◌+◌, ◌≤◌, true, false, List, [], ◌++◌, length, take, Some, Result, Ok, Err, refl, sym, ap, ◌∙◌, subst, arith, length-append}
use Rattle.std.specs.Io.KnownBytes.{Appends, IsAtEnd}
use Rattle.cd_read.specs.Ends.{MayBeImage, MayBeImageAtEnd}
use Rattle.cd_sector.specs.Image.{image_limit}
use Rattle.cd_read.specs.declared.fault.Fault.{Fault}
use Rattle.cd_read.specs.declared.fault.Fault.TheVariants.{Log, Read, TooLong, Write}
use Rattle.cd_report.specs.Lines.{text_of}
use Rattle.cd_report.specs.Report.{Reports, ReportSpec}
use Rattle.cd_stream.specs.Stream.{Incoming, Outgoing}
use Rattle.cd_read.specs.Messages.{fault_line}
use Rattle.cd_read.specs.Printing.{Ends}
use Rattle.cd_stream.specs.Fresh.{fresh_outgoing}
use Rattle.cd_memory.specs.Whole.{Environment, ProgramResult, ReportsOn, WhyStopped, image_at}
use Rattle.cd_stream.proofs.KnownLemmas.{Appends-Some, Consumes-known, Some-injective}
use Rattle.cd_read.proofs.KnownLemmas.{Fits-beyond, MayBeImageAtEnd-within, read-front, read-whole}
use Rattle.cd_memory.proofs.KnownLemmas.{cut-by-failure, whole-by-none}
use Rattle.cd_memory.proofs.PrintLemmas.{Leaves, Prints-line}

module _ {T : Type 0} (spec : ReportSpec T) (status_of : T → ℕ) (before : Environment) (after : ProgramResult)
    (name bytes rest : List ℕ) (there : image_at before name ≡ Some bytes)
    (image image' : Incoming) (out out' log : Outgoing)
    (known : image.rest ≡ Some bytes) (left : image'.rest ≡ Some rest)
    (reads : image'.failures ≡ image.failures) (fresh : out ≡ fresh_outgoing)
    (leaves : Leaves log after) (none_made : after.made ≡ []) where
  -- the bytes written to the sink
  got : (sent : List ℕ) → Appends out.written out'.written sent → out'.written ≡ Some sent
  got sent went = Appends-Some out.written out'.written [] sent (ap (λ o. o.written) fresh) went

  text-of : (sent : List ℕ) → Appends out.written out'.written sent → log ≡ out' → after.text ≡ sent
  text-of sent went same =
      Some-injective (sym leaves.text ∙ ap (λ o. o.written) same ∙ got sent went)

  pub reports : (result : Result T Fault) → Reports spec image image' out out' result
      → Ends Write status_of result out' log after.status
      → ReportsOn spec status_of name before after
  reports (Ok tally) r ends =
      let c = r.answers in
      let none : rest ≡ [] = subst IsAtEnd left c.at_end in
      let read =
      Consumes-known image.rest image'.rest bytes rest r.read known left r.gives.consumes in
      let whole : bytes ≡ r.read = read-whole bytes r.read rest read none in
      ReportsOn.reported bytes there
      (subst (λ b. length b ≤ image_limit) (sym whole) c.within)
      (text-of r.sent r.takes.appends ends.0 ∙ c.whole_sent ∙ ap spec.text (sym whole))
      (whole-by-none after.complete log.failures leaves.complete
      (ap (λ o. o.failures) ends.0 ∙ c.writes ∙ ap (λ o. o.failures) fresh))
      (ends.1 ∙ ap status_of c.tally_right ∙ ap (λ b. status_of (spec.tally b)) (sym whole))
      none_made
  reports (Err Read) r ends = absurd (omega (arith, r.answers.reads, reads))
  reports (Err Log) r ends = absurd r.answers
  reports (Err Write) r ends =
      let c = r.answers in
      let read =
      Consumes-known image.rest image'.rest bytes rest r.read known left r.gives.consumes in
      let same : log ≡ out' = ends.0.0 refl in
      let none : out.failures ≡ 0 = ap (λ o. o.failures) fresh in
      let cut : after.complete ≡ false =
      cut-by-failure after.complete log.failures leaves.complete
      (ap (λ o. o.failures) same ∙ c.writes ∙ ap (λ n. n + 1) none) in
      let fits : MayBeImageAtEnd image'.rest r.read (take image_limit bytes) =
      subst (λ o. MayBeImageAtEnd o r.read (take image_limit bytes)) (sym left)
      (subst (λ b. MayBeImageAtEnd (Some rest) r.read (take image_limit b)) (sym read)
      (MayBeImageAtEnd-within r.read rest c.within)) in
      ReportsOn.stopped bytes r.sent there (c.beginning (take image_limit bytes) fits)
      (λ all. let no : true ≡ false = sym all ∙ cut in cc)
      (WhyStopped.no_text cut
      (text-of r.sent r.takes.appends same)
      (c.cut (ap (λ o. o.flush_may_fail) fresh) (take image_limit bytes) fits))
      ends.1 none_made
  reports (Err TooLong) r ends =
      let c = r.answers in
      let read =
      Consumes-known image.rest image'.rest bytes rest r.read known left r.gives.consumes in
      let size : length bytes ≡ length (r.read ++ rest) = ap length read in
      ReportsOn.stopped bytes r.sent there
      (c.beginning (take image_limit bytes)
      (subst (λ b. MayBeImage r.read (take image_limit b)) (sym read)
      (Fits-beyond r.read rest (omega (arith, c.beyond)))))
      (λ all. c.due_sent
      ∙ ap (λ b. text_of (spec.due b)) (read-front (image_limit + 1) bytes r.read rest read c.beyond))
      (WhyStopped.too_long (omega (arith, size, c.beyond, length-append r.read rest))
      (Prints-line (fault_line TooLong) r.sent out' log after (got r.sent r.takes.appends)
      (c.writes ∙ ap (λ o. o.failures) fresh) leaves (ends.0.1 (λ is. cc))))
      ends.1 none_made
