-- From the sink of the standard output to the text of the result.
use Rattle.std.proofs.Common.{◌≡◌, ℕ, ◌+◌, true, false, nat_eq, List, Some, Result, Ok, Err, OnOk, ap, ◌∙◌}
use Rattle.cd_stream.specs.Stream.{Outgoing}
use Rattle.cd_stream.specs.Transfer.{Counts}
use Rattle.cd_stream.specs.declared.sink.SinkFailed.{SinkFailed}
use Rattle.cd_read.specs.Printing.{PrintsLine}
use Rattle.cd_memory.specs.Whole.{Prints, ProgramResult}
use Rattle.cd_stream.proofs.KnownLemmas.{Appends-known}
use Rattle.cd_memory.proofs.KnownLemmas.{cut-by-failure}

-- the result has the text written to this sink, and all of it if none of its calls failed
pub record Leaves (after : Outgoing) (left : ProgramResult) : Type 0 where
  pub text : after.written ≡ Some left.text
  pub complete : left.complete ≡ nat_eq after.failures 0

-- a line was printed after a text
pub Prints-line : (line front : List ℕ) (before after : Outgoing) (left : ProgramResult)
    → before.written ≡ Some front → before.failures ≡ 0 → Leaves after left
    → PrintsLine line before after → Prints left front line
Prints-line line front before after left had none leaves says = record {
  printed_log = says.sent;
  text =
      Appends-known before.written after.written front left.text says.sent had leaves.text
      says.takes.appends;
  begins = says.begins;
  whole = go says.answer says.whole says.count;
}
  where
    go : (answer : Result (Unit {0}) SinkFailed)
        → OnOk answer ((says.sent ≡ line) × (after.finished ≡ true))
        → Counts before.failures after.failures answer → left.complete ≡ true → says.sent ≡ line
    go (Ok x) went same is = went.0
    go (Err e) went more is =
        let cut : left.complete ≡ false =
        cut-by-failure left.complete after.failures leaves.complete (more ∙ ap (λ n. n + 1) none) in
        cc
