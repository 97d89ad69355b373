-- Beginnings of texts, and the writing of the end of a text.
use Rattle.std.proofs.Common.{◌≡◌, ℕ, List, [], ◌++◌, drop, take, Err, sym, ◌∙◌, arith, append_assoc, append-nil, length-append, take-append-drop}
use Rattle.std.proofs.lemmas.Bool.{true≢false}
use Rattle.std.proofs.lemmas.List.{length-take-le}
use Rattle.cd_report.specs.Scanning.{FailsToFinish}
use Rattle.cd_stream.specs.Stream.{IsBeginning, Outgoing}
use Rattle.cd_stream.specs.Transfer.{Flushes, Sends, Takes}
use Rattle.cd_stream.proofs.TransferLemmas.{Takes-flushed, Takes-trans}

-- a failed write of a line has sent a front of it
pub IsBeginning-take : (n : ℕ) (line more : List ℕ) → IsBeginning (take n line) (line ++ more)
IsBeginning-take n line more = (drop n line ++ more, simp (← append_assoc, take-append-drop))

-- a beginning of the bytes after a front
pub IsBeginning-after : (front part whole : List ℕ) → IsBeginning part whole
    → IsBeginning (front ++ part) (front ++ whole)
IsBeginning-after front part whole begins = (begins.0, simp (begins.1, append_assoc))

-- the write of the rest failed
pub Finishes-at_rest : {X E : Type 0} {e : E} {rest : List ℕ} {out out' : Outgoing} (last : List ℕ)
    → Sends {X = X} {E = E} out out' rest (Err e) → FailsToFinish (rest ++ last) out out'
Finishes-at_rest {rest = rest} last fails =
    let n = fails.taken.0 in
    record {
      sent = take n rest;
      takes = fails.taken.2;
      begins = IsBeginning-take n rest last;
      unflushed = λ short. fails.flushes;
      cut =
          λ sure. omega (arith, fails.taken.1, length-take-le n rest, length-append rest last);
    }

-- the write of the last line failed
pub Finishes-at_last : {X E : Type 0} {e : E} {rest last : List ℕ} {out middle out' : Outgoing}
    → Takes out middle rest → middle.flushes ≡ out.flushes
    → Sends {X = X} {E = E} middle out' last (Err e) → FailsToFinish (rest ++ last) out out'
Finishes-at_last {rest = rest} {last = last} sent unflushed fails =
    let n = fails.taken.0 in
    record {
      sent = rest ++ take n last;
      takes = Takes-trans _ _ _ _ _ sent fails.taken.2;
      begins =
          IsBeginning-after rest (take n last) last (drop n last, sym (take-append-drop n last));
      unflushed = λ short. fails.flushes ∙ unflushed;
      cut =
          λ sure. omega (arith, fails.taken.1, length-take-le n last, length-append {A = ℕ});
    }

-- the flush failed
pub Finishes-at_flush : {E : Type 0} {e : E} {rest last : List ℕ} {out middle late out' : Outgoing}
    → Takes out middle rest → Takes middle late last → Flushes {E = E} late out' (Err e)
    → FailsToFinish (rest ++ last) out out'
Finishes-at_flush {rest = rest} {last = last} line end flush = record {
  sent = rest ++ last;
  takes = Takes-flushed _ _ _ _ _ (Takes-trans _ _ _ _ _ line end) flush;
  begins = ([], sym (append-nil _));
  unflushed = λ short. absurd (omega arith);
  cut =
      λ sure.
      absurd (true≢false (sym flush.fails ∙ end.flush_may_fail ∙ line.flush_may_fail ∙ sure));
}
