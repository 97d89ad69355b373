-- The printing of a line of the program, and the end of a command.
use Rattle.std.proofs.Common.{◌≡◌, ◌≢◌, arith, ℕ, ◌+◌, Bool, true, false, cond, subst, List, [], take, drop, Result, Ok, Err, OnOk, is_ok, refl, sym, append-nil, take-append-drop}
use Rattle.cd_stream.specs.Stream.{Incoming, Outgoing}
use Rattle.cd_stream.specs.Transfer.{Counts, CountsFlush, Flushes, Sends}
use Rattle.cd_stream.specs.declared.sink.SinkFailed.{SinkFailed}
use Rattle.cd_stream.proofs.TransferLemmas.{Takes-flushed}
use Rattle.cd_read.specs.Ends.{IsTooLong}
use Rattle.cd_read.specs.Printing.{PrintsLine}
use Rattle.cd_read.specs.Status.{failed_status}
use Rattle.cd_read.specs.declared.fault.Fault.TheVariants.{TooLong}
use Rattle.cd_read.proofs.EndLemmas.{Ending, too_long}

module _ (line : List ℕ) (before after : Outgoing) where
  -- a write of the line failed
  pub PrintsLine-cut : (e : SinkFailed) → Sends {X = Unit {0}} before after line (Err e)
      → PrintsLine line before after
  PrintsLine-cut e sends = let went = sends.taken in record {
    sent = take went.0 line;
    takes = went.2;
    begins = (drop went.0 line, sym (take-append-drop went.0 line));
    answer = Err e;
    whole = tt;
    count = sends.count;
    flushes = (omega (arith, sends.flushes), omega (arith, sends.flushes));
    unflushed = λ short. sends.flushes;
  }

  -- the line was written, and the flush returned
  pub PrintsLine-whole : (middle : Outgoing) (sent : Unit {0})
      (flushed : Result (Unit {0}) SinkFailed) → Sends {E = SinkFailed} before middle line (Ok sent)
      → Flushes middle after flushed → PrintsLine line before after
  PrintsLine-whole middle x flushed sends flush = record {
    sent = line;
    takes = Takes-flushed before middle after line flushed sends.taken flush;
    begins = ([], sym (append-nil line));
    answer = flushed;
    whole = finished flushed flush.finished;
    count = subst (λ n. Counts n after.failures flushed) sends.count flush.count;
    flushes = subst (λ n. CountsFlush n after.flushes flushed) sends.flushes flush.flushes;
    unflushed = λ short. absurd (omega (arith, short));
  }
    where
      finished : (flushed : Result (Unit {0}) SinkFailed) → after.finished ≡ is_ok flushed
          → OnOk flushed ((line ≡ line) × (after.finished ≡ true))
      finished (Ok y) is = (refl, is)
      finished (Err e) is = tt

-- a count that has risen differs from the old one
pub one-more : {m n : ℕ} → m ≡ n + 1 → m ≢ n
one-more up same = omega (arith, up, same)

-- the status of a command that was completed is not the status of a failure
pub not-failed : {status : ℕ} (b : Bool) → status ≡ cond b 0 1 → status ≢ failed_status
not-failed true is failed = omega (arith, is, failed)
not-failed false is failed = omega (arith, is, failed)

-- a call that returned that the image is too long
pub is-too-long : {T : Type 0} {image image' : Incoming} {out out' log log' : ℕ}
    → Ending {T = T} image image' out out' log log' (Err TooLong) → IsTooLong image image'
is-too-long e = record {
  unended = e.by.2;
  beyond = λ bytes left gives leaves. (too_long (Err TooLong) e bytes left gives leaves).0 refl;
}
