use Rattle.std.proofs.Common.{append-nil, sym}
use Rattle.cd_run.proofs.LeftLemmas.{all_taken}
use Rattle.cd_image.proofs.CloseLemmas.{Closes-flush, Closes-log, Closes-log_flush, Closes-ok, with_nil}
use Rattle.cd_image.proofs.KnownLemmas.{Applies-fault}
use Rattle.cd_image.proofs.pass.close.Goals as goal

pub returns-in_err-send_counts : goal.returns-in_err-send_counts
returns-in_err-send_counts g c = λ carry base start image going.
    let all = all_taken c.args.patches.now c.args.run.now.decided c.requires.done.all in
    let done =
    rw (all.0, all.1, c.tail_in.ensures.bytes, c.requires.done.empty, c.requires.done.closed) at going in
    Applies-fault c.from_residual.ensures.1
    (rw append-nil at (Closes-log done (_, sym (append-nil _)) (with_nil _ c.args.patches.now c.in_err-send_counts.ensures)))

pub returns-in_err-finish_output : goal.returns-in_err-finish_output
returns-in_err-finish_output g c = λ carry base start image going.
    let all = all_taken c.args.patches.now c.args.run.now.decided c.requires.done.all in
    let done =
    rw (all.0, all.1, c.tail_in.ensures.bytes, c.requires.done.empty, c.requires.done.closed) at going in
    Applies-fault c.from_residual-in_err-finish_output.ensures.1
    (rw append-nil at (Closes-flush done (with_nil _ c.args.patches.now c.in_ok-send_counts.ensures) c.in_err-finish_output.ensures))

pub returns-in_err-finish_log : goal.returns-in_err-finish_log
returns-in_err-finish_log g c = λ carry base start image going.
    let all = all_taken c.args.patches.now c.args.run.now.decided c.requires.done.all in
    let done =
    rw (all.0, all.1, c.tail_in.ensures.bytes, c.requires.done.empty, c.requires.done.closed) at going in
    Applies-fault c.from_residual-in_err-finish_log.ensures.1
    (rw append-nil at (Closes-log_flush done (with_nil _ c.args.patches.now c.in_ok-send_counts.ensures) c.in_ok-finish_output.ensures c.in_err-finish_log.ensures))

pub returns : goal.returns
returns g c = λ carry base start image going.
    let all = all_taken c.args.patches.now c.args.run.now.decided c.requires.done.all in
    let done =
    rw (all.0, all.1, c.tail_in.ensures.bytes, c.requires.done.empty, c.requires.done.closed) at going in
    rw append-nil at (Closes-ok done (with_nil _ c.args.patches.now c.in_ok-send_counts.ensures) c.in_ok-finish_output.ensures c.in_ok-finish_log.ensures)
