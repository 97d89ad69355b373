use Rattle.std.proofs.Common.{List, ℕ, length, ap, sym, arith}
use Rattle.cd_script.proofs.LineLemmas.{goes_on, next_sound, all_read, reads_ok}
use Rattle.cd_script.proofs.script.patches_of.Goals as goal

pub unwrap-found-requires : goal.unwrap-found-requires
unwrap-found-requires c =
    reads_ok c.patch_on_line.result _ c.patch_on_line.ensures
    (λ e read.
    next_sound c.args.head.version c.loop-text.patches.items _ _ _ _ c.loop-text.lines
    c.next.new.self e _ c.len.ensures c.in-Some.ensures.steps c.loop-text.invariant.0
    c.requires.sound read)

pub loop-text-preserved : goal.loop-text-preserved
loop-text-preserved c =
    let read = sym (rw c.unwrap-found.ensures at c.patch_on_line.ensures) in (
      goes_on c.args.head.version c.loop-text.patches.items _ _ _ _ _ _ c.loop-text.lines
          c.next.new.self _ _ c.len.ensures c.in_ok-push_patch.ensures.count
          c.in_ok-push_patch.ensures.ok c.in-Some.ensures.steps read c.loop-text.invariant.0,
      omega (arith, ap (λ (ls : List (List ℕ)). length ls) c.in-Some.ensures.steps),
    )

pub returns : goal.returns
returns c =
    all_read c.args.head.version c.loop-text.patches.items _ _ c.loop-text.lines _
    c.in_default.ensures.steps.0 c.loop-text.invariant.0
