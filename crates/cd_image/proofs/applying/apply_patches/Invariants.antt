use Rattle.std.proofs.Common.{◌≡◌, ◌+◌, ◌≤◌, false, take, drop, length, if◌then◌else◌}
use Rattle.cd_patch.specs.Blocks.{block_limit}
use Rattle.cd_image.specs.Applying.{streams}
use Rattle.cd_image.specs.Passing.{HoldsInvariant, HasNoStepLeft}
use Rattle.cd_run.specs.Running.{IsRun}
use Rattle.cd_image.proofs.applying.apply_patches.Given as goal
use Rattle.cd_run.specs.Steps.{machine_steps}

abbrev pub invariant-loop-more : goal.invariant-loop-more
invariant-loop-more g l =
    let start =
    streams (g.I.Source.seen l.fn.image) (g.O.Sink.seen l.fn.out) (g.L.Sink.seen l.fn.log) in
    let now = streams (g.I.Source.seen l.image) (g.O.Sink.seen l.out) (g.L.Sink.seen l.log) in
    record {
      goes : HoldsInvariant l.carry (take l.run.decided l.patches)
          (drop l.run.decided l.patches) l.fn.base start now l.run l.hand;
      sound : IsRun l.run;
      places : length l.hand ≡ block_limit;
      known : l.run.decided ≤ length l.patches;
      applied : l.run.applied ≤ l.run.decided;
      done : l.more ≡ false → HasNoStepLeft (length l.patches) l.run;
    }

abbrev pub decreases-loop-more : goal.decreases-loop-more
decreases-loop-more g l = machine_steps (length l.patches) l.run + (if l.more then 1 else 0)
