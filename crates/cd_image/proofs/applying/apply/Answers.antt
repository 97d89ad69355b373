use Rattle.std.proofs.Common.{subst}
use Rattle.std.specs.Prelude.{All}
use Rattle.cd_script.specs.Patch.{IsPatch}
use Rattle.cd_image.proofs.ApplyReportLemmas.{Applies-plainly, Applies-same}
use Rattle.cd_image.proofs.applying.apply.Goals as goal

pub returns : goal.returns
returns g c =
    let done = Applies-same c.patches.ensures.patches c.apply_patches.ensures in
    record {
      report = done;
      plain =
          Applies-plainly
          (subst (All IsPatch) c.patches.ensures.patches c.patches.ensures.each) _ done;
    }
