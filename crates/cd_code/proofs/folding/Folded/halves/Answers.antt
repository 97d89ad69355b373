use Rattle.std.proofs.Common.{◌++◌, ap, sym, ◌∙◌}
use Rattle.cd_code.specs.Edc.{bits, remainder}
use Rattle.cd_code.proofs.folding.Folded.halves.Goals as goal

pub returns : goal.returns
returns c = λ v h.
    h.same ∙ ap (λ z. remainder (bits (c.args.self.older ++ z))) (sym c.fold_step-newer.ensures)
