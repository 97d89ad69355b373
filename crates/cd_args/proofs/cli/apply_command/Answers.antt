use Rattle.cd_args.proofs.CliLemmas.{extends-by, made-with}
use Rattle.cd_args.proofs.cli.apply_command.Goals as goal

pub returns : goal.returns
returns c =
    let was = c.patching_command-command.ensures in
    let made =
    made-with c.patching_command-command.result c.with_argument.result _ _ (was.shape, was.local)
    (extends-by c.patching_command-command.result c.with_argument.result
    c.with_argument.ensures.shape c.with_argument.ensures.local c.out_argument.ensures.rule) in
    record { shape = made.0; local = made.1 }
