use Rattle.cd_args.specs.CommandLine.{command_line}
use Rattle.cd_args.proofs.CliLemmas.{app-with}
use Rattle.cd_args.proofs.cli.command_line.Goals as goal

pub returns : goal.returns
unfolding command_line
returns c =
    let lists =
    app-with c.program.result c.image_command-list.result c.with_command-program.result _ _
    c.program.ensures c.image_command-list.ensures.shape c.with_command-program.ensures in
    let audits =
    app-with c.with_command-program.result c.image_command-audit.result
    c.with_command-program-2.result _ _
    lists c.image_command-audit.ensures.shape c.with_command-program-2.ensures in
    let checks =
    app-with c.with_command-program-2.result c.patching_command-check.result
    c.with_command-program-3.result _ _
    audits c.patching_command-check.ensures.shape c.with_command-program-3.ensures in
    app-with c.with_command-program-3.result c.apply_command.result c.with_command.result _ _
    checks c.apply_command.ensures.shape c.with_command.ensures
