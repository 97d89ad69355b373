use Rattle.std.proofs.Common.{Ok}
use Rattle.cd_args.proofs.CliLemmas.{extends-by, made-with}
use Rattle.cd_args.proofs.cli.patching_command.Goals as goal

pub returns : goal.returns
returns c =
    let bare = c.described-command.ensures in
    let reads =
    made-with (Ok c.described-command.result) c.with_argument-command.result _ _
    (bare.shape, bare.local)
    (extends-by (Ok c.described-command.result) c.with_argument-command.result
    c.with_argument-command.ensures.shape c.with_argument-command.ensures.local
    c.image_argument.ensures.rule) in
    let patches =
    made-with c.with_argument-command.result c.with_argument-command-2.result _ _ reads
    (extends-by c.with_argument-command.result c.with_argument-command-2.result
    c.with_argument-command-2.ensures.shape c.with_argument-command-2.ensures.local
    c.script_argument.ensures.rule) in
    let options = c.with_options.ensures in
    let made =
    made-with c.with_argument-command-2.result c.with_options.result _ _ patches
    (options.shape, options.local) in
    record { shape = made.0; local = made.1 }
