use Rattle.std.proofs.Common.{Ok}
use Rattle.cd_args.proofs.CliLemmas.{extends-by, made-with}
use Rattle.cd_args.proofs.cli.image_command.Goals as goal

pub returns : goal.returns
returns c =
    let bare = c.described.ensures in
    let reads =
    made-with (Ok c.described.result) c.with_argument-command.result _ _ (bare.shape, bare.local)
    (extends-by (Ok c.described.result) c.with_argument-command.result
    c.with_argument-command.ensures.shape c.with_argument-command.ensures.local
    c.image_argument.ensures.rule) in
    let made =
    made-with c.with_argument-command.result c.with_argument.result _ _ reads
    (extends-by c.with_argument-command.result c.with_argument.result
    c.with_argument.ensures.shape c.with_argument.ensures.local c.base_argument.ensures.rule) in
    record { shape = made.0; local = made.1 }
