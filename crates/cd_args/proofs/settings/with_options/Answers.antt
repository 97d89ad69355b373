use Rattle.cd_args.proofs.CliLemmas.{extends-by, extends-then}
use Rattle.cd_args.proofs.settings.with_options.Goals as goal

pub returns : goal.returns
returns c =
    let carries =
    extends-by c.args.command c.with_argument-command.result c.with_argument-command.ensures.shape
    c.with_argument-command.ensures.local c.flag_argument.ensures.rule in
    let made =
    extends-then c.args.command c.with_argument-command.result c.with_argument.result _ _ carries
    (extends-by c.with_argument-command.result c.with_argument.result
    c.with_argument.ensures.shape c.with_argument.ensures.local c.base_argument.ensures.rule) in
    record { shape = made.0; local = made.1 }
