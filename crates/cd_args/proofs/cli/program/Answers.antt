use Rattle.std.proofs.Common.{◌≡◌, ◌∙◌, ap, true, codes}
use Rattle.std.proofs.lemmas.Result.{IfOk-weaker}
use Rattle.clap.specs.Words.{App, Shape, app_of, new_app}
use Rattle.clap.specs.Simple.{app_of_fields, on_top}
use Rattle.cd_args.proofs.cli.program.Goals as goal

abbrev without_binary_name : App → App
without_binary_name = on_top (λ (s : Shape). record s { no_binary_name = true })

abbrev without_help : App → App
without_help = on_top (λ (s : Shape). record s { disable_help_subcommand = true })

abbrev with_required : App → App
with_required = on_top (λ (s : Shape). record s { subcommand_required = true })

pub returns : goal.returns
returns c =
    let known : app_of c.after_help.result ≡ new_app (codes "cdpatch") =
    ap app_of_fields c.after_help.ensures ∙ ap app_of_fields c.about.ensures ∙ c.new.ensures.app in
    let nameless : app_of c.no_binary_name.result
    ≡ without_binary_name (new_app (codes "cdpatch")) =
    ap app_of_fields c.no_binary_name.ensures ∙ ap without_binary_name known in
    let helpless : app_of c.disable_help_subcommand.result
    ≡ without_help (without_binary_name (new_app (codes "cdpatch"))) =
    ap app_of_fields c.disable_help_subcommand.ensures ∙ ap without_help nameless in
    let required : app_of c.subcommand_required.result
    ≡ with_required (without_help (without_binary_name (new_app (codes "cdpatch")))) =
    ap app_of_fields c.subcommand_required.ensures ∙ ap with_required helpless in
    IfOk-weaker c.bin_name.result _ _
    (λ d named. ap app_of_fields named.0 ∙ required) c.bin_name.ensures
