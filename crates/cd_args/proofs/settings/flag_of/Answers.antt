use Rattle.std.proofs.Common.{◌≡◌, ◌∙◌, ap}
use Rattle.std.specs.Prelude.{option_map}
use Rattle.clap.specs.Words.{first_of, found_of, rows_of}
use Rattle.clap.proofs.WalkLemmas.{first_value-rows}
use Rattle.cd_args.specs.Arguments.{is_set}
use Rattle.cd_args.proofs.settings.flag_of.Goals as goal

pub returns : goal.returns
returns c =
    let read : option_map (λ s. s.now) c.get_str.result
    ≡ first_of c.args.id.now (rows_of (found_of c.args.matches.now)) =
    c.get_str.ensures ∙ first_value-rows (found_of c.args.matches.now) c.args.id.now in
    c.is_set.ensures ∙ ap is_set read
