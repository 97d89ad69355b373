-- The options of the commands: their definitions for `clap`, the values that the matches give, and
-- the settings of a job. An option of `check` and `apply` is defined here and in `src/settings.rt`.
use Rattle.std.specs.Prelude.{◌≡◌, ℕ, Bool, false, List, [], ◌∷◌, ◌++◌, Option, Some, codes, map, option_map, pos, string_bytes}
use Rattle.std.specs.Str.Parse.{digits_value, without_leading_plus}
use Rattle.clap.specs.Words.{IsSignedIn, Row, Rule, Text, new_rule, one_of, without_minus}
use Rattle.clap.specs.declared.builder.value_parser.ValueParser.TheVariants as vp
use Rattle.cd_address.specs.Address.{last_block}
use Rattle.cd_args.specs.Arguments.{flag_of, flag_rule}
use Rattle.cd_args.specs.Task.{Task}
use Rattle.cd_args.specs.declared.job.Job.{Job}
use Rattle.cd_args.specs.declared.job.Job.TheVariants as job
use Rattle.cd_args.specs.declared.settings.Settings.{Settings}

-- ---- on the command line

-- the option `--base N`, a number of 0 to 449849; 0 if it is not used
abbrev pub base_rule : Rule
base_rule = record (new_rule (codes "base")) {
  long = Some (codes "base");
  value_names = 1;
  defaults = codes "0" ∷ [];
  parser = Some (vp.Signed (pos 0) (pos last_block));
}

-- the flags of `check` and `apply`
abbrev pub flags : List Text
flags = codes "carry" ∷ []

-- the options of `check` and `apply`
abbrev pub option_rules : List Rule
option_rules = map flag_rule flags ++ base_rule ∷ []

-- ---- in the matches

-- the number that a command's rows give for `--base`
abbrev pub base_of : List Row → Option ℕ
base_of rows =
    option_map (λ t. digits_value 10 (without_leading_plus t)) (one_of (codes "base") rows)

-- the settings are the values that a command's rows give for its options
pub record HasSettings (rows : List Row) (settings : Settings) : Type 0 where
  pub base : base_of rows ≡ Some settings.base
  pub carry : settings.carry ≡ flag_of (codes "carry") rows

-- plumbing: the text of `--base` was accepted, and is the number that is read
pub record HasBase (rows : List Row) : Type 0 where
  pub text : Text
  pub read : one_of (codes "base") rows ≡ Some (without_minus text)
  pub accepted : IsSignedIn (pos 0) (pos last_block) text

-- ---- in a job

-- settings with this base, with damage carried or refused, and no other option
abbrev pub settings_of : ℕ → Bool → Settings
settings_of base carry = record { base = base; carry = carry }

-- the task of a job
abbrev pub task_of : Job → Task
task_of (job.List image base) = Task.list base (string_bytes image)
task_of (job.Audit image base) = Task.audit base (string_bytes image)
task_of (job.Check image script base carry) =
    Task.check (record { base = base; carry = carry }) (string_bytes image) (string_bytes script)
task_of (job.Apply image script out base carry) =
    Task.apply (record { base = base; carry = carry }) (string_bytes image) (string_bytes script)
    (string_bytes out)

-- the settings of a task; `list` and `audit` have only a base
abbrev pub task_settings : Task → Settings
task_settings (Task.list base image) = settings_of base false
task_settings (Task.audit base image) = settings_of base false
task_settings (Task.check settings image script) = settings
task_settings (Task.apply settings image script out) = settings

-- the settings of a job
abbrev pub settings_in : Job → Settings
settings_in j = task_settings (task_of j)

-- the number of the first block in any job
abbrev pub base_in : Job → ℕ
base_in j = (settings_in j).base
