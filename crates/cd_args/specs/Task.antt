-- A job as the crates above see it: a command with its settings and its texts. A new option is a
-- new field of the settings, and crates above need not name the fields that they do not use.
use Rattle.std.specs.Prelude.{ℕ, List}
use Rattle.cd_args.specs.declared.settings.Settings.{Settings}

-- a command, with its settings and its texts
pub data Task : Type 0 where
  list : (base : ℕ) (image : List ℕ) → Task
  audit : (base : ℕ) (image : List ℕ) → Task
  check : (settings : Settings) (image script : List ℕ) → Task
  apply : (settings : Settings) (image script out : List ℕ) → Task
