-- The command line in the terms of `clap`, and the job that arguments give.
use Rattle.std.specs.Prelude.{◌≡◌, ◌⊎◌, ⊤, ℕ, false, true, List, [], ◌∷◌, Some, codes}
use Rattle.std.specs.Prelude.{IsSome, IsSomeAnd, string_bytes}
use Rattle.clap.specs.Words.{App, Row, Shape, Text, first_of, subcommand_of, takes}
use Rattle.clap.specs.Simple.{new_shape}
use Rattle.cd_args.specs.Arguments.{HasText, text_rule, with_rule}
use Rattle.cd_args.specs.Options.{HasBase, HasSettings, base_of, base_rule, option_rules, task_of}
use Rattle.cd_args.specs.Task.{Task}
use Rattle.cd_args.specs.declared.job.Job.{Job}
use Rattle.cd_args.specs.declared.job.Job.TheVariants as job

-- a command with the text IMAGE and the option `--base N`
abbrev pub image_shape : Text → Shape
image_shape name = record (new_shape name) { rules = text_rule (codes "image") ∷ base_rule ∷ [] }

-- a command with the texts IMAGE and SCRIPT, and the options
abbrev pub patching_shape : Text → Shape
patching_shape name = record (new_shape name) {
  rules = text_rule (codes "image") ∷ text_rule (codes "script") ∷ option_rules;
}

-- `apply`, which has the text OUT too
abbrev pub apply_shape : Shape
apply_shape = with_rule (patching_shape (codes "apply")) (text_rule (codes "out"))

-- the program, which requires a command
abbrev pub program_shape : Shape
program_shape = record (new_shape (codes "cdpatch")) {
  is_leaf = false;
  no_binary_name = true;
  disable_help_subcommand = true;
  subcommand_required = true;
}

-- plumbing: the program before its commands
abbrev pub program_app : App
program_app = record { top = record program_shape { is_leaf = true }; subs = [] }

-- `list IMAGE`, `audit IMAGE`, `check IMAGE SCRIPT` and `apply IMAGE SCRIPT OUT`
unfoldable pub command_line : App
command_line = record {
  top = program_shape;
  subs = image_shape (codes "list") ∷ image_shape (codes "audit") ∷ patching_shape (codes "check")
      ∷ apply_shape ∷ [];
}

-- ---- the job

-- the task has the name, the texts and the settings of a command's matches
abbrev pub HasTask : Text × List Row → Task → Type 0
HasTask p (Task.list base image) =
    (p.0 ≡ codes "list") × HasText (codes "image") p.1 image × (base_of p.1 ≡ Some base)
HasTask p (Task.audit base image) =
    (p.0 ≡ codes "audit") × HasText (codes "image") p.1 image × (base_of p.1 ≡ Some base)
HasTask p (Task.check settings image script) =
    (p.0 ≡ codes "check") × HasText (codes "image") p.1 image × HasText (codes "script") p.1 script
    × HasSettings p.1 settings
HasTask p (Task.apply settings image script out) =
    (p.0 ≡ codes "apply") × HasText (codes "image") p.1 image × HasText (codes "script") p.1 script
    × HasText (codes "out") p.1 out × HasSettings p.1 settings

-- the job has the name, the texts, the base and the flag of a command's matches
abbrev pub HasMatches : Text × List Row → Job → Type 0
HasMatches p j = HasTask p (task_of j)

-- the job is the listing of this image
abbrev pub IsListJob : Text → ℕ → Job → Type 0
IsListJob text first (job.List image base) = (string_bytes image ≡ text) × (base ≡ first)
IsListJob text first _ = ⊥

-- without arguments, the job lists the standard input from block 0; otherwise, it is the job of the
-- command and the matches that the definition gives for the arguments
unfoldable pub IsJobOf : List Text → Job → Type 0
IsJobOf [] job = IsListJob (codes "-") 0 job
IsJobOf (w ∷ ws) job = IsSomeAnd (subcommand_of command_line (w ∷ ws)) (λ p. HasMatches p job)

-- there are no arguments, or the definition accepts them
unfoldable pub IsAccepted : List Text → Type 0
IsAccepted [] = ⊤
IsAccepted (w ∷ ws) = takes command_line (w ∷ ws) ≡ true

-- ---- the contents of the matches of accepted arguments

-- plumbing: the matches name a command, and have its texts and a base
pub record IsComplete (p : Text × List Row) : Type 0 where
  pub name : (p.0 ≡ codes "list") ⊎ (p.0 ≡ codes "audit") ⊎ (p.0 ≡ codes "check")
      ⊎ (p.0 ≡ codes "apply")
  pub image : IsSome (first_of (codes "image") p.1)
  pub script : (p.0 ≡ codes "check") ⊎ (p.0 ≡ codes "apply")
      → IsSome (first_of (codes "script") p.1)
  pub out : p.0 ≡ codes "apply" → IsSome (first_of (codes "out") p.1)
  pub base : HasBase p.1
