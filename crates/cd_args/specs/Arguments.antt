-- The kinds of arguments that a command has, as `clap` defines them.
use Rattle.std.specs.Prelude.{◌≡◌, Bool, true, false, List, [], ◌∷◌, ◌++◌, Option, Some, None, codes}
use Rattle.std.specs.Str.{bytes_eq}
use Rattle.clap.specs.Words.{Row, Rule, Shape, Text, first_of, new_rule}
use Rattle.clap.specs.declared.builder.action.ArgAction.TheVariants.{SetTrue}

-- a text that a command requires
abbrev pub text_rule : Text → Rule
text_rule id = record (new_rule id) { value_names = 1; required = true }

-- the rows of a command have this text for an argument
abbrev pub HasText : Text → List Row → Text → Type 0
HasText id rows text = first_of id rows ≡ Some text

-- a flag: an option `--id` without a value
abbrev pub flag_rule : Text → Rule
flag_rule id = record (new_rule id) { long = Some id; action = Some SetTrue }

-- a flag that is used has the text "true"
abbrev pub is_set : Option Text → Bool
is_set None = false
is_set (Some text) = bytes_eq text (codes "true")

-- whether a command's rows have this flag
abbrev pub flag_of : Text → List Row → Bool
flag_of id rows = is_set (first_of id rows)

-- a command with further arguments after its own
abbrev pub with_rules : Shape → List Rule → Shape
with_rules s more = record s { rules = s.rules ++ more }

-- a command with one more argument
abbrev pub with_rule : Shape → Rule → Shape
with_rule s a = with_rules s (a ∷ [])
