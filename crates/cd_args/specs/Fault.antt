-- Errors of the command line, and the text that is printed.
use Rattle.std.specs.Prelude.{⊤, Bool, true, false, List, Option, Some, None, codes}
use Rattle.std.specs.Prelude.{if◌then◌else◌, ◌∷◌, []}
use Rattle.clap.specs.Words.{IsAmong, Kinds, Text, fault_of, kind_of}
use Rattle.clap.specs.declared.error.Error.{Error}
use Rattle.clap.specs.declared.error.kind.ErrorKind.{ErrorKind}
use Rattle.clap.specs.declared.error.kind.ErrorKind.TheVariants.{DisplayHelp, DisplayVersion}
use Rattle.clap.specs.declared.error.kind.ErrorKind.TheVariants.{OutOfMemory}
use Rattle.cd_args.specs.CommandLine.{command_line}
use Rattle.cd_args.specs.declared.fault.LineFault.{LineFault}
use Rattle.cd_args.specs.declared.fault.LineFault.TheVariants.{Parser, NoMemory}

-- whether the parser ran out of memory
abbrev pub is_out_of_memory : ErrorKind → Bool
is_out_of_memory OutOfMemory = true
is_out_of_memory _ = false

-- `NoMemory` if the parser ran out of memory; its other errors are kept
abbrev pub fault_from : Error → LineFault
fault_from e = if is_out_of_memory (kind_of e) then NoMemory else Parser e

-- whether an error of this kind is a request for help or the version
abbrev pub is_help : ErrorKind → Bool
is_help DisplayHelp = true
is_help DisplayVersion = true
is_help _ = false

-- whether help was requested
abbrev pub asks_for_help : LineFault → Bool
asks_for_help (Parser e) = is_help (kind_of e)
asks_for_help NoMemory = false

-- the line that is printed if memory runs out
abbrev pub no_memory : Text
no_memory = codes "cdpatch: no memory\n"

-- the parser's text, or without one the line for exhausted memory
abbrev pub printed : Option Text → Text
printed (Some text) = text
printed None = no_memory

-- the kinds of error that the definition gives for the arguments; empty without arguments
unfoldable pub error_kinds : List Text → Kinds
error_kinds [] = []
error_kinds (w ∷ ws) = fault_of command_line (w ∷ ws)

-- the parser's error has a kind that the definition gives for the arguments
abbrev pub HasKindOf : List Text → LineFault → Type 0
HasKindOf args (Parser e) = IsAmong (kind_of e) (error_kinds args)
HasKindOf args NoMemory = ⊤
