-- The lines that the program itself prints. The line for a lack of memory is in cd_args, those for an
-- error in a script are in cd_run, and those for an error of a call on an image in cd_read.
use Rattle.std.specs.Prelude.{ℕ, List, codes}
use Rattle.cd_args.specs.Fault.{no_memory}
use Rattle.cd_host.specs.declared.host.OpenFault.{OpenFault}
use Rattle.cd_host.specs.declared.host.OpenFault.TheVariants as open_fault

-- the image was not opened
abbrev pub no_image : List ℕ
no_image = codes "cdpatch: cannot open the image\n"

-- the new file was not made
abbrev pub no_output : List ℕ
no_output = codes "cdpatch: cannot make the output file\n"

-- an argument is not valid UTF-8
abbrev pub not_text : List ℕ
not_text = codes "cdpatch: the words are not text\n"

-- the line for a file that was not opened or made: `line` if it was refused, else the line for a
-- lack of memory
unfoldable pub open_fault_line : List ℕ → OpenFault → List ℕ
open_fault_line line open_fault.Refused = line
open_fault_line line open_fault.NoMemory = no_memory
