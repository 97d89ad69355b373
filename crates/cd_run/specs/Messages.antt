-- The messages for a script that cannot be run.
use Rattle.std.specs.Prelude.{ℕ, List, ◌++◌, codes, decimal}
use Rattle.cd_script.specs.FaultNumbers.{line_of}
use Rattle.cd_script.specs.FaultTexts.{fault_text}
use Rattle.cd_script.specs.Limits.{text_limit}
use Rattle.cd_script.specs.declared.fault.ScriptFault.{ScriptFault}
use Rattle.cd_script.specs.declared.fault.ScriptFault.TheVariants as script_fault

-- a script has more bytes than it may have
unfoldable pub long_script : List ℕ
long_script =
    codes "cdpatch: the script is longer than " ++ decimal text_limit ++ codes " bytes\n"

-- `script line`, the number, and what is wrong there
unfoldable pub numbered_line : ℕ → List ℕ → List ℕ
numbered_line number text =
    codes "script line " ++ decimal number ++ codes ": " ++ text ++ codes "\n"

-- the line for an error in a script
unfoldable pub script_fault_line : ScriptFault → List ℕ
script_fault_line script_fault.NoMemory = codes "script: no memory\n"
script_fault_line fault = numbered_line (line_of fault) (fault_text fault)
