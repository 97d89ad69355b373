-- The messages of a script's errors.
use Rattle.std.specs.Prelude.{ℕ, List, ◌++◌, codes, decimal}
use Rattle.cd_script.specs.Limits.{offset_limit, patch_limit}
use Rattle.cd_script.specs.declared.fault.ScriptFault.{ScriptFault}
use Rattle.cd_script.specs.declared.fault.ScriptFault.TheVariants as script_fault

-- the message without the number of the line
abbrev pub fault_text : ScriptFault → List ℕ
fault_text (script_fault.Head line) = codes "no cdpatch 1 line"
fault_text (script_fault.Verb line) = codes "unknown verb"
fault_text (script_fault.Words line) = codes "wrong number of words"
fault_text (script_fault.Number line) = codes "bad number"
fault_text (script_fault.Hex line) = codes "bad hex"
fault_text (script_fault.Length line) = codes "bad length"
fault_text (script_fault.Offset line) = codes "offset over " ++ decimal offset_limit
fault_text (script_fault.Address line) = codes "bad address"
fault_text (script_fault.TooMany line) =
    codes "more than " ++ decimal patch_limit ++ codes " patches"
fault_text script_fault.NoMemory = codes "no memory"
