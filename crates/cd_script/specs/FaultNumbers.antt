-- The numbers of a line's errors in calls of C, which are those of `enum cdpatch_content`.
use Rattle.std.specs.Prelude.{ℕ, ◌==◌, Option, Some, None, if◌then◌else◌}
use Rattle.cd_script.specs.declared.fault.ScriptFault.{ScriptFault}
use Rattle.cd_script.specs.declared.fault.ScriptFault.TheVariants as fault

-- the number of an error
abbrev pub fault_number : ScriptFault → ℕ
fault_number (fault.Head line) = 4
fault_number (fault.Verb line) = 5
fault_number (fault.Words line) = 6
fault_number (fault.Number line) = 7
fault_number (fault.Hex line) = 8
fault_number (fault.Length line) = 9
fault_number (fault.Offset line) = 10
fault_number (fault.Address line) = 11
fault_number (fault.TooMany line) = 12
fault_number fault.NoMemory = 13

-- the error with this number, in this line: the ten in their order, from 4 on
abbrev pub fault_of : ℕ → ℕ → Option ScriptFault
fault_of number line =
    if number == 4 then Some (fault.Head line)
    else if number == 5 then Some (fault.Verb line)
    else if number == 6 then Some (fault.Words line)
    else if number == 7 then Some (fault.Number line)
    else if number == 8 then Some (fault.Hex line)
    else if number == 9 then Some (fault.Length line)
    else if number == 10 then Some (fault.Offset line)
    else if number == 11 then Some (fault.Address line)
    else if number == 12 then Some (fault.TooMany line)
    else if number == 13 then Some fault.NoMemory
    else None

-- the line of an error, or 0 for lack of memory
abbrev pub line_of : ScriptFault → ℕ
line_of (fault.Head line) = line
line_of (fault.Verb line) = line
line_of (fault.Words line) = line
line_of (fault.Number line) = line
line_of (fault.Hex line) = line
line_of (fault.Length line) = line
line_of (fault.Offset line) = line
line_of (fault.Address line) = line
line_of (fault.TooMany line) = line
line_of fault.NoMemory = 0
