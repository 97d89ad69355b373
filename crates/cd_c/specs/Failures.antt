-- The lines for failures, by the numbers of `enum cdpatch_failure`.
use Rattle.std.specs.Prelude.{ℕ, ◌==◌, if◌then◌else◌, List, []}
use Rattle.cd_read.specs.Messages.{failed_read, fault_line, long_image}
use Rattle.cd_read.specs.declared.fault.Fault.TheVariants as fault
use Rattle.cd_run.specs.Messages.{long_script}

-- the line for a script or an image that is too long, or a failed read or write; empty for any other
-- number
abbrev pub failure_line : ℕ → List ℕ
failure_line failure =
    if failure == 0 then long_script
    else if failure == 1 then long_image
    else if failure == 2 then failed_read
    else if failure == 3 then fault_line fault.Write
    else []
