-- The lines for a script's file that could not be loaded.
use Rattle.std.specs.Prelude.{ℕ, List, codes}
use Rattle.cd_args.specs.Fault.{no_memory}
use Rattle.cd_run.specs.Messages.{long_script}
use Rattle.cd_host.specs.declared.script.LoadFault.{LoadFault}
use Rattle.cd_host.specs.declared.script.LoadFault.TheVariants as load_fault

-- a script's file could not be opened or read
abbrev pub no_script : List ℕ
no_script = codes "cdpatch: cannot read the script\n"

-- the line for a script's file that could not be loaded
unfoldable pub load_fault_line : LoadFault → List ℕ
load_fault_line load_fault.Read = no_script
load_fault_line load_fault.TooLong = long_script
load_fault_line load_fault.NoMemory = no_memory
