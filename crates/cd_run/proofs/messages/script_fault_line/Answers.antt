use Rattle.std.proofs.Common.{◌≡◌, ◌∙◌, refl}
use Rattle.cd_script.specs.FaultNumbers.{line_of}
use Rattle.cd_script.specs.FaultTexts.{fault_text}
use Rattle.cd_script.specs.declared.fault.ScriptFault.{ScriptFault}
use Rattle.cd_script.specs.declared.fault.ScriptFault.TheVariants as script_fault
use Rattle.cd_run.specs.Messages.{numbered_line, script_fault_line}
use Rattle.cd_run.proofs.messages.script_fault_line.Goals as goal

-- the line for an error that is in a line of the script
in_line : (fault : ScriptFault) → (fault ≡ script_fault.NoMemory → ⊥)
    → numbered_line (line_of fault) (fault_text fault) ≡ script_fault_line fault
unfolding script_fault_line
in_line script_fault.NoMemory other = absurd (other refl)
in_line fault other = refl

pub returns-in-NoMemory-clause-line : goal.returns-in-NoMemory-clause-line
unfolding script_fault_line
returns-in-NoMemory-clause-line c = rw c.in-NoMemory.is c.text_line.ensures

pub returns-in_default-clause-line : goal.returns-in_default-clause-line
returns-in_default-clause-line c =
    c.numbered_line.ensures.line
    ∙ rw (c.line.ensures, c.as_bytes.ensures.value, c.text.ensures.text)
    (in_line c.args.fault c.in_default.not-NoMemory)
