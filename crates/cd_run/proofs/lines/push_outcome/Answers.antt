use Rattle.std.proofs.Common.{append_assoc}
use Rattle.cd_run.specs.PatchLog.{outcome_text}
use Rattle.cd_run.proofs.lines.push_outcome.Goals as goal

pub returns-in-NoBlock-clause-text : goal.returns-in-NoBlock-clause-text
unfolding outcome_text
returns-in-NoBlock-clause-text c =
    rw (c.in-NoBlock.is, c.push_number.ensures.line, c.push_text-in-NoBlock.ensures, append_assoc)

pub returns-in-NotMode1-clause-text : goal.returns-in-NotMode1-clause-text
unfolding outcome_text
returns-in-NotMode1-clause-text c =
    rw (c.in-NotMode1.is, c.push_text-in-NotMode1-2.ensures)
    (rw (c.push_number-in-NotMode1.ensures.line, c.push_text-in-NotMode1.ensures)
    (simp append_assoc))

pub returns-in-Damaged-clause-text : goal.returns-in-Damaged-clause-text
unfolding outcome_text
returns-in-Damaged-clause-text c =
    rw (c.in-Damaged.is, c.push_text-in-Damaged-2.ensures)
    (rw (c.push_number-in-Damaged.ensures.line, c.push_text-in-Damaged.ensures) (simp append_assoc))

pub returns-in-Differs-clause-text : goal.returns-in-Differs-clause-text
unfolding outcome_text
returns-in-Differs-clause-text c =
    rw (c.in-Differs.is, c.push_number-in-Differs-2.ensures.line, c.from.ensures)
    (rw (c.push_text-in-Differs-2.ensures, c.push_number-in-Differs.ensures.line)
    (rw c.push_text-in-Differs.ensures (simp append_assoc)))
