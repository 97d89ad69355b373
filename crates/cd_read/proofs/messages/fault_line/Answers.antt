use Rattle.cd_read.specs.Messages.{fault_line}
use Rattle.cd_read.proofs.messages.fault_line.Goals as goal

pub returns-in-Read : goal.returns-in-Read
unfolding fault_line
returns-in-Read c = rw c.in-Read.is c.failed_read_line.ensures.line
