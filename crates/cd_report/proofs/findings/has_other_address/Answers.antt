use Rattle.cd_report.proofs.findings.has_other_address.Goals as goal

pub returns-in-None : goal.returns-in-None
returns-in-None c = rw (← c.address_of.ensures.value, c.in-None.is)
