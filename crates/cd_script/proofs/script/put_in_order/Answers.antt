use Rattle.cd_script.proofs.script.put_in_order.Goals as goal

pub returns : goal.returns
returns c = c.sort_by.ensures
