use Rattle.cd_stream.proofs.adapters.short.Short.new.Goals as goal

pub returns-clause-most : goal.returns-clause-most
returns-clause-most g c = c.max.ensures
