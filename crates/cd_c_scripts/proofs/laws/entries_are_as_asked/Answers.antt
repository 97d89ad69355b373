use Rattle.cd_c_scripts.proofs.EntryLemmas.{AreEntries-asked}
use Rattle.cd_c_scripts.proofs.laws.entries_are_as_asked.Goals as goal

pub returns : goal.returns
returns c text version flags es ps h = AreEntries-asked flags h
