use Rattle.std.proofs.Common.{sym, ◌∙◌}
use Rattle.cd_memory.proofs.MemoryLemmas.{with_bytes-set}
use Rattle.cd_memory.proofs.file.set_bytes_at.Goals as goal

pub returns-in-Some : goal.returns-in-Some
returns-in-Some c =
    with_bytes-set c.args.files.now c.args.name.now c.args.bytes.items c.in-Some.place
    c.index-files-place.result c.set_bytes.new.self (sym c.place_of.ensures ∙ c.in-Some.is)
    c.set_bytes.ensures
