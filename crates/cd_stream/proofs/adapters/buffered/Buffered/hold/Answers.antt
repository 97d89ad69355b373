use Rattle.std.proofs.Common.{◌∙◌, arith}
use Rattle.std.proofs.lemmas.List.{with_items_is}
use Rattle.cd_stream.proofs.BufferLemmas.{held-put}
use Rattle.cd_stream.proofs.adapters.buffered.Buffered.hold.Goals as goal

pub returns-clause-held : goal.returns-clause-held
returns-clause-held g c =
    let old = c.args.self.now in
    held-put old.start old.end old.space.items c.deref_mut.result.now c.copy_at.new.space _
    c.args.bytes.now old.ordered (omega (arith, c.requires, old.within))
    c.deref_mut.ensures.value c.copy_at.ensures
    (with_items_is old.space c.copy_at.new.space (c.copy_at.auto.space ∙ c.deref_mut.ensures.len))
