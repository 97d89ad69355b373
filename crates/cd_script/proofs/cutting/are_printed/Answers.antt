use Rattle.std.proofs.Common.{refl}
use Rattle.std.proofs.lemmas.Bool.{eqb-true}
use Rattle.cd_script.proofs.EightLemmas.{eight-no_feed}
use Rattle.cd_script.proofs.cutting.are_printed.Goals as goal

pub returns : goal.returns
returns c = λ printed k lt feed.
    eight-no_feed c.args.bytes.now c.from_le_bytes-word.result 2314885530818453536 c.fits-bytes
    c.from_le_bytes-word.ensures refl (eqb-true _ _ printed) k lt feed
