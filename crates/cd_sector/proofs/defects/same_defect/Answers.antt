use Rattle.std.proofs.Common.{◌≡◌, Decides, length, rules}
use Rattle.cd_code.specs.Field.{AreBytes, IsSum}
use Rattle.cd_sector.specs.Defect.{defect_of}
use Rattle.cd_sector.proofs.CarriedLemmas.{same_defect-decided, same_defect-unique}
use Rattle.cd_sector.proofs.defects.same_defect.Goals as goal

pub returns : goal.returns
returns c =
    let a = c.args.a.now in
    let b = c.args.b.now in
    let long_a : length a ≡ 2352 = rw c.bytes.ensures.bytes at c.bytes.ensures.size in
    let long_b : length b ≡ 2352 = rw c.bytes-2.ensures.bytes at c.bytes-2.ensures.size in
    let bytes_a : AreBytes a = rw c.bytes.ensures.bytes at c.bytes.ensures.each in
    let bytes_b : AreBytes b = rw c.bytes-2.ensures.bytes at c.bytes-2.ensures.each in
    let sum : IsSum c.sum_of_bytes.result a b =
    rw c.bytes.ensures.bytes at (rw c.bytes-2.ensures.bytes at c.sum_of_bytes.ensures) in
    let long : length c.sum_of_bytes.result ≡ 2352 = search rules in
    let known : Decides c.is_sound.result (defect_of a ≡ defect_of b) =
    same_defect-decided a b c.sum_of_bytes.result c.is_sound.result long_a long_b long sum
    c.is_sound.ensures in
    record {
      same = known;
      unique = λ yes front. same_defect-unique a b long_a bytes_a long_b bytes_b front (known.0 yes);
    }
