use Rattle.cd_sector.specs.Laws.{IsEncoded}
use Rattle.cd_sector.proofs.ContentLemmas.{encoded-unique}
use Rattle.cd_sector.proofs.encoding.encode.Goals as goal

pub returns : goal.returns
returns c =
    let made : IsEncoded c.args.header c.args.user.now c.from_bytes.result =
    rw (← c.from_bytes.ensures.bytes) at c.fill_sector.ensures in
    record {
      consistent = made.is_consistent;
      header = made.has_header;
      user = made.has_user;
      unique = λ s. encoded-unique c.args.header c.args.user.now s c.from_bytes.result made;
    }
