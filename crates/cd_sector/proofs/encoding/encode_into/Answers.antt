use Rattle.std.proofs.Common.{rules}
use Rattle.cd_sector.specs.Laws.{IsEncoded}
use Rattle.cd_sector.proofs.ContentLemmas.{encoded-unique}
use Rattle.cd_sector.proofs.encoding.encode_into.Goals as goal

pub returns : goal.returns
returns c =
    let made : IsEncoded c.args.header c.args.user.now c.with_bytes_mut.new.self =
    search (rules, c.with_bytes_mut.ensures) in
    record {
      consistent = made.is_consistent;
      header = made.has_header;
      user = made.has_user;
      unique = λ t. encoded-unique c.args.header c.args.user.now t c.with_bytes_mut.new.self made;
    }
