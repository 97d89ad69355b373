use Rattle.std.proofs.Common.{arith}
use Rattle.cd_sector.proofs.ContentLemmas.{content_put}
use Rattle.cd_sector.proofs.encoding.put_content.Goals as goal

pub returns : goal.returns
returns c =
    content_put c.args.header c.args.user.now c.args.bytes.now c.put_part.new.bytes
    c.put_part-2.new.bytes c.put_part-3.new.bytes c.put_part-4.new.bytes
    (omega arith) c.told-user c.told-bytes c.put_part.array_long c.put_part-2.array_long
    c.put_part-3.array_long c.put_part-4.array_long
    (record { inside = c.put_part.ensures.inside; outside = c.put_part.ensures.outside })
    (record { inside = c.put_part-2.ensures.inside; outside = c.put_part-2.ensures.outside })
    (record { inside = c.put_part-3.ensures.inside; outside = c.put_part-3.ensures.outside })
    (record { inside = c.put_part-4.ensures.inside; outside = c.put_part-4.ensures.outside })
