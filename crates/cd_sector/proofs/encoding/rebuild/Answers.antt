use Rattle.std.proofs.Common.{rules, ◌≡◌, ℕ, ◌<◌, ◌≤◌, length, take, get_or, sym, ◌∙◌}
use Rattle.cd_code.specs.Edc.{bits, remainder}
use Rattle.cd_code.specs.Field.{AreBytes}
use Rattle.cd_code.specs.CodeWords.{AllCodeWords}
use Rattle.cd_sector.proofs.ContentLemmas.{rebuilt}
use Rattle.cd_sector.proofs.SectorLemmas.{sector_unique}
use Rattle.cd_sector.proofs.encoding.rebuild.Goals as goal

pub returns : goal.returns
returns c =
    let old = c.args.s.now in
    let new = c.with_bytes_mut.new.self in
    let front : (k : ℕ) → k < 2064 → get_or new k 0 ≡ get_or old k 0 =
    search (rules, c.with_bytes_mut.ensures) in
    let zeros : (k : ℕ) → 2068 ≤ k → k < 2076 → get_or new k 0 ≡ 0 =
    search (rules, c.with_bytes_mut.ensures) in
    let divides : remainder (bits (take 2068 new)) ≡ 0 = search (rules, c.with_bytes_mut.ensures) in
    let words : AllCodeWords new = search (rules, c.with_bytes_mut.ensures) in
    let old_size : length old ≡ 2352 = search rules in
    let size : length new ≡ 2352 = search rules in
    let each : AreBytes new = search (rules, c.with_bytes_mut.ensures) in
    let made = rebuilt old new old_size size each c.requires.mode front zeros divides words in
    record {
      consistent = made.0;
      header = made.1.0;
      user = made.1.1;
      unique = λ t sound header user. sector_unique t new sound made.0 (header ∙ sym made.1.0)
          (user ∙ sym made.1.1);
    }
