use Rattle.std.proofs.Common.{◌≡◌, refl, ap, sym, ◌∙◌, true, Some}
use Rattle.cd_script.specs.ByLine.{meaning_at}
use Rattle.cd_script.specs.PatchForm.{Patch as ThePatch}
use Rattle.cd_script.specs.declared.by_line.LineContent.TheVariants as content
use Rattle.cd_patch.specs.Blocks.{blocks_met}
use Rattle.cd_c_scripts.specs.Flags.{as_asked}
use Rattle.cd_c_scripts.proofs.EntryLemmas.{patch_comes, same_patch}
use Rattle.cd_c_scripts.proofs.PatchLineLemmas.{patch_read}
use Rattle.cd_c_scripts.proofs.rereading.lend_entry.Goals as goal

pub returns-in_default-patch_in-clause-none : goal.returns-in_default-patch_in-clause-none
returns-in_default-patch_in-clause-none c = λ p is.
    let comes = patch_comes is refl refl c.in-Some.ensures.some c.read_line.ensures.meaning in
    absurd (c.in_default-patch_in.ensures.none is.found comes)

pub returns-then-not-is_of-clause-none : goal.returns-then-not-is_of-clause-none
returns-then-not-is_of-clause-none c = λ p is.
    let same =
    same_patch is refl refl c.in-Some.ensures.some c.read_line.ensures.meaning
    c.in-Some-patch_in.ensures.some in
    let agrees : c.is_of.result ≡ true =
    c.is_of.ensures.1 (
      ap (λ (q : ThePatch). q.block) same ∙ sym is.block,
      ap blocks_met same ∙ sym is.met,
    ) in
    absurd (cc (agrees, c.if-not-is_of.true))

pub returns-clause-lends : goal.returns-clause-lends
returns-clause-lends c =
    let e = c.args.entry.now in
    let found = c.in-Some-patch_in.found in
    let with_bytes : c.in-Some-patch_with.patch ≡ found =
    cc (c.in-Some-patch_with.is, c.patch_with.ensures) in
    let agrees : c.is_of.result ≡ true = cc (c.if-not-is_of.false) in
    record {
      found = found;
      reads = (
        c.in-Some.ensures.within,
        ap (λ l. meaning_at (Some c.args.version) e.number 0 l) (sym c.in-Some.ensures.some)
            ∙ sym c.read_line.ensures.meaning ∙ c.in-Some-patch_in.ensures.some,
      );
      asked = c.as_asked.ensures.asked ∙ ap (as_asked c.args.flags) with_bytes;
      block = sym (c.is_of.ensures.0 agrees).0;
      number =
          sym (patch_read c.args.version e.number 0 _ found
          (ap (λ l. meaning_at (Some c.args.version) e.number 0 l) (sym c.in-Some.ensures.some)
          ∙ sym c.read_line.ensures.meaning ∙ c.in-Some-patch_in.ensures.some)).0;
      met = sym (c.is_of.ensures.0 agrees).1;
    }
