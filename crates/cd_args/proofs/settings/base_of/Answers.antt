use Rattle.std.proofs.Common.{◌≡◌, ◌∙◌, ap, arith, codes, ℕ, Some, refl, sym}
use Rattle.std.specs.Prelude.{option_map}
use Rattle.std.specs.Str.Parse.{ParsesUnsigned, ExplainsUnsignedError, HasUnsignedDigitsIfOk, digits_value, without_leading_plus}
use Rattle.clap.specs.Words.{Text, found_of, one_text, rows_of, without_minus}
use Rattle.clap.specs.declared.parser.matches.Found.{Found}
use Rattle.clap.proofs.CallerReads.{signed_reads}
use Rattle.clap.proofs.WalkLemmas.{one_text-rows}
use Rattle.cd_args.specs.Options.{HasBase}
use Rattle.cd_address.specs.Address.{last_block}
use Rattle.cd_args.proofs.settings.base_of.Goals as goal

base_text : (found : Found) (h : HasBase (rows_of found))
    → one_text found (codes "base") ≡ Some (without_minus h.text)
base_text found h = one_text-rows found (codes "base") ∙ h.read

pub unwrap-requires : goal.unwrap-requires
unwrap-requires c =
    let got =
    signed_reads _ (λ bs r. ParsesUnsigned 32 10 bs r × ExplainsUnsignedError 10 bs r
    × HasUnsignedDigitsIfOk bs r) 32 0 last_block c.requires.text c.get_one.result
    (c.get_one.ensures.value _ (base_text (found_of c.args.matches.now) c.requires)) (λ u x g. g.0)
    (omega arith) c.requires.accepted in
    rw got.1 refl

pub returns-clause-value : goal.returns-clause-value
returns-clause-value c =
    let one = c.get_one.ensures.value _ (base_text (found_of c.args.matches.now) c.requires) in
    let read = rw c.unwrap.ensures at one in
    ap (option_map (λ (t : Text). digits_value 10 (without_leading_plus t))) c.requires.read
    ∙ ap (λ (n : ℕ). Some n) (sym read.0.1)

pub returns-clause-most : goal.returns-clause-most
returns-clause-most c =
    let got =
    signed_reads _ (λ bs r. ParsesUnsigned 32 10 bs r × ExplainsUnsignedError 10 bs r
    × HasUnsignedDigitsIfOk bs r) 32 0 last_block c.requires.text c.get_one.result
    (c.get_one.ensures.value _ (base_text (found_of c.args.matches.now) c.requires)) (λ u x g. g.0)
    (omega arith) c.requires.accepted in
    let is = got.1 in
    let same : c.unwrap.result ≡ got.0 = cc (is, c.unwrap.ensures) in
    rw same got.3
