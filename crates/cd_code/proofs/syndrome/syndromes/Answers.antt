use Rattle.std.proofs.Common.{◌≡◌, ◌+◌, ◌++◌, ◌∷◌, [], take, get_or, bit_xor, sym, ap, ◌∙◌, arith}
use Rattle.std.proofs.lemmas.List.{take_more}
use Rattle.cd_code.specs.Field.{double}
use Rattle.cd_code.specs.Syndrome.{first_syndrome, second_syndrome}
use Rattle.cd_code.proofs.SyndromeLemmas.{first_syndrome-nil, second_syndrome-nil, first_syndrome-push, second_syndrome-push}
use Rattle.cd_code.proofs.syndrome.syndromes.Goals as goal

pub loop-byte-init : goal.loop-byte-init
loop-byte-init c = record { plain = sym first_syndrome-nil; weighted = sym second_syndrome-nil }

pub loop-byte-preserved : goal.loop-byte-preserved
loop-byte-preserved c =
    let v = c.args.v.now in
    let i = c.loop-byte.byte-index in
    let x = get_or v i 0 in
    let longer : take (i + 1) v ≡ take i v ++ x ∷ [] = take_more v i 0 (omega arith) in
    record {
      plain =
          ap (λ z. bit_xor z x) c.loop-byte.invariant.plain
          ∙ sym (ap first_syndrome longer ∙ first_syndrome-push (take i v) x);
      weighted =
          ap (λ z. bit_xor z x) (c.doubled.ensures ∙ ap double c.loop-byte.invariant.weighted)
          ∙ sym (ap second_syndrome longer
          ∙ second_syndrome-push (take i v) x (c.type_inv.v i).fits);
    }
