use Rattle.std.proofs.Common.{◌≡◌, take}
use Rattle.cd_code.specs.Syndrome.{first_syndrome, second_syndrome}
use Rattle.cd_code.proofs.syndrome.syndromes.Given as goal

abbrev pub invariant-loop-byte : goal.invariant-loop-byte
invariant-loop-byte l = record {
  plain : l.plain ≡ first_syndrome (take l.byte-index l.v);
  weighted : l.weighted ≡ second_syndrome (take l.byte-index l.v);
}
