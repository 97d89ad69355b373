use Rattle.std.proofs.Common.{◌≡◌, ◌-◌, ◌≤◌, length}
use Rattle.cd_stream.specs.Transfer.{Gives}
use Rattle.cd_script.specs.declared.limits.TheConstants.{MAX_TEXT}
use Rattle.cd_host.proofs.script.read_all.Given as goal

abbrev pub invariant-loop-bytes : goal.invariant-loop-bytes
invariant-loop-bytes g l = record {
  within : length l.bytes.items ≤ MAX_TEXT;
  given : Gives (g.I.Source.seen l.fn.file) (g.I.Source.seen l.file) l.bytes.items;
  counted : (g.I.Source.seen l.file).failures ≡ (g.I.Source.seen l.fn.file).failures;
}

abbrev pub decreases-loop-bytes : goal.decreases-loop-bytes
decreases-loop-bytes g l = MAX_TEXT - length l.bytes.items
