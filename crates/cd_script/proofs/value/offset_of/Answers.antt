use Rattle.std.proofs.Common.{rules}
use Rattle.cd_script.specs.Value.{offset_at}
use Rattle.cd_script.proofs.value.offset_of.Goals as goal

pub returns-then-offset-gt-MAX_OFFSET : goal.returns-then-offset-gt-MAX_OFFSET
unfolding offset_at
returns-then-offset-gt-MAX_OFFSET c = search rules

pub returns : goal.returns
unfolding offset_at
returns c = search rules
