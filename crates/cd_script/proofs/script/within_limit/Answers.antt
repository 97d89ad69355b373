use Rattle.std.proofs.Common.{rules}
use Rattle.cd_script.proofs.script.within_limit.Goals as goal

pub returns-then-earlier-ge-MAX_PATCHES : goal.returns-then-earlier-ge-MAX_PATCHES
returns-then-earlier-ge-MAX_PATCHES c = search rules

pub returns-else-earlier-ge-MAX_PATCHES : goal.returns-else-earlier-ge-MAX_PATCHES
returns-else-earlier-ge-MAX_PATCHES c = search rules
