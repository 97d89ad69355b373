use Rattle.std.proofs.Common.{rules}
use Rattle.cd_script.proofs.script.read_patches.Goals as goal

pub returns-in_err-check_lines-clause-err : goal.returns-in_err-check_lines-clause-err
returns-in_err-check_lines-clause-err c = search rules

pub returns-in_err-check_lines-clause-refused : goal.returns-in_err-check_lines-clause-refused
returns-in_err-check_lines-clause-refused c = search rules

pub patches_of-requires-clause-sound : goal.patches_of-requires-clause-sound
patches_of-requires-clause-sound c = search rules
