use Rattle.std.proofs.Common.{append_assoc}
use Rattle.cd_script.specs.Spelling.{edit_words}
use Rattle.cd_script.proofs.writing.rebuild_line.Goals as goal

pub returns : goal.returns
unfolding edit_words
returns c =
    rw (
      c.push_text-2.ensures,
      c.push_number.ensures.line,
      c.push_text.ensures,
      c.new-line.ensures.empty,
    ) (simp append_assoc)
