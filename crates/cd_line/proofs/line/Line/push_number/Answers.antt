use Rattle.std.proofs.Common.{◌++◌, ap, ◌∙◌}
use Rattle.cd_line.proofs.line.Line.push_number.Goals as goal

pub returns-clause-line : goal.returns-clause-line
returns-clause-line c = c.push_text.ensures
    ∙ ap (λ text. c.args.self.now ++ text) (c.as_bytes.ensures.value ∙ c.format.ensures.text)
