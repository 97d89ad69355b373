use Rattle.std.proofs.Common.{sym, ◌∙◌}
use Rattle.std.proofs.lemmas.Result.{err_from_is_err_and}
use Rattle.cd_script.proofs.LineLemmas.{line_at-is}
use Rattle.cd_script.proofs.script.patch_on_line.Goals as goal

pub returns-in_err-patch : goal.returns-in_err-patch
returns-in_err-patch c =
    let p = err_from_is_err_and c.from_residual.result c.from_residual.ensures.1 in
    let found = c.as_slice-words.ensures ∙ c.words-words.ensures in
    rw (p.1, p.2) (sym (line_at-is c.args.version c.args.line c.args.earlier c.args.text.now _ _ found
    (sym c.is_passed_over.ensures ∙ c.if-is_passed_over.false) (sym c.in_err-patch.ensures)))

pub returns : goal.returns
returns c =
    let found = c.as_slice-words.ensures ∙ c.words-words.ensures in
    let read =
    line_at-is c.args.version c.args.line c.args.earlier c.args.text.now _ _ found
    (sym c.is_passed_over.ensures ∙ c.if-is_passed_over.false) (sym c.in_ok-patch.ensures) in
    c.within_limit.ensures ∙ sym read
