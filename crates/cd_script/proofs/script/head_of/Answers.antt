use Rattle.std.proofs.Common.{List, ℕ, length, sym, ap, ◌∙◌, arith}
use Rattle.std.proofs.lemmas.Result.{err_from_is_err_and}
use Rattle.cd_script.specs.Script.{script_from}
use Rattle.cd_script.proofs.ByLineLemmas.{head_step}
use Rattle.cd_script.proofs.LineLemmas.{head_absent}
use Rattle.cd_script.proofs.script.head_of.Goals as goal

pub returns-in_err-version-clause-err : goal.returns-in_err-version-clause-err
returns-in_err-version-clause-err c =
    let p = err_from_is_err_and c.from_residual.result c.from_residual.ensures.1 in
    rw (p.1, p.2) (sym c.loop-text.invariant.0
    ∙ head_step c.loop-text.line c.in-Some.text.now _ c.next.new.self _ c.in-Some.ensures.steps
    (sym c.in_err-version.ensures))

pub returns-in-Some-2-clause-ok : goal.returns-in-Some-2-clause-ok
returns-in-Some-2-clause-ok c =
    sym c.loop-text.invariant.0
    ∙ head_step c.loop-text.line c.in-Some.text.now _ c.next.new.self _ c.in-Some.ensures.steps
    (sym (rw c.in-Some-2.is at c.in_ok-version.ensures))

pub loop-text-preserved : goal.loop-text-preserved
loop-text-preserved c = (
  sym (head_step c.loop-text.line c.in-Some.text.now _ c.next.new.self _ c.in-Some.ensures.steps
      (sym (rw c.in_default-2.is at c.in_ok-version.ensures))) ∙ c.loop-text.invariant.0,
  omega (arith, ap (λ (ls : List (List ℕ)). length ls) c.in-Some.ensures.steps),
)

pub returns-clause-err : goal.returns-clause-err
returns-clause-err c =
    sym c.loop-text.invariant.0 ∙ ap (script_from c.loop-text.line) c.in_default.ensures.steps.0
    ∙ head_absent c.loop-text.line
