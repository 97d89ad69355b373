use Rattle.std.proofs.Common.{◌≡◌, ◌+◌, List, ℕ, length, ap, arith, sym, ◌∙◌}
use Rattle.std.specs.Int.{from_bool}
use Rattle.std.specs.Option.{option_to_list}
use Rattle.std.proofs.lemmas.Result.{err_from_is_err_and}
use Rattle.cd_script.proofs.LineLemmas.{counted, counted-most, fault_here, fault_later, fault_none}
use Rattle.cd_script.proofs.script.check_lines.Goals as goal

pub returns-in_err-found : goal.returns-in_err-found
returns-in_err-found c =
    let p = err_from_is_err_and c.from_residual.result c.from_residual.ensures.1 in
    rw (p.1, p.2) (sym
    (fault_here c.args.head.version
    (c.loop-text.line + 1) c.loop-text.count _ c.loop-text.lines c.next.new.self _
    c.in-Some.ensures.steps (sym c.in_err-found.ensures)) ∙ c.loop-text.invariant.0)

pub loop-text-preserved : goal.loop-text-preserved
loop-text-preserved c =
    let more : c.from-count.result
    ≡ length (option_to_list c.in_ok-found.found) =
    c.from-count.ensures ∙ ap from_bool c.is_some.ensures ∙ counted c.in_ok-found.found in
    let most = counted-most c.in_ok-found.found in
    let later =
    fault_later c.args.head.version
    (c.loop-text.line + 1) c.loop-text.count _ c.loop-text.lines c.next.new.self _
    c.in-Some.ensures.steps (sym c.in_ok-found.ensures) in (
      rw more (sym later ∙ c.loop-text.invariant.0),
      omega (arith, ap (λ (ls : List (List ℕ)). length ls) c.in-Some.ensures.steps),
      omega arith,
    )

pub returns : goal.returns
returns c =
    sym (fault_none c.args.head.version
    (c.loop-text.line + 1) c.loop-text.count c.loop-text.lines c.in_default.ensures.steps.0)
    ∙ c.loop-text.invariant.0
