use Rattle.std.proofs.Common.{◌≡◌, Err, subst, sym, ap, ◌∙◌}
use Rattle.std.proofs.lemmas.Result.{err_from_is_err_and}
use Rattle.cd_script.specs.declared.fault.ScriptFault.{ScriptFault}
use Rattle.cd_script.specs.Patch.{IsPatchList}
use Rattle.cd_script.specs.Script.{script_from}
use Rattle.cd_script.proofs.general.Lines.{lines-is}
use Rattle.cd_script.proofs.ParseLemmas.{no_fault, order-list, script-rest}
use Rattle.cd_script.proofs.script.parse.Goals as goal

pub returns-in_err-head : goal.returns-in_err-head
returns-in_err-head c =
    let p = err_from_is_err_and c.from_residual.result c.from_residual.ensures.1 in
    let known =
    ap (script_from 1) (sym (c.lines-lines.ensures.value ∙ lines-is c.args.text.now))
    ∙ c.in_err-head.ensures.err in
    rw (p.1, p.2) (record { ok = tt; err = λ _. known; refused = λ e is. sym known ∙ is })

pub returns-in_err-patches : goal.returns-in_err-patches
returns-in_err-patches c =
    let p =
    err_from_is_err_and c.from_residual-in_err-patches.result
    c.from_residual-in_err-patches.ensures.1 in
    let known =
    script-rest _ c.args.text.now c.as_bytes.result.now _ _ _ c.lines-lines.ensures.value
    c.in_ok-head.ensures.ok c.as_bytes.ensures in
    rw (p.1, p.2) (record {
      ok = tt;
      err = λ other. known ∙ c.in_err-patches.ensures.err other;
      refused = λ e is.
          let same : c.in_err-patches.field-0.0 ≡ e =
          cc (c.in_err-patches.ensures.refused e (sym known ∙ is)) in
          ap (λ (f : ScriptFault). Err f) same;
    })

pub returns-in_err-put_in_order-clause-refused : goal.returns-in_err-put_in_order-clause-refused
returns-in_err-put_in_order-clause-refused c =
    let known =
    script-rest _ c.args.text.now c.as_bytes.result.now _ _ _ c.lines-lines.ensures.value
    c.in_ok-head.ensures.ok c.as_bytes.ensures in
    λ e is. absurd (no_fault _ _ e (known ∙ c.in_ok-patches.ensures.ok) is)

pub invariant_of-result : goal.invariant_of-result
invariant_of-result c =
    let known =
    script-rest _ c.args.text.now c.as_bytes.result.now _ _ _ c.lines-lines.ensures.value
    c.in_ok-head.ensures.ok c.as_bytes.ensures in
    subst IsPatchList (sym c.in_ok-put_in_order.ensures)
    (order-list _ _ (known ∙ c.in_ok-patches.ensures.ok))

pub returns : goal.returns
returns c =
    let known =
    script-rest _ c.args.text.now c.as_bytes.result.now _ _ _ c.lines-lines.ensures.value
    c.in_ok-head.ensures.ok c.as_bytes.ensures in
    record {
      ok = (_, known ∙ c.in_ok-patches.ensures.ok, c.in_ok-put_in_order.ensures);
      err = tt;
      refused = λ e is. absurd (no_fault _ _ e (known ∙ c.in_ok-patches.ensures.ok) is);
    }
