use Rattle.std.proofs.Common.{arith, sym, ◌≡◌, ◌+◌, ◌≤◌, subst}
use Rattle.std.specs.Prelude.{All}
use Rattle.std.proofs.lemmas.List.Elements.{All-nil}
use Rattle.cd_script.specs.PatchForm.{Patch}
use Rattle.cd_run.proofs.RunningLemmas.{rises_from}
use Rattle.cd_run.proofs.run.PatchRun.next.Goals as goal

pub returns-in-None-clause-next : goal.returns-in-None-clause-next
returns-in-None-clause-next c =
    rw c.in-None.is
    (λ left is rising from.
    c.next_between.ensures.next left
    (subst (All (λ (p : Patch). c.args.self.now.block + 4294967295 ≤ p.block)) (sym is)
    (All-nil (λ (p : Patch). c.args.self.now.block + 4294967295 ≤ p.block)))
    (λ closed. is))

pub returns-then-first-self-2-clause-next : goal.returns-then-first-self-2-clause-next
returns-then-first-self-2-clause-next c =
    rw c.in-Some.is
    (λ left is rising from.
    let rises = rises_from left is.1 is.0 is.2 rising in
    c.next_between-then-first-self-2.ensures.next left
    (λ k d inside. omega (arith, rises k d inside, is.3, c.if-first-self-2.true))
    (λ closed. absurd (omega (arith, closed, c.if-self-eq-CLOSED.false))))

pub returns-else-first-self-2-clause-next : goal.returns-else-first-self-2-clause-next
returns-else-first-self-2-clause-next c =
    rw c.in-Some.is
    (λ left is rising from.
    let at : is.0.block ≡ c.args.self.now.block = omega (arith, is.3, c.if-first-self-2.false, c.if-first-self.false) in
    c.next_at_front.ensures.next left is.1 is.0 is.2 at (is.4 at)
    (λ k d inside. omega (arith, rises_from left is.1 is.0 is.2 rising k d inside, at)))
