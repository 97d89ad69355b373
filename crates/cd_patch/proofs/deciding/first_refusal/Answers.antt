use Rattle.std.proofs.Common.{◌≡◌, suc, ◌+◌, ◌-◌, ap, sym, ◌∙◌, below_more, arith}
use Rattle.std.specs.Prelude.{is_some}
use Rattle.std.proofs.lemmas.Bool.{false≢true}
use Rattle.cd_patch.specs.Deciding.{first_refusal}
use Rattle.cd_patch.proofs.DecidingLemmas.{either-none, either-some, first_refusal-at, none-not_some}
use Rattle.cd_patch.proofs.deciding.first_refusal.Goals as goal

pub loop-k-init : goal.loop-k-init
loop-k-init c = (
  λ count whole.
      let here : c.args.block ≡ c.args.block + 0 = omega arith in
      let all : c.args.count ≡ count = omega arith in
      ap (λ n. first_refusal c.args.sectors.now c.args.block c.args.must_be_consistent c.args.block n) all
      ∙ ap (λ b. first_refusal c.args.sectors.now c.args.block c.args.must_be_consistent b count) here,
  λ k below. absurd (omega arith),
)

pub loop-k-preserved : goal.loop-k-preserved
loop-k-preserved c =
    let none =
    none-not_some c.refusal_at-refusal.result (sym c.is_some.ensures ∙ c.if-is_some.false) in (
      λ count whole.
          c.loop-k.invariant.0 (suc count) (omega arith)
          ∙ first_refusal-at c.args.sectors.now c.args.block c.args.must_be_consistent c.loop-k.k
          count _ _ _ c.refusal_at-refusal.ensures.refusal (omega arith) (omega arith)
          ∙ either-none c.refusal_at-refusal.result _ none,
      below_more _ _ c.loop-k.invariant.1 (c.refusal_at-refusal.ensures.user none),
    )

pub returns-then-is_some-clause-refusal : goal.returns-then-is_some-clause-refusal
returns-then-is_some-clause-refusal c =
    let count = c.args.count - c.loop-k.k - 1 in
    sym (c.loop-k.invariant.0 (suc count) (omega (arith, c.loop-k-test.true))
    ∙ first_refusal-at c.args.sectors.now c.args.block c.args.must_be_consistent c.loop-k.k
    count _ _ _ c.refusal_at-refusal.ensures.refusal (omega arith) (omega arith)
    ∙ either-some c.refusal_at-refusal.result _ (sym c.is_some.ensures ∙ c.if-is_some.true))

pub returns-then-is_some-clause-users : goal.returns-then-is_some-clause-users
returns-then-is_some-clause-users c = λ none.
    absurd (false≢true (ap is_some (sym none) ∙ sym c.is_some.ensures ∙ c.if-is_some.true))

pub returns-clause-refusal : goal.returns-clause-refusal
returns-clause-refusal c = sym (c.loop-k.invariant.0 0 (omega (arith, c.loop-k-test.false)))

pub returns-clause-users : goal.returns-clause-users
returns-clause-users c = λ none k below. c.loop-k.invariant.1 k (omega (arith, c.loop-k-test.false))
