-- The shape of a command with each of its arguments, and of the program with each of its commands.
use Rattle.std.proofs.Common.{◌≡◌, ◌∙◌, ap, ap₂, append_assoc, false, List, [], ◌∷◌, ◌++◌, Ok, Err}
use Rattle.std.specs.Prelude.{IfOk, IsOkAnd, Result}
use Rattle.clap.specs.Words.{App, Rule, Shape, app_of, shape_of, with_subcommand}
use Rattle.clap.specs.declared.builder.command.Command.{Command}
use Rattle.clap.specs.declared.builder.command.Command.TheViews.{out-Command}
use Rattle.cd_args.specs.Arguments.{with_rule, with_rules}

module _ {E : Type 0} where
  -- if there is a command, it has this shape and no global argument
  abbrev pub IsMade : Result Command E → Shape → Type 0
  IsMade made s =
      IfOk made (λ c. shape_of c ≡ s) × IfOk made (λ c. (out-Command c).has_globals ≡ false)

  -- if there is a command, it has further arguments after those of the command before
  abbrev pub Extends : Result Command E → Result Command E → List Rule → Type 0
  Extends was made more =
      IfOk made (λ c. IsOkAnd was (λ w. shape_of c ≡ with_rules (shape_of w) more))
      × IfOk made (λ c. IsOkAnd was (λ w. (out-Command c).has_globals ≡ (out-Command w).has_globals))

  pub extends-by : (was made : Result Command E) {a b : Rule}
      → IfOk made (λ c. IsOkAnd was (λ w. shape_of c ≡ with_rule (shape_of w) a))
      → IfOk made (λ c.
      IsOkAnd was (λ w. (out-Command c).has_globals ≡ (out-Command w).has_globals))
      → a ≡ b → Extends was made (b ∷ [])
  extends-by (Ok w) (Ok c) shape local same = (shape ∙ ap (with_rule (shape_of w)) same, local)
  extends-by (Err e) (Ok c) shape local same = absurd shape
  extends-by was (Err e) shape local same = (tt, tt)

  pub extends-then : (was middle made : Result Command E) (first second : List Rule)
      → Extends was middle first → Extends middle made second
      → Extends was made (first ++ second)
  extends-then (Ok w) (Ok m) (Ok c) first second before after = (
    after.0 ∙ ap (λ s. with_rules s second) before.0
        ∙ ap (λ (rules : List Rule). record (shape_of w) { rules = rules })
        (append_assoc (shape_of w).rules first second),
    after.1 ∙ before.1,
  )
  extends-then (Err e) (Ok m) (Ok c) first second before after = absurd before.0
  extends-then was (Err e) (Ok c) first second before after = absurd after.0
  extends-then was middle (Err e) first second before after = (tt, tt)

  pub made-with : (was made : Result Command E) (s : Shape) (more : List Rule) → IsMade was s
      → Extends was made more → IsMade made (with_rules s more)
  made-with (Ok w) (Ok c) s more before extends =
      (extends.0 ∙ ap (λ s. with_rules s more) before.0, extends.1 ∙ before.1)
  made-with (Err e) (Ok c) s more before extends = absurd extends.0
  made-with was (Err e) s more before extends = (tt, tt)

  pub app-with : (was sub made : Result Command E) (a : App) (s : Shape)
      → IfOk was (λ c. app_of c ≡ a) → IfOk sub (λ c. shape_of c ≡ s)
      → IfOk made (λ c.
      IsOkAnd was (λ w. IsOkAnd sub (λ b. app_of c ≡ with_subcommand (app_of w) (shape_of b))))
      → IfOk made (λ c. app_of c ≡ with_subcommand a s)
  app-with (Ok w) (Ok b) (Ok c) a s before middle after = after ∙ ap₂ with_subcommand before middle
  app-with (Ok w) (Err e) (Ok c) a s before middle after = absurd after
  app-with (Err e) sub (Ok c) a s before middle after = absurd after
  app-with was sub (Err e) a s before middle after = tt
