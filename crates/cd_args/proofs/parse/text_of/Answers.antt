use Rattle.std.proofs.Common.{◌≡◌, ◌∙◌, ap, subst, sym, Option, Some, None, refl}
use Rattle.std.specs.Prelude.{IsSome, option_map}
use Rattle.std.proofs.lemmas.Result.{IfOk-weaker}
use Rattle.clap.specs.Words.{Text, first_of, found_of, rows_of}
use Rattle.clap.proofs.WalkLemmas.{first_value-rows}
use Rattle.cd_args.proofs.parse.text_of.Goals as goal

-- there is a value if it is mapped to a value
IsSome-from_map : {X Y : Type 0} (f : X → Y) (o : Option X) (r : Option Y) → option_map f o ≡ r
    → IsSome r → IsSome o
IsSome-from_map f None r e h = subst IsSome (sym e) h
IsSome-from_map f (Some x) r e h = refl

pub unwrap-text-requires : goal.unwrap-text-requires
unwrap-text-requires c =
    IsSome-from_map (λ s. s.now) c.get_str.result _
    (c.get_str.ensures ∙ first_value-rows (found_of c.args.matches.now) (c.args.id.now)) c.requires

pub returns : goal.returns
returns c =
    let read : first_of (c.args.id.now) (rows_of (found_of c.args.matches.now))
    ≡ Some c.unwrap-text.result.now =
    sym (first_value-rows (found_of c.args.matches.now) (c.args.id.now))
    ∙ (sym c.get_str.ensures ∙ ap (option_map (λ s. s.now)) c.unwrap-text.ensures) in
    IfOk-weaker c.from_str.result _ _
    (λ text is. read ∙ ap (λ (t : Text). Some t) (sym is)) c.from_str.ensures.ok
