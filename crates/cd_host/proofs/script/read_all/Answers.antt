use Rattle.std.proofs.Common.{◌≡◌, [], ap, arith, nat_eq, refl, subst, take, ◌∙◌, append-nil}
use Rattle.std.proofs.lemmas.Bool.{ne_eqb}
use Rattle.std.proofs.Math.ListN.{length-take}
use Rattle.cd_stream.specs.Transfer.{Gives}
use Rattle.cd_stream.proofs.TransferLemmas.{Gives-front, Gives-trans}
use Rattle.cd_host.specs.declared.script.LoadFault.TheVariants.{TooLong}
use Rattle.cd_host.proofs.ScriptLemmas.{Gathers-refused, Gathers-stopped, length-with_last}
use Rattle.cd_host.proofs.script.read_all.Goals as goal

pub returns-then-n-eq0 : goal.returns-then-n-eq0
returns-then-n-eq0 g c =
    let before = c.loop-bytes.invariant in
    let came = c.in_ok-n.ensures.bytes in
    let none : c.in_ok-n.n ≡ 0 = omega arith in
    let middle = g.I.Source.seen c.loop-bytes.file in
    let after = g.I.Source.seen c.read.new.self in
    let last = subst (λ n. Gives middle after (take n c.read.new.into)) none
    (Gives-front middle after c.in_ok-n.n c.read.new.into came.0 came.1 c.in_ok-n.ensures.given) in
    record {
      read = c.loop-bytes.bytes.items;
      gives =
          subst (Gives _ _) (append-nil _)
          (Gives-trans _ _ _ c.loop-bytes.bytes.items [] before.given last);
      answers = (
        refl,
        record {
          reads = c.in_ok-n.ensures.count ∙ before.counted;
          at_end = came.2 none;
          ended = c.in_ok-n.ensures.ended ∙ ap (λ k. nat_eq k 0) none;
          within = before.within;
        },
      );
    }

pub returns-then-n-left : goal.returns-then-n-left
returns-then-n-left g c =
    let before = c.loop-bytes.invariant in
    let came = c.in_ok-n.ensures.bytes in
    let count = length-with_last c.loop-bytes.bytes.items c.read.new.into c.in_ok-n.n came.0 in
    let room = length-take c.min-room.result c.loop-bytes.chunk in
    Gathers-stopped _ _ (g.I.Source.seen c.loop-bytes.file) _ TooLong
    c.loop-bytes.bytes.items (take c.in_ok-n.n c.read.new.into) before.given
    (Gives-front _ _ c.in_ok-n.n c.read.new.into came.0 came.1 c.in_ok-n.ensures.given) (
      c.in_ok-n.ensures.count ∙ before.counted,
      c.in_ok-n.ensures.ended ∙ ne_eqb c.in_ok-n.n 0 c.if-n-eq0.false,
      omega (arith, count, came.0, room),
    )

pub returns-in_err-extend_from_slice : goal.returns-in_err-extend_from_slice
returns-in_err-extend_from_slice g c =
    let before = c.loop-bytes.invariant in
    let came = c.in_ok-n.ensures.bytes in
    let count = length-with_last c.loop-bytes.bytes.items c.read.new.into c.in_ok-n.n came.0 in
    Gathers-refused _ _ (g.I.Source.seen c.loop-bytes.file) _ _
    c.loop-bytes.bytes.items (take c.in_ok-n.n c.read.new.into)
    c.from_residual-in_err-extend_from_slice.ensures.1
    before.given
    (Gives-front _ _ c.in_ok-n.n c.read.new.into came.0 came.1 c.in_ok-n.ensures.given) (
      c.in_ok-n.ensures.count ∙ before.counted,
      c.in_ok-n.ensures.ended ∙ ne_eqb c.in_ok-n.n 0 c.if-n-eq0.false,
      omega (arith, count, came.0),
    )
