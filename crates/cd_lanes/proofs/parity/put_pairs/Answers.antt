use Rattle.std.proofs.Common.{◌+◌, inl, inr, arith, ◌∙◌}
use Rattle.cd_lanes.proofs.parity.put_pairs.Goals as goal

pub returns : goal.returns
returns c =
    let first = c.put_lanes.ensures in
    let second = c.put_lanes-2.ensures in
    let at = c.args.at in
    record {
      pairs = λ i h.
          rw (second.outside (at + i) (inl (omega arith)), first.inside i h, second.inside i h)
          (c.pairs.ensures i h);
      before = λ k h. second.outside k (inl (omega arith)) ∙ first.outside k (inl h);
      between = λ k h g. second.outside k (inl g) ∙ first.outside k (inr h);
      after = λ k h. second.outside k (inr h) ∙ first.outside k (inr (omega arith));
    }
