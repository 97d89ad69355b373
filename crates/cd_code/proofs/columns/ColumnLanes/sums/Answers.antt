use Rattle.cd_code.specs.Syndrome.{first_syndrome, second_syndrome}
use Rattle.cd_code.proofs.ColumnLemmas.{put_thrice}
use Rattle.cd_code.proofs.columns.ColumnLanes.sums.Goals as goal

pub returns : goal.returns
returns c = λ word are n h.
    let self = c.args.self in (
      put_thrice c.zero-sums.result.plain c.put_lanes.new.bytes c.put_lanes-2.new.bytes
          c.put_lanes-3.new.bytes
          self.front.plain self.middle.plain self.back.plain
          c.put_lanes.ensures.inside c.put_lanes-2.ensures.inside c.put_lanes-2.ensures.outside
          c.put_lanes-3.ensures.inside c.put_lanes-3.ensures.outside
          (λ k. first_syndrome (word k)) are.front.plain are.middle.plain are.back.plain n h,
      put_thrice c.zero-sums.result.weighted c.put_lanes-4.new.bytes c.put_lanes-5.new.bytes
          c.put_lanes-6.new.bytes
          self.front.weighted self.middle.weighted self.back.weighted
          c.put_lanes-4.ensures.inside c.put_lanes-5.ensures.inside c.put_lanes-5.ensures.outside
          c.put_lanes-6.ensures.inside c.put_lanes-6.ensures.outside
          (λ k. second_syndrome
          (word k)) are.front.weighted are.middle.weighted are.back.weighted n h,
    )
