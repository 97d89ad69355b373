use Rattle.std.proofs.Common.{ap, arith, length, ◌∙◌}
use Rattle.std.proofs.lemmas.Result.{err_from_is_err_and}
use Rattle.cd_image.proofs.AdvanceLemmas.{bounds}
use Rattle.cd_image.proofs.PassingLemmas.{Going-start}
use Rattle.cd_image.proofs.applying.apply_patches.Goals as goal

pub loop-more-init : goal.loop-more-init
loop-more-init g c =
    let new = c.new-run.ensures in
    record {
      goes = rw (new.decided, new.block, new.sectors, new.applied, new.held, new.stage) (Going-start _ _ _ _);
      sound = new.sound;
      places = ap length c.as_mut_slice-hand.ensures.value ∙ ap length c.from-places.ensures.0;
      known = omega (arith, new.decided);
      applied = omega (arith, new.applied);
      done = λ never. cc;
    }

pub advance-requires : goal.advance-requires
advance-requires g c =
    let b = bounds c.loop-more.run _ c.requires.base c.loop-more.invariant.goes in
    record {
      image_countable = omega (arith, b.reads);
      out_countable = omega (arith, b.writes);
      log_countable = omega (arith, b.logs);
      patches = c.requires.patches;
      sound = c.loop-more.invariant.sound;
      places = omega (arith, c.loop-more.invariant.places);
      small = omega (arith, b.block);
      applied = c.loop-more.invariant.applied;
    }

pub returns-in_err-more : goal.returns-in_err-more
returns-in_err-more g c =
    let failed =
    err_from_is_err_and c.from_residual.result c.from_residual.ensures.1 in
    rw (failed.1, failed.2) (c.in_err-more.ensures.goes _ _ c.loop-more.invariant.goes)

pub loop-more-smaller : goal.loop-more-smaller
loop-more-smaller g c =
    rw c.loop-more-test.true (omega (arith, c.in_ok-more.ensures.nearer))

pub loop-more-preserved : goal.loop-more-preserved
loop-more-preserved g c = record {
  goes =
      c.in_ok-more.ensures.goes _ _ c.loop-more.invariant.goes;
  sound = c.in_ok-more.ensures.sound;
  places = c.in_ok-more.ensures.places ∙ c.loop-more.invariant.places;
  known = c.in_ok-more.ensures.known c.loop-more.invariant.known;
  applied = c.in_ok-more.ensures.applied;
  done = λ ended.
      c.in_ok-more.ensures.done ended _ _ c.loop-more.invariant.goes;
}

pub close-requires : goal.close-requires
close-requires g c =
    let b = bounds c.loop-more.run _ c.requires.base c.loop-more.invariant.goes in
    record {
      out_countable = omega (arith, b.writes);
      log_countable = omega (arith, b.logs);
      count = c.requires.patches.count;
      sound = c.loop-more.invariant.sound;
      places = omega (arith, c.loop-more.invariant.places);
      done = c.loop-more.invariant.done c.loop-more-test.false;
      known = c.loop-more.invariant.known;
      applied = c.loop-more.invariant.applied;
    }

pub returns : goal.returns
returns g c =
    c.close.ensures c.args.carry _ _ _ c.loop-more.invariant.goes
