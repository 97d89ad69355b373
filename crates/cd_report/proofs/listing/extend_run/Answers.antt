use Rattle.std.proofs.Common.{refl, rules, sym}
use Rattle.std.proofs.lemmas.Result.{err_from_is_err_and}
use denote.Enum.Bare.{same_false, same_true}
use Rattle.cd_sector.specs.contracts.kinds.SectorKind.{the_type}
use Rattle.cd_report.proofs.OpenRunLemmas.{ExtendsRun-failed, ExtendsRun-other, ExtendsRun-same}
use Rattle.cd_report.proofs.listing.extend_run.Goals as goal

pub returns-then-eq-clause-text : goal.returns-then-eq-clause-text
returns-then-eq-clause-text g c =
    let same =
    same_true the_type (search rules) c.in-Some.open_run.kind c.args.kind (sym c.if-eq.ensures) in (
      _,
      refl,
      ExtendsRun-same c.args.run.now c.in-Some.open_run c.in-Some.is c.args.block c.args.kind
          c.requires.follows (g.O.Sink.seen c.args.out.now) same,
    )

pub returns-in_err-send_run-clause-text : goal.returns-in_err-send_run-clause-text
returns-in_err-send_run-clause-text g c =
    let other = same_false the_type c.in-Some.open_run.kind c.args.kind (sym c.if-eq.ensures) in
    let failed = err_from_is_err_and c.from_residual.result c.from_residual.ensures.1 in
    rw failed.1 (
      sym c.in-Some.is,
      ExtendsRun-failed c.args.run.now c.in-Some.open_run c.in-Some.is c.args.block c.args.kind
          c.requires.follows (g.O.Sink.seen c.args.out.now)
          (g.O.Sink.seen c.send_run.new.out) other c.in_err-send_run.ensures.taken,
    )

pub returns-in_ok-send_run-clause-text : goal.returns-in_ok-send_run-clause-text
returns-in_ok-send_run-clause-text g c =
    let other = same_false the_type c.in-Some.open_run.kind c.args.kind (sym c.if-eq.ensures) in (
      _,
      refl,
      ExtendsRun-other c.args.run.now c.in-Some.open_run c.in-Some.is c.args.block c.args.kind
          c.requires.follows (g.O.Sink.seen c.args.out.now)
          (g.O.Sink.seen c.send_run.new.out) other c.in_ok-send_run.ensures.taken,
    )
