use Rattle.std.proofs.Common.{ap, arith, map, ◌∙◌}
use Rattle.cd_report.specs.ListText.{run_lines}
use Rattle.cd_report.specs.Runs.{runs}
use Rattle.cd_c.specs.Survey.{kind_in, lines_in}
use Rattle.cd_c.proofs.SurveyLemmas.{kind_in-survey, kinds-survey, lines_in-survey, survey-all, survey-more}
use Rattle.cd_c.proofs.surveying.cdpatch_survey.Goals as goal

pub loop-i-preserved : goal.loop-i-preserved
loop-i-preserved c = survey-more c.args.block c.loop-i.i c.args.sectors.now c.args.records.now c.loop-i.records c.index-sectors-i.result c.record_of.result c.loop-i.invariant
    c.record_of.ensures c.index-sectors-i.is c.loop-i-test.true (omega arith)

pub returns-clause-records : goal.returns-clause-records
returns-clause-records c = λ e.
    c.loop-i.invariant
    ∙ survey-all c.args.block c.args.sectors.now c.args.records.now c.loop-i.i c.loop-i-test.false
    (omega arith)

pub returns-clause-kinds : goal.returns-clause-kinds
returns-clause-kinds c = λ e.
    ap (map (λ r. r.kind))
    (c.loop-i.invariant
    ∙ survey-all c.args.block c.args.sectors.now c.args.records.now c.loop-i.i c.loop-i-test.false
    (omega arith))
    ∙ kinds-survey c.args.block c.args.sectors.now

pub returns-clause-runs : goal.returns-clause-runs
returns-clause-runs c = λ e.
    ap (λ kinds. run_lines c.args.block (runs kinds))
    (ap (map kind_in)
    (c.loop-i.invariant
    ∙ survey-all c.args.block c.args.sectors.now c.args.records.now c.loop-i.i c.loop-i-test.false
    (omega arith))
    ∙ kind_in-survey c.args.block c.args.sectors.now)

pub returns-clause-lines : goal.returns-clause-lines
returns-clause-lines c = λ e.
    ap (lines_in c.args.block)
    (c.loop-i.invariant
    ∙ survey-all c.args.block c.args.sectors.now c.args.records.now c.loop-i.i c.loop-i-test.false
    (omega arith))
    ∙ lines_in-survey c.args.block c.args.sectors.now
