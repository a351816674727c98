use Rattle.std.proofs.Common.{rules, subst}
use Rattle.starving_streams.specs.ScheduleSpace.Spaces.{count}
use Rattle.fair_rounds.specs.declared.lassos.LassoAnswer.TheVariants as answer
use Rattle.fair_rounds.specs.Lassos.{IsLasso, IsLassoAnswer}
use Rattle.run_answers.specs.Marks.{standings_for, AreConditionMarks, IsShownAs}
use Rattle.run_answers.proofs.Runs.{shown_as, leads_by}
use Rattle.run_answers.proofs.deciding.leads_to.Goals as goal

pub returns-in-Found-clause-is : goal.returns-in-Found-clause-is
returns-in-Found-clause-is g c = λ plain rests is.
    let v = c.args.space.now in
    let graph = c.args.graph.now in
    let within = c.in_ok-marks.marks.within.items in
    let begins = c.in_ok-marks.marks.begins.items in
    let lasso = c.in-Found.lasso in
    let are : AreConditionMarks v c.args.asked.now (count v) within begins = search rules in
    let found : IsLasso graph.edges.items (standings_for c.args.fairness graph.dues.items) within begins lasso = search rules in
    let shown : IsShownAs v lasso c.in_ok-evading_run-in-Found.field-0 = search rules in
    shown_as v graph plain rests is c.args.fairness c.args.asked.now within begins are lasso found c.in_ok-evading_run-in-Found.field-0 shown

pub returns-in-Absent-clause-is : goal.returns-in-Absent-clause-is
returns-in-Absent-clause-is g c = λ plain rests is.
    let v = c.args.space.now in
    let graph = c.args.graph.now in
    let within = c.in_ok-marks.marks.within.items in
    let begins = c.in_ok-marks.marks.begins.items in
    let are : AreConditionMarks v c.args.asked.now (count v) within begins = search rules in
    let given : IsLassoAnswer graph.edges.items (standings_for c.args.fairness graph.dues.items) within begins c.in_ok-lasso.field-0 = search rules in
    let none : IsLassoAnswer graph.edges.items (standings_for c.args.fairness graph.dues.items) within begins answer.Absent =
    subst (IsLassoAnswer graph.edges.items (standings_for c.args.fairness graph.dues.items) within begins) c.in-Absent.is given in
    leads_by v graph plain rests is c.args.fairness c.args.asked.now within begins are none
