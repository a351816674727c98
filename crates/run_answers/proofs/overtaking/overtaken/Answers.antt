use Rattle.std.proofs.Common.{◌≡◌, rules, subst, false}
use Rattle.std.specs.List.{list_any}
use Rattle.starving_streams.specs.ScheduleSpace.Spaces.{count}
use Rattle.fair_rounds.specs.declared.entries.EntriesAnswer.TheVariants as found
use Rattle.fair_rounds.specs.Entries.{Enters, IsEntriesAnswer}
use Rattle.run_answers.specs.Waiting.{AreWaitingMarks, steps_elsewhere, IsShownAfter}
use Rattle.run_answers.proofs.Overtakings.{targets_by, shown_as, bounded_by}
use Rattle.run_answers.proofs.overtaking.overtaken.Goals as goal

pub returns-in-Found-clause-is : goal.returns-in-Found-clause-is
returns-in-Found-clause-is g c = λ plain rests is.
    let v = c.args.space.now in
    let graph = c.args.graph.now in
    let asked = c.args.asked.now in
    let waits = c.in_ok-marks.marks.waits.items in
    let inside = c.in_ok-marks.marks.inside.items in
    let begins = c.in_ok-begins.begins.items in
    let way = c.in-Found.way in
    let are : AreWaitingMarks v asked (count v) waits inside = search rules in
    let enters : Enters graph.edges.items waits begins inside asked.most way = search rules in
    let shown : IsShownAfter v graph.edges.items waits asked.who way c.in_ok-overtaking_run-in-Found.field-0 = search rules in
    shown_as v graph plain rests is asked waits inside are begins way enters c.in_ok-overtaking_run-in-Found.field-0 shown

pub returns-in-Absent-clause-is : goal.returns-in-Absent-clause-is
returns-in-Absent-clause-is g c = λ plain rests is.
    let v = c.args.space.now in
    let graph = c.args.graph.now in
    let asked = c.args.asked.now in
    let waits = c.in_ok-marks.marks.waits.items in
    let inside = c.in_ok-marks.marks.inside.items in
    let begins = c.in_ok-begins.begins.items in
    let are : AreWaitingMarks v asked (count v) waits inside = search rules in
    let given : IsEntriesAnswer graph.edges.items waits begins inside asked.most c.in_ok-way.field-0 = search rules in
    let few : IsEntriesAnswer graph.edges.items waits begins inside asked.most found.Absent =
    subst (IsEntriesAnswer graph.edges.items waits begins inside asked.most) c.in-Absent.is given in
    let none : list_any (steps_elsewhere waits begins asked.who) graph.edges.items ≡ false = search rules in
    bounded_by v graph plain rests is asked waits inside are begins (targets_by graph.edges.items waits begins asked.who none) few
