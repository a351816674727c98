-- The steps so far are made, the chooser knows them, and there are as many as the loop has counted.
use Rattle.std.proofs.Common.{◌≡◌, length}
use Rattle.schedule_makers.specs.Choosers.{rule_of, Follows}
use Rattle.schedule_makers.proofs.SoFar.{IsMaking}
use Rattle.schedule_makers.proofs.making.make.Given as goal

abbrev pub invariant-loop : goal.invariant-loop
invariant-loop g l = record {
  making : IsMaking (rule_of l.initial.chooser) l.initial.machine l.machine l.steps.items l.running.items l.is_able;
  rule : rule_of l.chooser ≡ rule_of l.initial.chooser;
  follows : Follows l.chooser l.steps.items;
  count : length l.steps.items ≡ l.counter;
}
