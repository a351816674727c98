-- the steps so far are taken, or wait among the others, the space has grown by them, and the machines are those of its
-- places
use Rattle.schedule_space.specs.Finding.{IsGrown, IsExpanding}
use Rattle.schedule_space.specs.Kept.{AreKeptAt}
use Rattle.schedule_space.proofs.Different.{HaveNoEdgesFrom, Waiting}
use Rattle.schedule_space.proofs.Taking.{AreTakenOrWait}
use Rattle.schedule_space.proofs.finding.Found.take_enough.Given as goal

abbrev pub invariant-loop-step : goal.invariant-loop-step
invariant-loop-step g l = record {
  grown : IsGrown l.fn.self l.self;
  expanding : IsExpanding l.self l.from l.most;
  waits : AreTakenOrWait l.self l.from l.others.items l.running l.step-index;
  new : HaveNoEdgesFrom l.self l.from l.running l.step-index;
  waiting : Waiting l.self l.from l.others.items l.running l.step-index;
  machines : AreKeptAt l.self l.machines l.from;
}
