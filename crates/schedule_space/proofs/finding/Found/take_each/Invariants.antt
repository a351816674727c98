-- the steps so far are taken, the space has grown by them, and the machines are those of its places
use Rattle.std.proofs.Common.{◌≡◌, true}
use Rattle.std.specs.List.{Contains}
use Rattle.schedule_space.specs.Quiet.{IsSomeTakenLater}
use Rattle.processor.specs.declared.steps.Step.{Step}
use Rattle.schedule_space.specs.Finding.{IsGrown, IsExpanding, HasNoEdge}
use Rattle.schedule_space.specs.Kept.{AreKeptAt}
use Rattle.schedule_space.proofs.Different.{HaveNoEdgesFrom}
use Rattle.schedule_space.proofs.Taking.{AreTaken}
use Rattle.schedule_space.proofs.finding.Found.take_each.Given as goal

abbrev pub invariant-loop-place : goal.invariant-loop-place
invariant-loop-place g l = record {
  grown : IsGrown l.fn.self l.self;
  expanding : IsExpanding l.self l.from l.most;
  taken : AreTaken l.self l.from l.steps l.place;
  new : HaveNoEdgesFrom l.self l.from l.steps l.place;
  machines : AreKeptAt l.self l.machines l.from;
  later : l.is_later ≡ true → IsSomeTakenLater l.self l.from l.unseen;
  edges : (t : Step) → ¬ (Contains l.steps t) → HasNoEdge l.fn.self l.from t → HasNoEdge l.self l.from t;
}
