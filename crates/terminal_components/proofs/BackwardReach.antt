-- The places that can reach given ones.
use Rattle.std.proofs.Common.{◌≡◌, ℕ, sym, ◌∙◌, subst, arith, List, Bool, length}
use Rattle.terminal_components.specs.declared.links.Link.{Link}
use Rattle.terminal_components.specs.Ways.{Reaches}
use Rattle.terminal_components.specs.Reachability.{AreBackwardReachable}
use Rattle.terminal_components.specs.ReachMarks.{AreSpreadMarks, AreGoalMarks, AreMarkBits}
use Rattle.terminal_components.proofs.Ways.{way_inside}

pub leading_by : (n : ℕ) (links : List Link) (goals old new : List ℕ) (are : List Bool) → AreGoalMarks n goals old
    → AreSpreadMarks links old new → AreMarkBits new are → AreBackwardReachable n links goals are
leading_by n links goals old new are marks spread read = record {
  many = read.many ∙ many;
  sound = λ k below marked.
      let to = spread.found k (omega (arith, below, marks.many)) ((read.each k (omega (arith, below, many))).0 marked) in (
        to.0,
        marks.found to.0 (omega (arith, to.1, marks.many)) to.2,
        subst (λ (m : ℕ). Reaches m links k to.0) marks.many to.3,
      );
  all = λ k below reaches.
      let inside = way_inside n links reaches.2.0 k reaches.0 below reaches.2.1 in
      (read.each k (omega (arith, below, many))).1
      (spread.all k reaches.0 (omega (arith, below, marks.many)) (marks.all reaches.0 inside reaches.1)
      (subst (λ (m : ℕ). Reaches m links k reaches.0) (sym marks.many) reaches.2));
} where
  many : length new ≡ n
  many = spread.many ∙ marks.many
