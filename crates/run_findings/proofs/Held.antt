-- Two words that hold what was read.
use Rattle.std.proofs.Common.{◌≡◌, ℕ, ◌==◌, true, ◌&&◌, ◌||◌, ap, List, [], ◌∷◌}
use Rattle.run_findings.specs.Pairs.{value_past, are_at_once}
use Rattle.run_findings.specs.declared.actions.Action.{Action}

-- where they do at once
pub at_once_now : (a b v w x y : ℕ) (ds : List Action) → (x == v && y == w) ≡ true
    → are_at_once a b v w x y ds ≡ true
at_once_now a b v w x y [] same = same
at_once_now a b v w x y (d ∷ ds) same =
    ap (λ t. t || are_at_once a b v w (value_past a x d.access) (value_past b y d.access) ds) same
