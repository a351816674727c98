-- The points of cases, one after the other.
use Rattle.std.proofs.Common.{◌≡◌, ◌+◌, ◌-◌, ◌^◌, ◌<◌, ◌≤◌, ℕ, List, [], ◌∷◌, length, min, arith}
use Rattle.grade_reports.specs.Scores.{earned_points, unscored_points}
use Rattle.grade_rows.specs.declared.rows.CaseRow.{CaseRow}
use Rattle.lab_requests.specs.declared.requests.Undecided.{Undecided}

-- no case is left to earn by
pub at_end : (u : Undecided) (rest : List CaseRow) (earned total : ℕ) → length rest < 1 → earned ≤ 2 ^ 64 - 1
    → min (earned + earned_points u rest) (2 ^ 64 - 1) ≡ min total (2 ^ 64 - 1) → earned ≡ min total (2 ^ 64 - 1)
at_end u [] earned total short within same = omega (arith, within, same)
at_end u (c ∷ rest) earned total short within same = absurd (omega (arith, short))

-- no case is left that may have no score
pub at_end_unscored : (u : Undecided) (rest : List CaseRow) (unscored total : ℕ) → length rest < 1 → unscored ≤ 2 ^ 64 - 1
    → min (unscored + unscored_points u rest) (2 ^ 64 - 1) ≡ min total (2 ^ 64 - 1) → unscored ≡ min total (2 ^ 64 - 1)
at_end_unscored u [] unscored total short within same = omega (arith, within, same)
at_end_unscored u (c ∷ rest) unscored total short within same = absurd (omega (arith, short))
