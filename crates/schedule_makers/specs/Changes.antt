-- What the rule of priorities keeps, and what it compares.
use Rattle.std.specs.Prelude.{◌≡◌, ◌&&◌, nat_lt, ℕ, Bool, true, Option, Some, None, IfSome, if◌then◌else◌}
use Rattle.processor.specs.declared.steps.Step.{Step}
use Rattle.schedule_makers.specs.Priorities.{earlier_change, later_change, priority_of, is_above}
use Rattle.schedule_makers.specs.declared.priorities.Priorities.{Priorities}
use Rattle.schedule_makers.specs.declared.highest.Ranks.{Ranks}
use Rattle.schedule_makers.specs.declared.highest.Ranked.{Ranked}

-- The change points are those of the seed.
pub record HasChanges (p : Priorities) : Type 0 where
  pub earlier : p.earlier ≡ earlier_change p.seed p.fair_steps
  pub later : p.later ≡ later_change p.seed p.fair_steps

-- whether a priority is above that of the best so far
abbrev pub is_above_best : Option Ranked → ℕ → Bool
is_above_best None n = true
is_above_best (Some best) n = nat_lt best.priority n

-- the step of the best so far
abbrev pub step_of : Option Ranked → Option Step
step_of None = None
step_of (Some best) = Some best.step

-- the priority of a step's stream
abbrev pub rank_of : Ranks → Step → ℕ
rank_of ranks = priority_of ranks.seed ranks.later ranks.earlier

-- The best so far has the priority of its stream.
abbrev pub IsRanked : Ranks → Option Ranked → Type 0
IsRanked ranks best = IfSome best (λ b. b.priority ≡ rank_of ranks b.step)

-- a step, if it is above the best so far and passes; else the best so far
abbrev pub better : (Step → ℕ) → (Step → Bool) → Option Step → Step → Option Step
better rank free best t = if is_above rank best t && free t then Some t else best
