-- The parts of what begins at one place and ends at another, all of one size but for the last.
use Rattle.std.specs.Prelude.{ℕ, ◌+◌, ◌*◌, min, List, Vec}
use Rattle.std.specs.List.{flat_map}
use Rattle.std.specs.Global.{Global}
use Rattle.seed_outcomes.specs.declared.outcomes.SeedOutcome.{SeedOutcome}

-- where a part begins
abbrev pub part_begin : ℕ → ℕ → ℕ → ℕ → ℕ
part_begin begin end size part = min (begin + part * size) end

-- where it ends
abbrev pub part_end : ℕ → ℕ → ℕ → ℕ → ℕ
part_end begin end size part = min (part_begin begin end size part + size) end

-- the outcomes of all parts
abbrev pub all_outcomes : List (Vec SeedOutcome Global) → List SeedOutcome
all_outcomes parts = flat_map (λ (part : Vec SeedOutcome Global). part.items) parts
