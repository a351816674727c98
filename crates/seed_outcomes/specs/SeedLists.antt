-- The seeds of a survey.
use Rattle.std.specs.Prelude.{ℕ, zero, suc, ◌+◌, ◌-◌, List, [], ◌∷◌}
use Rattle.space_ends.specs.SeedVerdicts.Seeds.{seed_at}

-- so many seeds from a place on, of those that begin with the first; after the greatest seed comes 0
abbrev pub seeds_from : ℕ → ℕ → ℕ → List ℕ
seeds_from first place zero = []
seeds_from first place (suc n) = seed_at first place ∷ seeds_from first (place + 1) n

-- those from one place up to another
abbrev pub seeds_between : ℕ → ℕ → ℕ → List ℕ
seeds_between first begin end = seeds_from first begin (end - begin)
