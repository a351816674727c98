-- Streams that can wait forever, as a verdict shows them.
use Rattle.std.specs.Prelude.{◌≡◌, List, [], ◌∷◌}
use Rattle.program_searches.specs.StarvingStreamsTypes.Starving.{Starving}

-- The same stream, schedule and round.
pub record IsSameStarving (x y : Starving) : Type 0 where
  pub stream : y.stream ≡ x.stream
  pub stem : y.stem.items ≡ x.stem.items
  pub round : y.round.items ≡ x.round.items

-- the first of those that are shown
abbrev pub IsFirstStarving : List Starving → Starving → Type 0
IsFirstStarving [] y = ⊥
IsFirstStarving (x ∷ xs) y = IsSameStarving x y
