-- Rounds over all streams.
use Rattle.std.specs.Prelude.{ℕ, List, map}
use Rattle.std.specs.List.{flat_map, range_with_len, repeat}
use Rattle.processor.specs.declared.steps.Step.{Step}

abbrev pub turn : ℕ → ℕ → Step
turn p s = record { p = p; s = s }

-- the streams of a processor from 0 on, so many
abbrev pub turns : ℕ → ℕ → List Step
turns streams p = map (turn p) (range_with_len 0 streams)

-- the processors from 0 on, so many, and within each the streams
abbrev pub round : ℕ → ℕ → List Step
round processors streams = flat_map (turns streams) (range_with_len 0 processors)

abbrev pub rounds : ℕ → ℕ → ℕ → List Step
rounds processors streams count = repeat count (round processors streams)
