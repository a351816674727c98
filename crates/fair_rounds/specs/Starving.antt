-- Rounds without the completed steps of a stream, and rounds where no stream could complete.
use Rattle.std.specs.Prelude.{Bool, false, not, ◌&&◌}
use Rattle.processor.specs.declared.steps.Step.{Step}
use Rattle.fair_rounds.specs.declared.graphs.Edge.{Edge}
use Rattle.fair_rounds.specs.declared.graphs.Standing.{Standing}
use Rattle.fair_rounds.specs.Classes.{is_step}

-- whether the edge is no completed step of the stream
abbrev pub is_left : Step → Edge → Bool
is_left who e = not (is_step who e.step && e.completes)

-- the same stream at the same place, as if it could not complete
abbrev pub at_rest : Standing → Standing
at_rest s = record { place = s.place; step = s.step; can_complete = false }
