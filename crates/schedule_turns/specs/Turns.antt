-- Turns: steps of one stream, one after the other.
use Rattle.std.specs.Prelude.{ℕ, List, ◌++◌, codes}
use Rattle.std.specs.Fmt.{decimal}
use Rattle.text_parts.specs.Runs.{Run, run_things}
use Rattle.processor.specs.declared.steps.Step.{Step}
use Rattle.schedule_turns.specs.declared.turns.Turn.{Turn}

-- a turn as a run of equal steps
abbrev pub run_of_turn : Turn → Run Step
run_of_turn t = record { thing = t.stream; times = t.count }

-- the steps of a turn
abbrev pub turn_steps : Turn → List Step
turn_steps t = run_things (run_of_turn t)

-- a turn as a line of a schedule says it: processor, stream, how often
abbrev pub turn_text : Turn → List ℕ
turn_text t = decimal t.stream.p ++ codes " " ++ decimal t.stream.s ++ codes " " ++ decimal t.count
