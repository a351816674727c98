use Rattle.std.proofs.Common.{◌≡◌, ◌++◌, map, length}
use Rattle.trace_text.specs.Runs.{step_runs}
use Rattle.schedule_turns.specs.Turns.{run_of_turn}
use Rattle.schedule_turns.proofs.turns.turns_of.Given as goal

-- the turns so far and the runs of the steps to come are all runs
abbrev pub invariant-loop-first : goal.invariant-loop-first
invariant-loop-first l = map run_of_turn l.turns.items ++ step_runs l.rest ≡ step_runs l.steps

abbrev pub decreases-loop-first : goal.decreases-loop-first
decreases-loop-first l = length l.rest
