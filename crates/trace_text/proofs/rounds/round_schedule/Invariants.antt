use Rattle.std.proofs.Common.{◌≡◌}
use Rattle.trace_text.specs.Rounds.{rounds}
use Rattle.trace_text.proofs.rounds.round_schedule.Given as goal

abbrev pub invariant-loop-turn : goal.invariant-loop-turn
invariant-loop-turn l = l.steps.items ≡ rounds l.processors l.streams l._turn
