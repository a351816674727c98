use Rattle.std.proofs.Common.{◌≡◌, ◌++◌}
use Rattle.trace_text.specs.Rounds.{turns}
use Rattle.trace_text.proofs.rounds.append_turns.Given as goal

abbrev pub invariant-loop-s : goal.invariant-loop-s
invariant-loop-s l = l.steps.items ≡ l.initial.steps.items ++ turns l.s l.p
