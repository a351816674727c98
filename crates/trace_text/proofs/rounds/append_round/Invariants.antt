use Rattle.std.proofs.Common.{◌≡◌, ◌++◌}
use Rattle.trace_text.specs.Rounds.{round}
use Rattle.trace_text.proofs.rounds.append_round.Given as goal

abbrev pub invariant-loop-p : goal.invariant-loop-p
invariant-loop-p l = l.steps.items ≡ l.initial.steps.items ++ round l.p l.streams
