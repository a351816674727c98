use Rattle.std.proofs.Common.{◌≡◌, ◌+◌, ◌++◌, drop, string_bytes}
use Rattle.machine.proofs.Worlds.{ran}
use Rattle.mta_engines.specs.RunOutput.{trace_from}
use Rattle.mta_engines.proofs.run.push_trace.Given as goal

-- the text so far and the lines to come are the whole trace, and the steps to come take the machine to its end
abbrev pub invariant-loop-index : goal.invariant-loop-index
invariant-loop-index g l = record {
  text : string_bytes l.text ++ trace_from l.machine.image l.machine.world (l.index + 1) (drop l.index l.schedule)
      ≡ string_bytes l.initial.text ++ trace_from l.initial.machine.image l.initial.machine.world 1 l.schedule;
  world : ran l.machine (drop l.index l.schedule) ≡ ran l.initial.machine l.schedule;
}
