use Rattle.value_origins.specs.Tables.{AreUsed, AreStartsTo}
use Rattle.value_origins.proofs.streams.Starts.of.Given as goal

-- what is noted of the steps so far
abbrev pub invariant-loop-step : goal.invariant-loop-step
invariant-loop-step l = record {
  used : AreUsed l.actions l.step l.moved.items;
  starts : AreStartsTo l.actions l.step l.streams.items;
}
