-- What is found so far begins in the world of the end.
use Rattle.run_rounds.specs.Rounds.{ComesBack}
use Rattle.run_rounds.proofs.run_ends.first_round.Given as goal

abbrev pub invariant-loop : goal.invariant-loop
invariant-loop g l = ComesBack l.image l.schedule l.found.begin
