use Rattle.std.specs.Prelude.{IfSome}
use Rattle.first_sets.specs.ApartSets.{IsApartSet}
use Rattle.first_sets.proofs.finding.apart_set.Given as goal

-- what was found so far is such a set
abbrev pub invariant-loop-first : goal.invariant-loop-first
invariant-loop-first g l = IfSome l.least (λ set. IsApartSet l.machine.image l.tables l.machine.world set.items)
