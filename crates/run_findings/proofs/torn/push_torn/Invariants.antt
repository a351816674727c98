use Rattle.std.proofs.Common.{◌≡◌, ◌++◌}
use Rattle.run_findings.specs.Found.{lists_to}
use Rattle.run_findings.specs.TornReads.{torn_by_write}
use Rattle.run_findings.proofs.torn.push_torn.Given as goal

abbrev pub invariant-loop-write : goal.invariant-loop-write
invariant-loop-write l = l.found.items ≡ l.initial.found.items ++ lists_to (torn_by_write l.actions l.glimpse) l.write
