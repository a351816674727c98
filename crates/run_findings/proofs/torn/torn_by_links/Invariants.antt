use Rattle.std.proofs.Common.{◌≡◌}
use Rattle.run_findings.specs.Found.{lists_to}
use Rattle.run_findings.specs.TornReads.{torn_at}
use Rattle.run_findings.proofs.torn.torn_by_links.Given as goal

abbrev pub invariant-loop-read : goal.invariant-loop-read
invariant-loop-read l = l.found.items ≡ lists_to (torn_at l.actions) l.read
