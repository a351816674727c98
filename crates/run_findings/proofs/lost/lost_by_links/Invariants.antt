use Rattle.std.proofs.Common.{◌≡◌}
use Rattle.run_findings.specs.Found.{found_to}
use Rattle.run_findings.specs.LostUpdates.{lost_at}
use Rattle.run_findings.proofs.lost.lost_by_links.Given as goal

abbrev pub invariant-loop-stored : goal.invariant-loop-stored
invariant-loop-stored l = l.found.items ≡ found_to (lost_at l.actions) l.stored
