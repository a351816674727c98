use Rattle.std.proofs.Common.{◌≡◌}
use Rattle.run_findings.specs.Found.{found_to}
use Rattle.run_findings.specs.UnreadStores.{unread_at}
use Rattle.run_findings.proofs.unread.unread_by_links.Given as goal

abbrev pub invariant-loop-stored : goal.invariant-loop-stored
invariant-loop-stored l = l.found.items ≡ found_to (unread_at l.actions) l.stored
