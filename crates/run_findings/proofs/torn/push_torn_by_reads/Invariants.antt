use Rattle.std.proofs.Common.{◌≡◌, ◌++◌, take}
use Rattle.run_findings.specs.TornReads.{torn_by_read}
use Rattle.run_findings.specs.Stale.{found_in}
use Rattle.run_findings.proofs.torn.push_torn_by_reads.Given as goal

abbrev pub invariant-loop-look : goal.invariant-loop-look
invariant-loop-look l =
    l.found.items
    ≡ l.initial.found.items ++ found_in (torn_by_read l.actions l.glimpse l.stale l.write) (take l.look-index l.looks)
