use Rattle.std.proofs.Common.{◌≡◌, ℕ, Some}
use Rattle.run_findings.specs.Found.{found_to}
use Rattle.run_findings.specs.TornReads.{other_half, torn_by_read}
use Rattle.run_findings.specs.Stale.{found_in, AreWithin, HasEarliestFirst}
use Rattle.run_findings.proofs.Looks.{AreBelow}
use Rattle.run_findings.proofs.stale.stale_looks.Given as goal

-- the steps noted so far are some of the steps so far, and in them all is found that is in these
abbrev pub invariant-loop-read : goal.invariant-loop-read
invariant-loop-read l = record {
  within : AreWithin l.actions l.looks.items;
  below : AreBelow l.looks.items l.read;
  first : HasEarliestFirst l.looks.items;
  all : (a k : ℕ) → other_half l.actions l.glimpse k ≡ Some a
      → found_in (torn_by_read l.actions l.glimpse a k) l.looks.items
      ≡ found_to (torn_by_read l.actions l.glimpse a k) l.read;
}
