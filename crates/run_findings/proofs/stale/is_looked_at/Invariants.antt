use Rattle.std.proofs.Common.{◌≡◌, ℕ, [], take}
use Rattle.run_findings.specs.TornReads.{torn_by_read}
use Rattle.run_findings.specs.Stale.{found_in}
use Rattle.run_findings.specs.declared.glimpse.Glimpse.{Glimpse}
use Rattle.run_findings.proofs.stale.is_looked_at.Given as goal

-- nothing is found in the reads so far
abbrev pub invariant-loop-look : goal.invariant-loop-look
invariant-loop-look l =
    (g : Glimpse) (k : ℕ) → found_in (torn_by_read l.actions g l.word k) (take l.look-index l.looks) ≡ []
