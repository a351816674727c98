-- The machine stands behind the steps so far, and the claims hold of each world before it.
use Rattle.std.proofs.Common.{◌≡◌, ◌<◌, ℕ, take}
use Rattle.std.specs.Prelude.{IsTrue}
use Rattle.processor.specs.World.{run}
use Rattle.schedule_verdicts.specs.KeptClaims.{all_hold}
use Rattle.seed_verdicts.proofs.broken_claims.first_broken.Given as goal

abbrev pub invariant-loop-taken : goal.invariant-loop-taken
invariant-loop-taken g l = record {
  image : l.machine.image ≡ l.image;
  world : l.machine.world ≡ run l.image (take l.taken l.schedule);
  kept : (k : ℕ) → k < l.taken → IsTrue (all_hold l.claims (run l.image (take k l.schedule)));
}
