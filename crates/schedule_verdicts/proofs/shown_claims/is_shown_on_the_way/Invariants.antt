-- The machine stands behind the steps so far, and no world before it shows the claim.
use Rattle.std.proofs.Common.{◌≡◌, ◌<◌, ℕ, false, take}
use Rattle.processor.specs.World.{run}
use Rattle.claims.specs.Holding.{shows}
use Rattle.schedule_verdicts.proofs.shown_claims.is_shown_on_the_way.Given as goal

abbrev pub invariant-loop-taken : goal.invariant-loop-taken
invariant-loop-taken g l = record {
  image : l.machine.image ≡ l.image;
  world : l.machine.world ≡ run l.image (take l.taken l.schedule);
  unshown : (k : ℕ) → k < l.taken → shows (run l.image (take k l.schedule)) l.claim ≡ false;
}
