-- No end before the place shows the flaw.
use Rattle.std.proofs.Common.{◌≡◌, ◌<◌, ℕ, Some, false, slice_get}
use Rattle.seed_outcomes.specs.SpaceEndsTypes.SpaceEnd.{SpaceEnd}
use Rattle.judgements.specs.Flaws.{shows}
use Rattle.judgements.proofs.end_flaws.found_of.Given as goal

abbrev pub invariant-loop-end : goal.invariant-loop-end
invariant-loop-end l =
    (k : ℕ) → k < l.end → (e : SpaceEnd) → slice_get l.ends k ≡ Some e → shows l.flaw e ≡ false
