-- The places so far of whose world the claim does not hold.
use Rattle.std.proofs.Common.{◌≡◌}
use Rattle.std.specs.Prelude.{not}
use Rattle.std.specs.List.{filter, range_with_len}
use Rattle.claims.specs.Holding.{holds}
use Rattle.seed_verdicts.specs.ScheduleSpace.Spaces.{world_of}
use Rattle.space_ends.proofs.broken_claims.places_that_break.Given as goal

abbrev pub invariant-loop-place : goal.invariant-loop-place
invariant-loop-place g l =
    l.places.items ≡ filter (λ k. not (holds (world_of l.marks.space k) l.marks.claim)) (range_with_len 0 l.place)
