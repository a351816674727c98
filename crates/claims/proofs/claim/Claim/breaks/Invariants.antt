-- What was found, with what is found from here on, is what is found from the start.
use Rattle.std.proofs.Common.{◌≡◌, ◌++◌, drop}
use Rattle.claims.specs.Breaks.{breaks_from}
use Rattle.claims.proofs.claim.Claim.breaks.Given as goal

abbrev pub invariant-loop-taken : goal.invariant-loop-taken
invariant-loop-taken g l =
    l.broken.items ++ breaks_from l.self l.machine.image l.machine.world l.taken (drop l.taken l.schedule)
    ≡ breaks_from l.self l.initial.machine.image l.initial.machine.world 0 l.schedule
