use Rattle.std.proofs.Common.{◌≡◌, true}
use Rattle.value_origins.specs.Streams.{all_below}
use Rattle.value_origins.specs.Tables.{used_in}
use Rattle.value_origins.proofs.streams.lowest_idle.Given as goal

-- all below are in use
abbrev pub invariant-loop-s : goal.invariant-loop-s
invariant-loop-s l = all_below (used_in l.moved l.p) l.s ≡ true
