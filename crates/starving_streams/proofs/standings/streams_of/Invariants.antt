-- the streams of the standings so far are there
use Rattle.std.proofs.Common.{ℕ, ◌<◌, slice_index_or, Contains}
use Rattle.fair_rounds.specs.declared.graphs.Standing.{Standing}
use Rattle.starving_streams.proofs.standings.streams_of.Given as goal

abbrev pub invariant-loop-number : goal.invariant-loop-number
invariant-loop-number l =
    (i : ℕ) (d : Standing) → i < l.number → Contains l.streams.items (slice_index_or l.standings i d).step
