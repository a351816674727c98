-- the least distance by the links so far, and which link has it
use Rattle.std.proofs.Common.{◌≡◌, ℕ, ◌<◌, ◌≤◌, length, slice_index, MatchOption}
use Rattle.terminal_components.specs.Ways.{link_at}
use Rattle.terminal_components.specs.Values.{far}
use Rattle.terminal_components.specs.Cycles.{LinksFrom}
use Rattle.terminal_components.proofs.cycles.nearest_link.Given as goal

abbrev pub invariant-loop-number : goal.invariant-loop-number
invariant-loop-number l = record {
  below :
      (i : ℕ) → i < l.number → LinksFrom (length l.distances) l.place (link_at l.links i)
      → l.least ≤ slice_index l.distances (link_at l.links i).to;
  held :
      MatchOption l.nearest (l.least ≡ far) (λ b.
      (b < length l.links) × LinksFrom (length l.distances) l.place (link_at l.links b)
      × (slice_index l.distances (link_at l.links b).to ≡ l.least) × (l.least < far)
      );
}
