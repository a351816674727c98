-- the worlds so far are followed, or expanded, and the machines that are kept are those of their places
use Rattle.std.proofs.Common.{◌≡◌, ℕ, ◌≤◌, ◌<◌, true}
use Rattle.std.specs.List.{Contains}
use Rattle.schedule_space.specs.declared.links.Edge.{Edge}
use Rattle.schedule_space.specs.Spaces.{count}
use Rattle.schedule_space.specs.Finding.{IsExpanded, IsBreadthFirst}
use Rattle.schedule_space.specs.Kept.{AreKept}
use Rattle.schedule_space.specs.Tables.{AreTablesOf}
use Rattle.schedule_space.specs.Quiet.{IsFollowedQuietly}
use Rattle.schedule_space.specs.declared.expanding.Wanted.TheVariants as Wanted
use Rattle.schedule_space.proofs.explorations.search.Given as goal

abbrev pub invariant-loop-from : goal.invariant-loop-from
invariant-loop-from g l = record {
  image : l.found.image ≡ l.image;
  begin : l.found.begin ≡ l.begin;
  names : l.found.live.names ≡ l.names;
  tables : l.by_sets ≡ true → AreTablesOf l.found.image l.found.live l.shortcuts.tables.now;
  expanded : l.wanted ≡ Wanted.Worlds → (k : ℕ) → k < l.from → IsExpanded l.found k;
  quiet : (k : ℕ) → k < l.from → IsFollowedQuietly l.observation.places.now l.observation.words.now l.found k;
  inside : l.from ≤ count l.found;
  within : count l.found ≤ l.limit;
  edges : (e : Edge) → Contains l.found.edges e → e.from < l.from;
  kept : AreKept l.found l.machines;
  breadth : l.from < count l.found → IsBreadthFirst l.found l.from;
}
