use Rattle.std.proofs.Common.{◌≡◌, map, take}
use Rattle.std.specs.List.{All}
use Rattle.value_origins.specs.Origins.{IsLastWriter, location_of}
use Rattle.value_origins.proofs.origins.sources_of.Given as goal

-- the sources by the locations so far
abbrev pub invariant-loop-place : goal.invariant-loop-place
invariant-loop-place l = record {
  locations : map location_of l.sources.items ≡ take l.place-index l.place-items;
  steps : All (λ s. IsLastWriter l.actions s.location l.step s.step) l.sources.items;
}
