-- Nothing of a world stands outside its places.
use Rattle.std.specs.Prelude.{◌≡◌, ℕ, length, Some}
use Rattle.stream_core.specs.Streams.{StreamValue}
use Rattle.machine.specs.Processor.World.{World}
use Rattle.step_views.specs.declared.places.Place.{Place}
use Rattle.step_views.specs.Places.{used_stream, content_of}

-- each stream has 32 general registers and 8 target registers
pub record HasRegisters (w : World) : Type 0 where
  pub general : (p s : ℕ) (v : StreamValue) → used_stream w p s ≡ Some v → length v.registers ≡ 32
  pub target : (p s : ℕ) (v : StreamValue) → used_stream w p s ≡ Some v → length v.targets ≡ 8

-- Worlds that hold the same in each place are one: a world is what stands in its places, and the chain limit of its
-- memory, which no step changes.
abbrev pub AreAllPlaces : Type 0
AreAllPlaces =
    (w v : World) → HasRegisters w → HasRegisters v → w.memory.chain_limit ≡ v.memory.chain_limit
    → ((x : Place) → content_of w x ≡ content_of v x) → w ≡ v
