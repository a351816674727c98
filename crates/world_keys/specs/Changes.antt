-- What is known of the key of a world before a step.
use Rattle.std.specs.Prelude.{◌≡◌, ℕ, true, List, slice_set}
use Rattle.image_file.specs.ImageValue.{ImageValue}
use Rattle.processor.specs.Processors.{ProcessorValue, stream_at}
use Rattle.processor.specs.World.{World}
use Rattle.world_keys.specs.declared.next_keys.Change.{Change}
use Rattle.world_keys.specs.WorldKeys.{processor_in, processor_place, key_of, IsKnownProcessor, IsKnown}

-- where the change says so, the streams are those of the old processor but for that of the step
abbrev pub HasOthersOf : ProcessorValue → ProcessorValue → Change → Type 0
HasOthersOf old new c =
    c.are_others_kept ≡ true → new.streams ≡ slice_set old.streams c.step.s (stream_at new.streams c.step.s)

-- A place that is that of a known processor before a step of it, whose other streams are kept where the change says so.
pub record IsPlaceBefore (table : List (List ℕ)) (image : ImageValue) (new : ProcessorValue) (c : Change) (place : ℕ)
    : Type 0 where
  pub before : ProcessorValue
  pub known : IsKnownProcessor table image before
  pub is_place : place ≡ processor_place table before
  pub streams : HasOthersOf before new c

-- A key that is that of a known world before a step: what the step leaves differs from it in the step's processor alone,
-- and in the memory, unless the change says that this is kept; and so with the processor's other streams.
pub record IsKeyBefore (table : List (List ℕ)) (image : ImageValue) (w : World) (c : Change) (key : List ℕ) : Type 0 where
  pub before : World
  pub known : IsKnown table image before
  pub is_key : key ≡ key_of table image before
  pub others : w.processors ≡ slice_set before.processors c.step.p (processor_in w c.step.p)
  pub memory : c.is_memory_kept ≡ true → w.memory ≡ before.memory
  pub streams : HasOthersOf (processor_in before c.step.p) (processor_in w c.step.p) c
