-- What a step leaves as it is.
use Rattle.std.proofs.Common.{◌≡◌, ◌<◌, true, false, refl, sym, ap, ◌∙◌, Option, Some, None}
use Rattle.std.proofs.Common.{length, get_or, set, slice_get, length-set}
use Rattle.std.proofs.lemmas.List.{get_or-set_same, set-get_or}
use Rattle.std.proofs.lemmas.Option.{slice_get_within}
use Rattle.image_file.specs.ImageValue.{ImageValue}
use Rattle.processor.specs.Processors.{ProcessorValue}
use Rattle.processor.specs.Row.{next_of, request, row, memory_reply}
use Rattle.processor.specs.World.{World, after}
use Rattle.processor.specs.declared.steps.Next.{Next}
use Rattle.processor.specs.declared.steps.Next.TheVariants as next
use Rattle.processor.specs.declared.steps.Step.{Step}
use Rattle.processor.proofs.Begun.{local_request}
use Rattle.processor.proofs.Histories.{after-known, after-absent}
use Rattle.machine.specs.MachineValue.{MachineValue, next_at, next_in}
use Rattle.waiting.proofs.Needs.{skips, runs-next}
use Rattle.world_keys.specs.WorldKeys.{no_processor}
use Rattle.schedule_space.proofs.Resting.{rested}

-- a step whose stream does not run leaves all
pub skip_stays : (m : MachineValue) (t : Step) → next.Skip ≡ next_in m t → after m.image m.world t ≡ m.world
skip_stays m t is = rested m.image m.world t (sym (runs-next m t next.Skip is))

-- a step that needs something has a processor
pub needs_there : (m : MachineValue) (t : Step) (n : Next) → n ≡ next_in m t → skips n ≡ false
    → t.p < length m.world.processors
needs_there m t n is needs = by_processor (slice_get m.world.processors t.p) refl where
  by_processor : (o : Option ProcessorValue) → slice_get m.world.processors t.p ≡ o
      → t.p < length m.world.processors
  by_processor None there =
      let off : skips n ≡ true = ap skips is ∙ ap (λ o. skips (next_at m.image o t.s)) there in absurd cc
  by_processor (Some proc) there = slice_get_within m.world.processors t.p proc there

-- a step that asks the memory nothing leaves it
pub local_memory : (m : MachineValue) (t : Step) → next.Local ≡ next_in m t
    → (after m.image m.world t).memory ≡ m.world.memory
local_memory m t is = by_processor (slice_get m.world.processors t.p) refl where
  by_processor : (o : Option ProcessorValue) → slice_get m.world.processors t.p ≡ o
      → (after m.image m.world t).memory ≡ m.world.memory
  by_processor None there = ap (λ (x : World). x.memory) (after-absent m.image m.world t there)
  by_processor (Some proc) there =
      let needs : next_of m.image proc t.s ≡ next.Local = sym (is ∙ ap (λ o. next_at m.image o t.s) there) in
      ap (λ (x : World). x.memory)
      (after-known m.image m.world t proc None there (local_request m.image proc t.s needs))

-- a step leaves as many processors
pub as_many : (image : ImageValue) (w : World) (t : Step) → length (after image w t).processors ≡ length w.processors
as_many image w t = by_processor (slice_get w.processors t.p) refl where
  by_processor : (o : Option ProcessorValue) → slice_get w.processors t.p ≡ o
      → length (after image w t).processors ≡ length w.processors
  by_processor None there = ap (λ (x : World). length x.processors) (after-absent image w t there)
  by_processor (Some proc) there =
      let q = request image proc t.s in
      let new : ProcessorValue = (row image proc t.s (memory_reply w.memory q).1).0 in
      ap (λ (x : World). length x.processors) (after-known image w t proc q there refl)
      ∙ length-set w.processors t.p new

-- a step leaves each processor but its own
pub others_stay : (image : ImageValue) (w : World) (t : Step) → t.p < length (after image w t).processors
    → (after image w t).processors
    ≡ set w.processors t.p (get_or (after image w t).processors t.p no_processor)
others_stay image w t below = by_processor (slice_get w.processors t.p) refl where
  by_processor : (o : Option ProcessorValue) → slice_get w.processors t.p ≡ o
      → (after image w t).processors
      ≡ set w.processors t.p (get_or (after image w t).processors t.p no_processor)
  by_processor None there =
      let same = after-absent image w t there in
      ap (λ (x : World). x.processors) same
      ∙ sym (set-get_or w.processors t.p no_processor)
      ∙ ap (λ (x : World). set w.processors t.p (get_or x.processors t.p no_processor)) (sym same)
  by_processor (Some proc) there =
      let q = request image proc t.s in
      let new : ProcessorValue = (row image proc t.s (memory_reply w.memory q).1).0 in
      let is : (after image w t).processors ≡ set w.processors t.p new =
      ap (λ (x : World). x.processors) (after-known image w t proc q there refl) in
      let at : get_or (after image w t).processors t.p no_processor ≡ new =
      ap (λ xs. get_or xs t.p no_processor) is
      ∙ get_or-set_same w.processors t.p new no_processor (slice_get_within w.processors t.p proc there) in
      is ∙ ap (set w.processors t.p) (sym at)
