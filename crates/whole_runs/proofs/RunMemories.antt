-- The memory of each world of an image has as many words as the image, and its chain limit.
use Rattle.std.proofs.Common.{◌≡◌, ℕ, ◌/◌, refl, sym, ◌∙◌, List, [], ◌∷◌, Option, Some, None}
use Rattle.std.proofs.Common.{slice_get, length-set, subst}
use Rattle.std.proofs.Common.{zero, suc, ◌%◌, ◌==◌, ◌&&◌, not, inl, inr}
use Rattle.std.proofs.lemmas.Bool.{cases_Bool}
use Rattle.tag_memory.specs.Cell.{Cell, has_bit}
use Rattle.tag_memory.specs.Storage.{TaggedMemory, cell_at}
use Rattle.tag_memory.specs.Address.{address_of, is_reserved}
use Rattle.tag_memory.specs.Access.{access_control, effect}
use Rattle.tag_memory.specs.Chain.{is_tag_operation, probe_cell, end_by_probe, end_from}
use Rattle.tag_memory.specs.Answer.{answer_by_effect, at_end}
use Rattle.tag_memory.specs.declared.requests.Request.{Request}
use Rattle.image_file.specs.ImageValue.{ImageValue}
use Rattle.processor.specs.Processors.{ProcessorValue}
use Rattle.processor.specs.Row.{request, memory_reply}
use Rattle.processor.specs.World.{World, start, after, steps, run}
use Rattle.processor.specs.declared.steps.Step.{Step}
use Rattle.processor.proofs.Histories.{after-known, after-absent}
use Rattle.whole_runs.specs.Differences.{IsMemoryOf}

by_effect : (image : ImageValue) (m : TaggedMemory) (a : ℕ) (o : Option (Cell × ℕ)) → IsMemoryOf image m
    → IsMemoryOf image (answer_by_effect m a o).0
by_effect image m a None is = is
by_effect image m a (Some e) is = record {
  cells = length-set m.cells (a / 8) e.0 ∙ is.cells;
  chain = is.chain;
}

-- a request that is probed at p, where this word stands
by_probe : (image : ImageValue) (m : TaggedMemory) (q : Request) (p : ℕ) (rest : ℕ → _) (o : Option Cell)
    → IsMemoryOf image m → ((next : ℕ) → IsMemoryOf image (at_end m q (rest next)).0)
    → IsMemoryOf image (at_end m q (end_by_probe p (probe_cell q p o) rest)).0
by_probe image m q p rest None is h = is
by_probe image m q p rest (Some c) is h =
    let there = by_effect image m (address_of p) (effect q.op (access_control q.acc q.pointer) c q.value) is in
    elim (cases_Bool (is_tag_operation q.op)) [
      | inl e ↦ rw e there
      | inr e ↦ rw e (elim (cases_Bool (c.trap0 && not (has_bit p 62) && not q.masked.trap0)) [
        | inl f ↦ rw f is
        | inr f ↦ rw f (elim (cases_Bool (c.trap1 && not (has_bit p 63) && not q.masked.trap1)) [
          | inl k ↦ rw k is
          | inr k ↦ rw k (elim (cases_Bool (c.forward && not (has_bit p 61))) [
            | inl n ↦ rw n (h c.value)
            | inr n ↦ rw n there
          ])
        ])
      ])
    ]

by_chain : (image : ImageValue) (m : TaggedMemory) (q : Request) (left p : ℕ) → IsMemoryOf image m
    → IsMemoryOf image (at_end m q (end_from m q left p)).0
unfolding end_from
by_chain image m q zero p is =
    elim (cases_Bool (is_reserved p)) [
      | inl e ↦ rw e is
      | inr e ↦ rw e (elim (cases_Bool (not (address_of p % 8 == 0))) [
        | inl f ↦ rw f is
        | inr f ↦ rw f (by_probe image m q p _ (cell_at m (address_of p)) is (λ next. is))
      ])
    ]
by_chain image m q (suc left) p is =
    elim (cases_Bool (is_reserved p)) [
      | inl e ↦ rw e is
      | inr e ↦ rw e (elim (cases_Bool (not (address_of p % 8 == 0))) [
        | inl f ↦ rw f is
        | inr f ↦
            rw f (by_probe image m q p _ (cell_at m (address_of p)) is (λ next. by_chain image m q left next is))
      ])
    ]

replied : (image : ImageValue) (m : TaggedMemory) (o : Option Request) → IsMemoryOf image m
    → IsMemoryOf image (memory_reply m o).0
replied image m None is = is
replied image m (Some q) is = by_chain image m q m.chain_limit q.pointer is

memory_after : (image : ImageValue) (w : World) (t : Step) → IsMemoryOf image w.memory
    → IsMemoryOf image (after image w t).memory
memory_after image w t is = by_processor (slice_get w.processors t.p) refl where
  by_processor : (o : Option ProcessorValue) → slice_get w.processors t.p ≡ o
      → IsMemoryOf image (after image w t).memory
  by_processor None there =
      subst (λ (x : World). IsMemoryOf image x.memory) (sym (after-absent image w t there)) is
  by_processor (Some proc) there =
      subst (λ (x : World). IsMemoryOf image x.memory)
      (sym (after-known image w t proc (request image proc t.s) there refl))
      (replied image w.memory (request image proc t.s) is)

memory_of_steps : (image : ImageValue) (w : World) (ts : List Step) → IsMemoryOf image w.memory
    → IsMemoryOf image (steps image w ts).memory
memory_of_steps image w [] is = is
memory_of_steps image w (t ∷ ts) is = memory_of_steps image (after image w t) ts (memory_after image w t is)

memory_of_start : (image : ImageValue) → IsMemoryOf image (start image).memory
unfolding start
memory_of_start image = record { cells = refl; chain = refl }

pub memory_of_run : (image : ImageValue) (ts : List Step) → IsMemoryOf image (run image ts).memory
memory_of_run image ts = memory_of_steps image (start image) ts (memory_of_start image)
