-- What steps left, said of the worlds before and behind them.
use Rattle.std.proofs.Common.{◌≡◌, ℕ, suc, ◌+◌, ◌<◌, false, refl, sym, ap, ◌∙◌, subst, arith, List, [], ◌∷◌}
use Rattle.std.proofs.Common.{Option, Some, None, ◌⊎◌, inl, inr, length, get_or, map, set, slice_get, true, ◌++◌, length-append}
use Rattle.std.proofs.Common.{◌≤◌}
use Rattle.std.proofs.Math.Seq.{get_or-append_seam}
use Rattle.std.proofs.lemmas.Bool.{cases_lt}
use Rattle.std.proofs.lemmas.List.{length-map, map-set, get_or-map, get_or-set_same, get_or_append_left, set-get_or}
use Rattle.std.proofs.lemmas.Option.{slice_get-get_or, slice_get_within}
use Rattle.tag_memory.specs.Storage.{TaggedMemory}
use Rattle.image_file.specs.ImageValue.{ImageValue}
use Rattle.processor.specs.Processors.{ProcessorValue, stream_at}
use Rattle.processor.specs.Row.{row_over_memory}
use Rattle.machine.specs.MachineValue.{MachineValue}
use Rattle.processor.specs.World.{World, world_step, world_step_at, after}
use Rattle.processor.specs.declared.steps.Step.{Step}
use Rattle.processor.proofs.Histories.{after-absent}
use Rattle.world_keys.specs.DeadRegisters.Clearing.{LiveValue, cleared_stream, cleared_processor, cleared, IsLive}
use Rattle.world_keys.specs.Tables.{place_in, Has, Extends}
use Rattle.world_keys.specs.MemoryNumbers.{memory_numbers}
use Rattle.world_keys.specs.declared.next_keys.Change.{Change}
use Rattle.world_keys.specs.Changes.{HasOthersOf, IsKeyBefore}
use Rattle.world_keys.specs.WorldKeys.{no_processor, processor_in, processor_place, key_of, IsMemoryOf, IsKnownProcessor, IsKnown}
use Rattle.world_keys.proofs.Places.{place_get, place_same, place_extended, has_extended, extends_refl}
use Rattle.world_keys.proofs.Memories.{same_memory}
use Rattle.world_keys.proofs.Marks.{same_processor, place_kept, processor_kept}
use Rattle.world_keys.proofs.Nexts.{next_is, next_known}
use Rattle.world_keys.proofs.Clearings.{stream_cleared, memory_cleared, processors_cleared, as_many_cleared, processor_cleared}
use Rattle.schedule_space.specs.declared.known_steps.Places.{Places}
use Rattle.schedule_space.specs.KnownSteps.{StepList, no_steps, IsSeen, IsAt, step_numbers, AreTold, IsLeft, AreLeft}
use Rattle.schedule_space.proofs.AlikeSteps.{processors_alike}
use Rattle.schedule_space.proofs.Memories.{memory_after}
use Rattle.schedule_space.proofs.Reaches.{as_many, others_stay}

-- Places in a table.

-- where the table is extended they stay
pub at_kept : (image : ImageValue) (old new : List (List ℕ)) (proc : ProcessorValue) (m : TaggedMemory) (l : Places)
    → Extends old new → IsAt image old proc m l → IsAt image new proc m l
at_kept image old new proc m l grown is = record {
  known = processor_kept old new image proc grown is.known;
  of = is.of;
  has = has_extended old new (memory_numbers image m) grown is.has;
  content = is.content ∙ sym (place_kept old new image proc grown is.known);
  memory = is.memory ∙ sym (place_extended old new (memory_numbers image m) grown is.has);
}

-- at the same places the same is held
at_same : (image : ImageValue) (t : List (List ℕ)) (a b : ProcessorValue) (m n : TaggedMemory) (l k : Places)
    → l.content ≡ k.content → l.memory ≡ k.memory → IsAt image t a m l → IsAt image t b n k → (a ≡ b) × (m ≡ n)
at_same image t a b m n l k content memory one other = (
  same_processor t image a b one.known other.known (sym one.content ∙ content ∙ other.content),
  same_memory image m n one.of other.of
      (place_same t (memory_numbers image m) (memory_numbers image n) one.has other.has
      (sym one.memory ∙ memory ∙ other.memory)),
)

at_key_of : (image : ImageValue) (t : List (List ℕ)) (w : World) (p : ℕ) (key : List ℕ) (l : Places)
    → IsKnown t image w → p < length w.processors → key ≡ key_of t image w → l.content ≡ get_or key (p + 1) 0
    → l.memory ≡ get_or key 0 0 → IsAt image t (processor_in w p) w.memory l
at_key_of image t w p key l known there is content memory =
    let next : p + 1 ≡ suc p = omega arith in
    record {
      known = known.processors p there;
      of = known.memory;
      has = known.numbers;
      content =
          content
          ∙ ap (λ xs. get_or xs (p + 1) 0) is
          ∙ ap (λ k. get_or (key_of t image w) k 0) next
          ∙ get_or-map (processor_place t) w.processors p no_processor 0 there;
      memory = memory ∙ ap (λ xs. get_or xs 0 0) is;
    }

-- the places that the key of a world has, as it is cleared
pub at_key : (image : ImageValue) (live : LiveValue) (t : List (List ℕ)) (w : World) (p : ℕ) (key : List ℕ) (l : Places)
    → IsKnown t image (cleared live w) → p < length w.processors → key ≡ key_of t image (cleared live w)
    → l.content ≡ get_or key (p + 1) 0 → l.memory ≡ get_or key 0 0
    → IsAt image t (cleared_processor live (processor_in w p)) w.memory l
at_key image live t w p key l known there is content memory =
    subst (λ (m : TaggedMemory). IsAt image t (cleared_processor live (processor_in w p)) m l) (memory_cleared live w)
    (subst (λ (q : ProcessorValue). IsAt image t q (cleared live w).memory l) (processor_cleared live w p)
    (at_key_of image t (cleared live w) p key l known (omega (arith, there, as_many_cleared live w)) is content memory))

-- as many numbers as processors, and one for the memory
pub key_many : (image : ImageValue) (live : LiveValue) (t : List (List ℕ)) (w : World) (key : List ℕ)
    → key ≡ key_of t image (cleared live w) → length key ≡ length w.processors + 1
key_many image live t w key is =
    omega (
      arith,
      ap length is,
      length-map (cleared live w).processors (processor_place t),
      as_many_cleared live w,
    )

-- Steps.

-- what a step leaves is told by its processor and the memory
pub after_parts : (image : ImageValue) (w : World) (t : Step) → t.p < length w.processors
    → (row_over_memory image (processor_in w t.p) t.s w.memory).0.0 ≡ processor_in (after image w t) t.p
    × ((row_over_memory image (processor_in w t.p) t.s w.memory).1 ≡ (after image w t).memory)
unfolding world_step
after_parts image w t there =
    let proc = processor_in w t.p in
    let e = row_over_memory image proc t.s w.memory in
    let some : slice_get w.processors t.p ≡ Some proc = slice_get-get_or w.processors t.p no_processor there in
    let is : after image w t ≡ record { processors = set w.processors t.p e.0.0; memory = e.1 } =
    ap (λ o. (world_step_at image w t o).0) some in (
      sym (ap (λ (x : World). processor_in x t.p) is ∙ get_or-set_same w.processors t.p e.0.0 no_processor there),
      sym (ap (λ (x : World). x.memory) is),
    )

-- what the step of a list left, the same step leaves again
pub left_again : (image : ImageValue) (live : LiveValue) → IsLive image live → (t : List (List ℕ)) (w : World) (u : Step)
    (before l : Places) (asked : List ℕ) → u.p < length w.processors → asked ≡ step_numbers before u.s
    → IsAt image t (cleared_processor live (processor_in w u.p)) w.memory before → IsLeft image live t asked l
    → IsAt image t (cleared_processor live (processor_in (after image w u) u.p)) (after image w u).memory l
left_again image live is_live t w u before l asked there asked_is at is =
    let proc = processor_in w u.p in
    let same : step_numbers is.before is.s ≡ step_numbers before u.s = sym is.is_asked ∙ asked_is in
    let content : is.before.content ≡ before.content = cc in
    let memory : is.before.memory ≡ before.memory = cc in
    let s : is.s ≡ u.s = cc in
    let held =
    at_same image t (cleared_processor live is.processor) (cleared_processor live proc) is.memory w.memory is.before before
    content memory is.at at in
    let parts = after_parts image w u there in
    let e = row_over_memory image is.processor u.s w.memory in
    let alike = processors_alike image live is_live is.processor proc u.s w.memory is.told held.0 in
    let here : IsAt image t (cleared_processor live e.0.0) e.1 l =
    subst (λ (x : ℕ × TaggedMemory).
    IsAt image t (cleared_processor live (row_over_memory image is.processor x.0 x.1).0.0)
    (row_over_memory image is.processor x.0 x.1).1 l)
    (λ i. (s i, held.1 i)) is.left in
    subst (λ (x : ProcessorValue × TaggedMemory). IsAt image t x.0 x.1 l)
    (λ i. ((alike.0 ∙ ap (cleared_processor live) parts.0) i, (alike.1 ∙ parts.1) i)) here

-- a step that was taken
pub left_now : (image : ImageValue) (live : LiveValue) (old new : List (List ℕ)) (w : World) (u : Step) (before l : Places)
    (asked : List ℕ) → Extends old new → u.p < length w.processors → AreTold image (processor_in w u.p)
    → asked ≡ step_numbers before u.s → IsAt image old (cleared_processor live (processor_in w u.p)) w.memory before
    → IsAt image new (cleared_processor live (processor_in (after image w u) u.p)) (after image w u).memory l
    → IsLeft image live new asked l
left_now image live old new w u before l asked grown there told asked_is at left =
    let parts = after_parts image w u there in
    record {
      processor = processor_in w u.p;
      memory = w.memory;
      s = u.s;
      before = before;
      is_asked = asked_is;
      told = told;
      at = at_kept image old new (cleared_processor live (processor_in w u.p)) w.memory before grown at;
      left =
          subst (λ (x : ProcessorValue × TaggedMemory). IsAt image new (cleared_processor live x.0) x.1 l)
          (λ i. (sym parts.0 i, sym parts.1 i)) left;
    }

-- The machine that took a step.

memory_next : (image : ImageValue) (w : World) (u : Step) (n : MachineValue) → IsMemoryOf image w.memory
    → n.image ≡ image → n.world ≡ after image w u → IsMemoryOf n.image n.world.memory
memory_next image w u n is image_is world =
    subst (λ (i : ImageValue). IsMemoryOf i n.world.memory) (sym image_is)
    (subst (λ (x : World). IsMemoryOf image x.memory) (sym world) (memory_after image w u is))

pub there_next : (image : ImageValue) (w : World) (u : Step) (n : MachineValue) → u.p < length w.processors
    → n.world ≡ after image w u → u.p < length n.world.processors
there_next image w u n there world =
    omega (arith, there, ap (λ (x : World). length x.processors) world, as_many image w u)

-- what a step keeps is kept where the worlds are cleared

others_cleared : (live : LiveValue) (w v : World) (p : ℕ) → v.processors ≡ set w.processors p (processor_in v p)
    → (cleared live v).processors ≡ set (cleared live w).processors p (processor_in (cleared live v) p)
others_cleared live w v p is =
    processors_cleared live v
    ∙ ap (map (cleared_processor live)) is
    ∙ map-set (cleared_processor live) w.processors p (processor_in v p)
    ∙ (λ i. set (sym (processors_cleared live w) i) p (sym (processor_cleared live v p) i))

streams_cleared : (live : LiveValue) (old new : ProcessorValue) (c : Change) → HasOthersOf old new c
    → HasOthersOf (cleared_processor live old) (cleared_processor live new) c
streams_cleared live old new c others on =
    ap (map (cleared_stream live)) (others on)
    ∙ map-set (cleared_stream live) old.streams c.step.s (stream_at new.streams c.step.s)
    ∙ ap (set (map (cleared_stream live) old.streams) c.step.s) (sym (stream_cleared live new.streams c.step.s))

-- what its next key is made from
pub key_from : (image : ImageValue) (live : LiveValue) (t : List (List ℕ)) (w : World) (u : Step) (key : List ℕ)
    (n : MachineValue) (c : Change) → IsKnown t image (cleared live w) → key ≡ key_of t image (cleared live w)
    → u.p < length w.processors → n.image ≡ image → n.world ≡ after image w u → c.step ≡ u
    → (c.is_memory_kept ≡ true → n.world.memory ≡ w.memory)
    → HasOthersOf (processor_in w u.p) (processor_in n.world u.p) c
    → IsMemoryOf n.image n.world.memory
    × ((c.step.p < length n.world.processors) × IsKeyBefore t n.image (cleared live n.world) c key)
key_from image live t w u key n c known is there image_is world step memory others = (
  memory_next image w u n (subst (IsMemoryOf image) (memory_cleared live w) known.memory) image_is world,
  (
    subst (λ (x : Step). x.p < length n.world.processors) (sym step) (there_next image w u n there world),
    record {
      before = cleared live w;
      known = subst (λ (i : ImageValue). IsKnown t i (cleared live w)) (sym image_is) known;
      is_key = is ∙ ap (λ (i : ImageValue). key_of t i (cleared live w)) (sym image_is);
      others =
          others_cleared live w n.world c.step.p
          (subst (λ (x : Step). n.world.processors ≡ set w.processors x.p (processor_in n.world x.p)) (sym step)
          (subst (λ (x : World). x.processors ≡ set w.processors u.p (processor_in x u.p)) (sym world)
          (others_stay image w u (omega (arith, there, as_many image w u)))));
      memory = λ on. memory_cleared live n.world ∙ memory on ∙ sym (memory_cleared live w);
      streams =
          subst (λ (x : ProcessorValue × ProcessorValue). HasOthersOf x.0 x.1 c)
          (λ i. (sym (processor_cleared live w c.step.p) i, sym (processor_cleared live n.world c.step.p) i))
          (streams_cleared live (processor_in w c.step.p) (processor_in n.world c.step.p) c
          (subst (λ (x : Step). HasOthersOf (processor_in w x.p) (processor_in n.world x.p) c) (sym step) others));
    },
  ),
)

-- the places that its key has
pub at_next : (image : ImageValue) (live : LiveValue) (t : List (List ℕ)) (w : World) (u : Step) (n : MachineValue)
    (key : List ℕ) (l : Places) → n.image ≡ image → n.world ≡ after image w u → u.p < length w.processors
    → IsKnown t n.image (cleared live n.world) → key ≡ key_of t n.image (cleared live n.world)
    → l.content ≡ get_or key (u.p + 1) 0 → l.memory ≡ get_or key 0 0
    → IsAt image t (cleared_processor live (processor_in (after image w u) u.p)) (after image w u).memory l
at_next image live t w u n key l image_is world there known is content memory =
    subst (λ (x : World). IsAt image t (cleared_processor live (processor_in x u.p)) x.memory l) world
    (subst (λ (i : ImageValue). IsAt i t (cleared_processor live (processor_in n.world u.p)) n.world.memory l) image_is
    (at_key n.image live t n.world u.p key l known (there_next image w u n there world) is content memory))

-- where the step leaves all, those of the key before
pub at_stays : (image : ImageValue) (live : LiveValue) (t : List (List ℕ)) (w : World) (u : Step) (key : List ℕ) (l : Places)
    → after image w u ≡ w → u.p < length w.processors → IsKnown t image (cleared live w)
    → key ≡ key_of t image (cleared live w) → l.content ≡ get_or key (u.p + 1) 0 → l.memory ≡ get_or key 0 0
    → IsAt image t (cleared_processor live (processor_in (after image w u) u.p)) (after image w u).memory l
at_stays image live t w u key l stays there known is content memory =
    subst (λ (x : World). IsAt image t (cleared_processor live (processor_in x u.p)) x.memory l) (sym stays)
    (at_key image live t w u.p key l known there is content memory)

-- Lists of steps.

pub seen_at : (v : StepList) (t : List (List ℕ)) (ls : List Places) (asked : List ℕ) (k : ℕ) (l : Places)
    → record { asked = t; left = ls } ≡ v → length ls ≡ length t → k ≡ place_in t asked → Has t asked
    → l ≡ get_or ls k l → IsSeen v asked l
seen_at v t ls asked k l view each at has read =
    let below : k < length t = omega (arith, at, has) in
    subst (λ (x : StepList). IsSeen x asked l) view (
      k,
      below,
      ap (λ n. get_or t n []) at ∙ place_get t asked [] has,
      slice_get-get_or ls k l (omega (arith, below, each)) ∙ ap (λ (x : Places). Some x) (sym read),
    )

-- the list with one step more
pub seen_more : (v : StepList) (t more : List (List ℕ)) (ls more_left : List Places) (asked : List ℕ) (left : Places)
    → record { asked = t; left = ls } ≡ v → length ls ≡ length t → more ≡ t ++ asked ∷ []
    → more_left ≡ ls ++ left ∷ [] → (a : List ℕ) (l : Places) → IsSeen (record { asked = more; left = more_left }) a l
    → IsSeen v a l ⊎ ((a ≡ asked) × (l ≡ left))
seen_more v t more ls more_left asked left view each pushed put a l seen =
    by_place (cases_lt seen.0 (length t)) where
      k : ℕ
      k = seen.0

      here : get_or (t ++ asked ∷ []) k [] ≡ a
      here = ap (λ xs. get_or xs k []) (sym pushed) ∙ seen.2

      found : slice_get (ls ++ left ∷ []) k ≡ Some l
      found = ap (λ xs. slice_get xs k) (sym put) ∙ seen.3

      by_place : (k < length t) ⊎ (length t ≤ k) → IsSeen v a l ⊎ ((a ≡ asked) × (l ≡ left))
      by_place (inl less) =
          let fewer : k < length ls = omega (arith, less, each) in
          inl (subst (λ (x : StepList). IsSeen x a l) view (
            k,
            less,
            sym (get_or_append_left t (asked ∷ []) [] k less) ∙ here,
            slice_get-get_or ls k left fewer
                ∙ sym (ap (λ (x : Places). Some x) (get_or_append_left ls (left ∷ []) left k fewer))
                ∙ sym (slice_get-get_or (ls ++ left ∷ []) k left (omega (arith, fewer, length-append ls (left ∷ []))))
                ∙ found,
          ))
      by_place (inr past) =
          let at : k ≡ length t = omega (arith, past, seen.1, ap length pushed, length-append t (asked ∷ [])) in
          let at_left : k ≡ length ls = omega (arith, at, each) in
          let last : Some left ≡ Some l =
          ap (λ (x : Places). Some x) (sym (get_or-append_seam ls left [] left))
          ∙ ap (λ n. Some (get_or (ls ++ left ∷ []) n left)) (sym at_left)
          ∙ sym (slice_get-get_or (ls ++ left ∷ []) k left (omega (arith, at_left, length-append ls (left ∷ []))))
          ∙ found in
          inr (
            sym (sym (get_or-append_seam t asked [] []) ∙ ap (λ n. get_or (t ++ asked ∷ []) n []) (sym at) ∙ here),
            sym cc,
          )

pub seen_kept : (v w : StepList) (a : List ℕ) (l : Places) (asked : List ℕ) (left : Places) → w ≡ v → IsSeen w a l
    → IsSeen v a l ⊎ ((a ≡ asked) × (l ≡ left))
seen_kept v w a l asked left same seen = inl (subst (λ (x : StepList). IsSeen x a l) same seen)

pub none_left : (image : ImageValue) (live : LiveValue) (t : List (List ℕ)) (v : StepList) → v ≡ no_steps
    → AreLeft image live t v
none_left image live t v none asked l seen = absurd (omega (arith, seen.1, ap (λ (x : StepList). length x.asked) none))

pub left_kept : (image : ImageValue) (live : LiveValue) (old new : List (List ℕ)) (v : StepList) → Extends old new
    → AreLeft image live old v → AreLeft image live new v
left_kept image live old new v grown all asked l seen =
    let is = all asked l seen in
    let e = row_over_memory image is.processor is.s is.memory in
    record {
      processor = is.processor;
      memory = is.memory;
      s = is.s;
      before = is.before;
      is_asked = is.is_asked;
      told = is.told;
      at = at_kept image old new (cleared_processor live is.processor) is.memory is.before grown is.at;
      left = at_kept image old new (cleared_processor live e.0.0) e.1 l grown is.left;
    }

pub left_more : (image : ImageValue) (live : LiveValue) (t : List (List ℕ)) (v more : StepList) (asked : List ℕ) (left : Places)
    → ((a : List ℕ) (l : Places) → IsSeen more a l → IsSeen v a l ⊎ ((a ≡ asked) × (l ≡ left)))
    → AreLeft image live t v → IsLeft image live t asked left → AreLeft image live t more
left_more image live t v more asked left each all one a l seen = by_case (each a l seen) where
  by_case : IsSeen v a l ⊎ ((a ≡ asked) × (l ≡ left)) → IsLeft image live t a l
  by_case (inl before) = all a l before
  by_case (inr same) =
      subst (λ (x : List ℕ × Places). IsLeft image live t x.0 x.1) (λ i. (sym same.0 i, sym same.1 i)) one

-- The key behind a step.

-- what is known of a step of which nothing is known
abbrev any_change : Step → Change
any_change t = record { step = t; is_memory_kept = false; are_others_kept = false }

key_before : (image : ImageValue) (live : LiveValue) (t : List (List ℕ)) (w : World) (u : Step) (key : List ℕ)
    → IsKnown t image (cleared live w) → key ≡ key_of t image (cleared live w) → u.p < length w.processors
    → IsKeyBefore t image (cleared live (after image w u)) (any_change u) key
key_before image live t w u key known is there = record {
  before = cleared live w;
  known = known;
  is_key = is;
  others = others_cleared live w (after image w u) u.p (others_stay image w u (omega (arith, there, as_many image w u)));
  memory = λ e. cc;
  streams = λ e. cc;
}

pub key_is : (image : ImageValue) (live : LiveValue) (old new : List (List ℕ)) (w : World) (u : Step) (key more : List ℕ)
    (l : Places) → IsKnown old image (cleared live w) → key ≡ key_of old image (cleared live w)
    → u.p < length w.processors → Extends old new
    → IsAt image new (cleared_processor live (processor_in (after image w u) u.p)) (after image w u).memory l
    → more ≡ set (set key 0 l.memory) (u.p + 1) l.content
    → more ≡ key_of new image (cleared live (after image w u))
key_is image live old new w u key more l known is there grown at made =
    let next = after image w u in
    let memory = sym (memory_cleared live next) in
    next_is old new new image (cleared live next) l.memory l.content (any_change u) key more
    (key_before image live old w u key known is there) grown (extends_refl new)
    (at.memory ∙ ap (λ (m : TaggedMemory). place_in new (memory_numbers image m)) memory)
    (subst (λ (m : TaggedMemory). Has new (memory_numbers image m)) memory at.has)
    (at.content ∙ ap (processor_place new) (sym (processor_cleared live next u.p))) made

-- with the places that it has a key is as it was
pub key_same : (key : List ℕ) (p : ℕ) (l : Places) → l.content ≡ get_or key (p + 1) 0 → l.memory ≡ get_or key 0 0
    → key ≡ set (set key 0 l.memory) (p + 1) l.content
key_same key p l content memory =
    sym (
    ap (λ n. set (set key 0 n) (p + 1) l.content) memory
    ∙ ap (λ xs. set xs (p + 1) l.content) (set-get_or key 0 0)
    ∙ ap (set key (p + 1)) content
    ∙ set-get_or key (p + 1) 0
    )

pub key_known : (image : ImageValue) (live : LiveValue) (old new : List (List ℕ)) (w : World) (u : Step) (key : List ℕ)
    (l : Places) → IsKnown old image (cleared live w) → key ≡ key_of old image (cleared live w)
    → u.p < length w.processors → Extends old new
    → IsAt image new (cleared_processor live (processor_in (after image w u) u.p)) (after image w u).memory l
    → IsKnown new image (cleared live (after image w u))
key_known image live old new w u key l known is there grown at =
    let next = after image w u in
    let memory = sym (memory_cleared live next) in
    next_known old new new image (cleared live next) (any_change u) key
    (key_before image live old w u key known is there) (subst (IsMemoryOf image) memory at.of) grown (extends_refl new)
    (subst (λ (m : TaggedMemory). Has new (memory_numbers image m)) memory at.has)
    (subst (IsKnownProcessor new image) (sym (processor_cleared live next u.p)) at.known)

-- a step of a processor that is not there leaves all
pub absent_stays : (image : ImageValue) (w : World) (u : Step) → (u.p < length w.processors → ⊥)
    → after image w u ≡ w
absent_stays image w u none = by_processor (slice_get w.processors u.p) refl where
  by_processor : (o : Option ProcessorValue) → slice_get w.processors u.p ≡ o → after image w u ≡ w
  by_processor None there = after-absent image w u there
  by_processor (Some proc) there = absurd (none (slice_get_within w.processors u.p proc there))
