-- What steps left, said of their streams.
use Rattle.std.proofs.Common.{◌≡◌, ℕ, zero, suc, ◌+◌, ◌*◌, ◌<◌, ◌≤◌, Bool, true, false, refl, sym, ap, ◌∙◌, subst, arith}
use Rattle.std.proofs.Common.{List, [], ◌∷◌, ◌++◌, Some, ◌⊎◌, inl, inr, length, set, slice_get, cond}
use Rattle.std.proofs.lemmas.Bool.{cases_Bool}
use Rattle.std.proofs.lemmas.List.{length-map, map-set, get_or-set_same}
use Rattle.std.proofs.lemmas.Option.{slice_get-get_or}
use Rattle.tag_memory.specs.Storage.{TaggedMemory}
use Rattle.image_file.specs.ImageValue.{ImageValue}
use Rattle.stream_core.specs.Streams.{StreamValue, idle}
use Rattle.processor.specs.Processors.{ProcessorValue, is_idle, count_current, stream_at}
use Rattle.processor.specs.Row.{with_stream}
use Rattle.processor.specs.World.{World, after}
use Rattle.processor.specs.declared.steps.Step.{Step}
use Rattle.processor.proofs.Counting.{weight, count-set}
use Rattle.world_keys.specs.DeadRegisters.Clearing.{LiveValue, cleared_stream, cleared_processor, IsLive}
use Rattle.world_keys.specs.Tables.{place_in, Has, Extends}
use Rattle.world_keys.specs.StreamNumbers.{stream_numbers, IsReadable}
use Rattle.world_keys.specs.MemoryNumbers.{memory_numbers}
use Rattle.world_keys.specs.WorldKeys.{stream_marks, processor_numbers, processor_in, IsKnownIf}
use Rattle.world_keys.specs.WorldKeys.{IsKnownStream, IsHeld, IsKnownProcessor}
use Rattle.world_keys.proofs.Places.{place_same, place_extended, has_extended}
use Rattle.world_keys.proofs.Streams.{same_stream}
use Rattle.world_keys.proofs.Memories.{same_memory}
use Rattle.world_keys.proofs.Clearings.{stream_cleared}
use Rattle.world_keys.proofs.Replacing.{from_first, before_read, numbers_replaced, held_replaced}
use Rattle.schedule_space.specs.declared.known_steps.Places.{Places}
use Rattle.schedule_space.specs.declared.marks.Mark.{Mark}
use Rattle.schedule_space.specs.KnownSteps.{StepList, no_steps, IsSeen, IsAt, IsTold}
use Rattle.schedule_space.specs.StreamSteps.{stream_over_memory, IsPlainIn, IsStreamAt, IsStreamLeft, AreStreamsLeft, AreAllLeft}
use Rattle.schedule_space.specs.declared.known_steps.StepsSeen.{StepsSeen}
use Rattle.schedule_space.specs.StreamSteps.{IsStreamAsked, IsMark}
use Rattle.schedule_space.proofs.AlikeSteps.{plain_alike, streams_alike}
use Rattle.schedule_space.proofs.KnownSteps.{after_parts}
use Rattle.schedule_space.proofs.KnownSteps.{none_left as one_none}
use Rattle.schedule_space.proofs.PlainSteps.{plain_processor, plain_memory}

-- Places in a table.

at_kept : (image : ImageValue) (old new : List (List ℕ)) (s : StreamValue) (m : TaggedMemory) (l : Places)
    → Extends old new → IsStreamAt image old s m l → IsStreamAt image new s m l
at_kept image old new s m l grown is = record {
  awake = is.awake;
  there = has_extended old new (stream_numbers s) grown is.there;
  readable = is.readable;
  of = is.of;
  has = has_extended old new (memory_numbers image m) grown is.has;
  content = is.content ∙ sym (place_extended old new (stream_numbers s) grown is.there);
  memory = is.memory ∙ sym (place_extended old new (memory_numbers image m) grown is.has);
}

at_same : (image : ImageValue) (t : List (List ℕ)) (a b : StreamValue) (m n : TaggedMemory) (l k : Places)
    → l.content ≡ k.content → l.memory ≡ k.memory → IsStreamAt image t a m l → IsStreamAt image t b n k
    → (a ≡ b) × (m ≡ n)
at_same image t a b m n l k content memory one other = (
  same_stream a b one.readable other.readable
      (place_same t (stream_numbers a) (stream_numbers b) one.there other.there
      (sym one.content ∙ content ∙ other.content)),
  same_memory image m n one.of other.of
      (place_same t (memory_numbers image m) (memory_numbers image n) one.has other.has
      (sym one.memory ∙ memory ∙ other.memory)),
)

-- Lists of steps.

none_left : (image : ImageValue) (live : LiveValue) (t : List (List ℕ)) (v : StepList) → v ≡ no_steps
    → AreStreamsLeft image live t v
none_left image live t v none asked l seen = absurd (omega (arith, seen.1, ap (λ (x : StepList). length x.asked) none))

pub all_none : (image : ImageValue) (live : LiveValue) (t : List (List ℕ)) (v : StepsSeen)
    → v ≡ record { by_processor = no_steps; by_stream = no_steps } → AreAllLeft image live t v
all_none image live t v none = record {
  by_processor = one_none image live t v.by_processor (ap (λ (x : StepsSeen). x.by_processor) none);
  by_stream = none_left image live t v.by_stream (ap (λ (x : StepsSeen). x.by_stream) none);
}

pub left_kept : (image : ImageValue) (live : LiveValue) (old new : List (List ℕ)) (v : StepList) → Extends old new
    → AreStreamsLeft image live old v → AreStreamsLeft image live new v
left_kept image live old new v grown all asked l seen =
    let is = all asked l seen in
    let e = stream_over_memory image is.stream is.memory in
    record {
      stream = is.stream;
      memory = is.memory;
      before = is.before;
      is_asked = is.is_asked;
      plain = is.plain;
      told = is.told;
      at = at_kept image old new (cleared_stream live is.stream) is.memory is.before grown is.at;
      left = at_kept image old new (cleared_stream live e.0) e.1 l grown is.left;
    }

pub left_more : (image : ImageValue) (live : LiveValue) (t : List (List ℕ)) (v more : StepList) (asked : List ℕ) (left : Places)
    → ((a : List ℕ) (l : Places) → IsSeen more a l → IsSeen v a l ⊎ ((a ≡ asked) × (l ≡ left)))
    → AreStreamsLeft image live t v → IsStreamLeft image live t asked left → AreStreamsLeft image live t more
left_more image live t v more asked left each all one a l seen = by_case (each a l seen) where
  by_case : IsSeen v a l ⊎ ((a ≡ asked) × (l ≡ left)) → IsStreamLeft image live t a l
  by_case (inl before) = all a l before
  by_case (inr same) =
      subst (λ (x : List ℕ × Places). IsStreamLeft image live t x.0 x.1) (λ i. (sym same.0 i, sym same.1 i)) one

-- Marks.

-- a stream that is not idle stands at its mark
pub record IsAwakeAt (t : List (List ℕ)) (ss : List StreamValue) (s place : ℕ) : Type 0 where
  pub awake : is_idle (stream_at ss s) ≡ false
  pub there : s < length ss
  pub is_place : place ≡ place_in t (stream_numbers (stream_at ss s))

first_at : (t : List (List ℕ)) (n q place : ℕ) (u : StreamValue) (us : List StreamValue) (ms : List ℕ) (c s : ℕ)
    → is_idle u ≡ false → q ≡ place_in t (stream_numbers u)
    → ((j : ℕ) → slice_get ms (2 * j) ≡ Some (n + s) → slice_get ms (2 * j + 1) ≡ Some place → IsAwakeAt t (u ∷ us) s place)
    → ((j a : ℕ) → slice_get ms (2 * j) ≡ Some a → n + 1 ≤ a)
    → slice_get (n ∷ q ∷ ms) (2 * c) ≡ Some (n + s) → slice_get (n ∷ q ∷ ms) (2 * c + 1) ≡ Some place
    → IsAwakeAt t (u ∷ us) s place
first_at t n q place u us ms zero zero busy q_is later bound is at = record {
  awake = busy;
  there = omega arith;
  is_place = (let same : q ≡ place = cc in sym same) ∙ q_is;
}
first_at t n q place u us ms zero (suc s) busy q_is later bound is at =
    let same : n ≡ n + suc s = cc in absurd (omega (arith, same))
first_at t n q place u us ms (suc c) s busy q_is later bound is at =
    let one : 2 * suc c ≡ suc (suc (2 * c)) = omega arith in
    let two : 2 * suc c + 1 ≡ suc (suc (2 * c + 1)) = omega arith in
    later c (subst (λ j. slice_get (n ∷ q ∷ ms) j ≡ Some (n + s)) one is)
    (subst (λ j. slice_get (n ∷ q ∷ ms) j ≡ Some place) two at)

no_mark : (n q : ℕ) (ms : List ℕ) (b : Bool) → b ≡ true → cond b [] (n ∷ q ∷ []) ++ ms ≡ ms
no_mark n q ms true on = refl
no_mark n q ms false on = absurd cc

one_mark : (n q : ℕ) (ms : List ℕ) (b : Bool) → b ≡ false → cond b [] (n ∷ q ∷ []) ++ ms ≡ n ∷ q ∷ ms
one_mark n q ms true off = absurd cc
one_mark n q ms false off = refl

next_at : (t : List (List ℕ)) (u : StreamValue) (us : List StreamValue) (s place : ℕ) → IsAwakeAt t us s place
    → IsAwakeAt t (u ∷ us) (suc s) place
next_at t u us s place is = record {
  awake = is.awake;
  there = omega (arith, is.there);
  is_place = is.is_place;
}

pub mark_at : (t : List (List ℕ)) (n : ℕ) (ss : List StreamValue) (c s place : ℕ)
    → slice_get (stream_marks t n ss) (2 * c) ≡ Some (n + s) → slice_get (stream_marks t n ss) (2 * c + 1) ≡ Some place
    → IsAwakeAt t ss s place
unfolding stream_marks
mark_at t n [] c s place is at = absurd cc
mark_at t n (u ∷ us) c zero place is at =
    let q = place_in t (stream_numbers u) in
    let ms = stream_marks t (n + 1) us in
    let bound : (j a : ℕ) → slice_get ms (2 * j) ≡ Some a → n + 1 ≤ a = λ j a there. from_first t (n + 1) us j a there in
    let never : (j : ℕ) → slice_get ms (2 * j) ≡ Some (n + 0) → ⊥ =
    λ j there. let more = bound j (n + 0) there in omega (arith, more) in
    elim (cases_Bool (is_idle u)) [
      | inl e ↦ absurd (never c (ap (λ xs. slice_get xs (2 * c)) (sym (no_mark n q ms (is_idle u) e)) ∙ is))
      | inr e ↦
          first_at t n q place u us ms c 0 e refl (λ j there _. absurd (never j there)) bound
          (ap (λ xs. slice_get xs (2 * c)) (sym (one_mark n q ms (is_idle u) e)) ∙ is)
          (ap (λ xs. slice_get xs (2 * c + 1)) (sym (one_mark n q ms (is_idle u) e)) ∙ at)
    ]
mark_at t n (u ∷ us) c (suc s) place is at =
    let q = place_in t (stream_numbers u) in
    let ms = stream_marks t (n + 1) us in
    let bound : (j a : ℕ) → slice_get ms (2 * j) ≡ Some a → n + 1 ≤ a = λ j a there. from_first t (n + 1) us j a there in
    let number : n + suc s ≡ n + 1 + s = omega arith in
    let rest : (j : ℕ) → slice_get ms (2 * j) ≡ Some (n + suc s) → slice_get ms (2 * j + 1) ≡ Some place
    → IsAwakeAt t (u ∷ us) (suc s) place =
    λ j there content. next_at t u us s place (mark_at t (n + 1) us j s place (there ∙ ap (λ k. Some k) number) content) in
    elim (cases_Bool (is_idle u)) [
      | inl e ↦
          rest c (ap (λ xs. slice_get xs (2 * c)) (sym (no_mark n q ms (is_idle u) e)) ∙ is)
          (ap (λ xs. slice_get xs (2 * c + 1)) (sym (no_mark n q ms (is_idle u) e)) ∙ at)
      | inr e ↦
          first_at t n q place u us ms c (suc s) e refl rest bound
          (ap (λ xs. slice_get xs (2 * c)) (sym (one_mark n q ms (is_idle u) e)) ∙ is)
          (ap (λ xs. slice_get xs (2 * c + 1)) (sym (one_mark n q ms (is_idle u) e)) ∙ at)
    ]

-- the same of a processor whose numbers stand at a place of the table
mark_stream : (image : ImageValue) (t : List (List ℕ)) (proc : ProcessorValue) (m : TaggedMemory) (l : Places) (s : ℕ)
    (mark : Mark) → IsAt image t proc m l → (is : IsMark t l.content s mark)
    → (is.numbers ≡ processor_numbers t proc) × IsAwakeAt t proc.streams s mark.content
mark_stream image t proc m l s mark at is =
    let read : is.numbers ≡ processor_numbers t proc =
    before_read t proc l.content is.numbers at.known.numbers at.content (sym is.there) in
    let one : 2 * mark.number + 1 ≡ suc (2 * mark.number) = omega arith in
    let two : 2 * mark.number + 2 ≡ suc (2 * mark.number + 1) = omega arith in
    let number : s ≡ 0 + s = omega arith in (
      read,
      mark_at t 0 proc.streams mark.number s mark.content
          ((λ i. slice_get (sym read i) (sym one i)) ∙ is.stream ∙ ap (λ k. Some k) number)
          ((λ i. slice_get (sym read i) (sym two i)) ∙ is.content),
    )

-- what the stream of a mark holds is in the table
stream_known : (t : List (List ℕ)) (s : StreamValue) → is_idle s ≡ false → IsKnownStream t s
    → Has t (stream_numbers s) × IsReadable s
stream_known t s awake known = subst (IsKnownIf t s) awake known

stream_held : (image : ImageValue) (t : List (List ℕ)) (proc : ProcessorValue) (m : TaggedMemory) (l : Places) (s place : ℕ)
    → IsAt image t proc m l → IsAwakeAt t proc.streams s place
    → IsStreamAt image t (stream_at proc.streams s) m (record { content = place; memory = l.memory })
stream_held image t proc m l s place at is =
    let known = stream_known t (stream_at proc.streams s) is.awake (at.known.held.streams s is.there) in
    record {
      awake = is.awake;
      there = known.0;
      readable = known.1;
      of = at.of;
      has = at.has;
      content = is.is_place;
      memory = at.memory;
    }

-- the same of a stream that is cleared
cleared_held : (image : ImageValue) (live : LiveValue) (t : List (List ℕ)) (proc : ProcessorValue) (m : TaggedMemory)
    (l : Places) (s place : ℕ) → IsAt image t (cleared_processor live proc) m l
    → IsAwakeAt t (cleared_processor live proc).streams s place
    → IsStreamAt image t (cleared_stream live (stream_at proc.streams s)) m (record { content = place; memory = l.memory })
cleared_held image live t proc m l s place at is =
    subst (λ (x : StreamValue). IsStreamAt image t x m (record { content = place; memory = l.memory }))
    (stream_cleared live proc.streams s) (stream_held image t (cleared_processor live proc) m l s place at is)

-- what is asked of the stream of a step
pub stream_asked : (image : ImageValue) (live : LiveValue) (t : List (List ℕ)) (w : World) (u : Step) (here : Places)
    (mark : Mark) → IsAt image t (cleared_processor live (processor_in w u.p)) w.memory here → IsMark t here.content u.s mark
    → IsStreamAsked image live t w u (mark.content ∷ here.memory ∷ [])
stream_asked image live t w u here mark at is =
    let proc = processor_in w u.p in
    let found = mark_stream image t (cleared_processor live proc) w.memory here u.s mark at is in
    record {
      before = record { content = mark.content; memory = here.memory };
      is_asked = refl;
      there = omega (arith, found.1.there, length-map proc.streams (cleared_stream live));
      at = cleared_held image live t proc w.memory here u.s mark.content at found.1;
    }

-- it may be asked where the table is extended
pub asked_kept : (image : ImageValue) (live : LiveValue) (old new : List (List ℕ)) (w : World) (u : Step) (asked : List ℕ)
    → Extends old new → IsStreamAsked image live old w u asked → IsStreamAsked image live new w u asked
asked_kept image live old new w u asked grown is = record {
  before = is.before;
  is_asked = is.is_asked;
  there = is.there;
  at =
      at_kept image old new (cleared_stream live (stream_at (processor_in w u.p).streams u.s)) w.memory is.before grown is.at;
}

-- Steps.

-- what a step leaves that changes its stream and the memory alone
plain_parts : (image : ImageValue) (w : World) (u : Step) (s : StreamValue) → u.p < length w.processors
    → u.s < length (processor_in w u.p).streams → s ≡ stream_at (processor_in w u.p).streams u.s → IsPlainIn image s
    → (processor_in (after image w u) u.p ≡ with_stream (processor_in w u.p) u.s (stream_over_memory image s w.memory).0)
    × ((after image w u).memory ≡ (stream_over_memory image s w.memory).1)
plain_parts image w u s there within is plain =
    let proc = processor_in w u.p in
    let parts = after_parts image w u there in
    let some : slice_get proc.streams u.s ≡ Some s =
    slice_get-get_or proc.streams u.s idle within ∙ ap (λ x. Some x) (sym is) in (
      sym parts.0 ∙ plain_processor image proc u.s s w.memory some plain,
      sym parts.1 ∙ plain_memory image proc u.s s w.memory some plain,
    )

weight_awake : (s : StreamValue) → is_idle s ≡ false → weight s ≡ 1
weight_awake s awake = ap (λ b. cond b 0 1) awake

-- the processor with another stream that is not idle, whose numbers were put in the table
replaced : (image : ImageValue) (old new : List (List ℕ)) (proc : ProcessorValue) (numbers : List ℕ) (s c place : ℕ)
    (x : StreamValue) → Extends old new → IsHeld old image proc → numbers ≡ processor_numbers old proc
    → s < length proc.streams → is_idle (stream_at proc.streams s) ≡ false → slice_get numbers (2 * c + 1) ≡ Some s
    → is_idle x ≡ false → Has new (stream_numbers x) → IsReadable x → place ≡ place_in new (stream_numbers x)
    → Has new (set numbers (2 * c + 2) place)
    → (set numbers (2 * c + 2) place ≡ processor_numbers new (with_stream proc s x))
    × IsKnownProcessor new image (with_stream proc s x)
replaced image old new proc numbers s c place x grown held read there awake at busy has readable place_is put =
    let next = with_stream proc s x in
    let first : numbers ≡ set numbers 0 proc.sres = read ∙ sym (ap (λ xs. set xs 0 proc.sres) read) in
    let is : set numbers (2 * c + 2) place ≡ processor_numbers new next =
    numbers_replaced old new image proc next s c place x numbers (set numbers (2 * c + 2) place) grown held read refl busy
    at place_is (ap (λ xs. set xs (2 * c + 2) place) first) in
    let counts : proc.scur ≡ count_current next.streams =
    omega (
      arith,
      held.counts,
      count-set proc.streams s x there,
      weight_awake (stream_at proc.streams s) awake,
      weight_awake x busy,
    ) in (
      is,
      record {
        held =
            held_replaced old new image proc next s x grown held refl (sym (get_or-set_same proc.streams s x idle there))
            (subst (IsKnownIf new x) (sym busy) (has, readable)) counts;
        numbers = subst (Has new) is put;
      },
    )

-- the processor with another stream is cleared as the stream is
stream_set : (live : LiveValue) (proc : ProcessorValue) (n : ℕ) (x : StreamValue)
    → cleared_processor live (with_stream proc n x) ≡ with_stream (cleared_processor live proc) n (cleared_stream live x)
stream_set live proc n x =
    ap (λ (ss : List StreamValue). record { streams = ss; scur = proc.scur; sres = proc.sres })
    (map-set (cleared_stream live) proc.streams n x)

-- what the step of a list left, the same step of a stream that is the same where both are cleared leaves again
pub stream_again : (image : ImageValue) (live : LiveValue) → IsLive image live → (old new : List (List ℕ)) (w : World)
    (u : Step) (here l more : Places) (mark : Mark) → Extends old new → u.p < length w.processors
    → IsAt image old (cleared_processor live (processor_in w u.p)) w.memory here
    → (is : IsMark old here.content u.s mark) → IsStreamLeft image live old (mark.content ∷ here.memory ∷ []) l
    → more.content ≡ place_in new (set is.numbers (2 * mark.number + 2) l.content)
    → Has new (set is.numbers (2 * mark.number + 2) l.content) → more.memory ≡ l.memory
    → IsAt image new (cleared_processor live (processor_in (after image w u) u.p)) (after image w u).memory more
stream_again image live is_live old new w u here l more mark grown there at is left more_is put memory_is =
    let real = processor_in w u.p in
    let s = stream_at real.streams u.s in
    let proc = cleared_processor live real in
    let found = mark_stream image old proc w.memory here u.s mark at is in
    let now = cleared_held image live old real w.memory here u.s mark.content at found.1 in
    let same : left.before.content ∷ left.before.memory ∷ [] ≡ mark.content ∷ here.memory ∷ [] = sym left.is_asked in
    let content : left.before.content ≡ mark.content = cc in
    let memory : left.before.memory ≡ here.memory = cc in
    let held =
    at_same image old (cleared_stream live left.stream) (cleared_stream live s) left.memory w.memory left.before
    (record { content = mark.content; memory = here.memory }) content memory left.at now in
    let alike = streams_alike image live is_live left.stream s w.memory left.told left.plain held.0 in
    let e = stream_over_memory image s w.memory in
    let x = cleared_stream live e.0 in
    let there_too : IsStreamAt image old (cleared_stream live (stream_over_memory image left.stream w.memory).0)
    (stream_over_memory image left.stream w.memory).1 l =
    subst (λ (m : TaggedMemory).
    IsStreamAt image old (cleared_stream live (stream_over_memory image left.stream m).0)
    (stream_over_memory image left.stream m).1 l)
    held.1 left.left in
    let behind : IsStreamAt image old x e.1 l =
    subst (λ (y : StreamValue × TaggedMemory). IsStreamAt image old y.0 y.1 l) (λ i. (alike.0 i, alike.1 i)) there_too in
    let within : u.s < length real.streams =
    omega (arith, found.1.there, length-map real.streams (cleared_stream live)) in
    let parts = plain_parts image w u s there within refl (plain_alike image live left.stream s held.0 left.plain) in
    let place_is : l.content ≡ place_in new (stream_numbers x) =
    behind.content ∙ sym (place_extended old new (stream_numbers x) grown behind.there) in
    let done =
    replaced image old new proc is.numbers u.s mark.number l.content x grown at.known.held found.0 found.1.there
    found.1.awake is.stream behind.awake (has_extended old new (stream_numbers x) grown behind.there) behind.readable
    place_is put in
    let here_now : IsAt image new (with_stream proc u.s x) e.1 more =
    record {
      known = done.1;
      of = behind.of;
      has = has_extended old new (memory_numbers image e.1) grown behind.has;
      content = more_is ∙ ap (place_in new) done.0;
      memory =
          memory_is ∙ behind.memory ∙ sym (place_extended old new (memory_numbers image e.1) grown behind.has);
    } in
    let processors : with_stream proc u.s x ≡ cleared_processor live (processor_in (after image w u) u.p) =
    sym (stream_set live real u.s e.0) ∙ ap (cleared_processor live) (sym parts.0) in
    subst (λ (y : ProcessorValue × TaggedMemory). IsAt image new y.0 y.1 more)
    (λ i. (processors i, sym parts.1 i)) here_now

-- a step that was taken
pub stream_now : (image : ImageValue) (live : LiveValue) (t : List (List ℕ)) (w : World) (u : Step) (asked : List ℕ)
    (left : Places) (mark : Mark) → u.p < length w.processors → IsStreamAsked image live t w u asked
    → IsTold image (stream_at (processor_in w u.p).streams u.s)
    → IsPlainIn image (stream_at (processor_in w u.p).streams u.s)
    → IsAt image t (cleared_processor live (processor_in (after image w u) u.p)) (after image w u).memory left
    → IsMark t left.content u.s mark
    → IsStreamLeft image live t asked (record { content = mark.content; memory = left.memory })
stream_now image live t w u asked left mark there is told plain at marked =
    let proc = processor_in w u.p in
    let next = processor_in (after image w u) u.p in
    let s = stream_at proc.streams u.s in
    let e = stream_over_memory image s w.memory in
    let parts = plain_parts image w u s there is.there refl plain in
    let found = mark_stream image t (cleared_processor live next) (after image w u).memory left u.s mark at marked in
    let held = cleared_held image live t next (after image w u).memory left u.s mark.content at found.1 in
    let stream : stream_at next.streams u.s ≡ e.0 =
    ap (λ (p : ProcessorValue). stream_at p.streams u.s) parts.0 ∙ get_or-set_same proc.streams u.s e.0 idle is.there in
    record {
      stream = s;
      memory = w.memory;
      before = is.before;
      is_asked = is.is_asked;
      plain = plain;
      told = told;
      at = is.at;
      left =
          subst (λ (y : StreamValue × TaggedMemory).
          IsStreamAt image t (cleared_stream live y.0) y.1 (record { content = mark.content; memory = left.memory }))
          (λ i. (stream i, parts.1 i)) held;
    }
