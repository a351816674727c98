-- What is known of a world before a step, also by a table that was extended.
use Rattle.std.proofs.Common.{◌≡◌, ◌≢◌, ℕ, ◌+◌, ◌*◌, ◌<◌, ◌⊎◌, refl, sym, ap, ◌∙◌, subst, arith, List, [], ◌∷◌, ◌++◌, length, get_or, set, Bool, true, false}
use Rattle.stream_core.specs.declared.steps.Outcome.{Outcome}
use Rattle.image_file.specs.ImageValue.{ImageValue}
use Rattle.machine.specs.MachineValue.{MachineValue}
use Rattle.processor.specs.World.{World, after}
use Rattle.processor.specs.declared.steps.Step.{Step}
use Rattle.waiting.specs.Running.{runs_in}
use Rattle.std.specs.Prelude.{IsTrue}
use Rattle.agreeing_ends.specs.SameFutures.Handlers.{may_have_handlers}
use Rattle.agreeing_ends.specs.SameFutures.Links.{TellsHandlers}
use Rattle.agreeing_ends.proofs.SameFutures.NoHandlers.{told_by}
use Rattle.schedule_space.specs.Spaces.{SpaceValue, schedule_of, machine_after}
use Rattle.schedule_space.specs.Kept.{machine_next}
use Rattle.schedule_space.proofs.Schedules.{run-push}
use Rattle.world_keys.specs.DeadRegisters.Clearing.{LiveValue, cleared, cleared_processor, IsLive}
use Rattle.world_keys.specs.Tables.{place_in, Has, Extends}
use Rattle.world_keys.specs.WorldKeys.{processor_in, key_of, IsKnown}
use Rattle.world_keys.proofs.Worlds.{key_kept, known_kept}
use Rattle.schedule_space.specs.declared.known_steps.Places.{Places}
use Rattle.schedule_space.specs.declared.known_steps.StepsSeen.{StepsSeen}
use Rattle.schedule_space.specs.declared.fates.Fate.TheVariants as fate
use Rattle.schedule_space.specs.Fates.{IsFate}
use Rattle.schedule_space.specs.declared.marks.Mark.{Mark}
use Rattle.schedule_space.specs.KnownSteps.{StepList, IsSeen, IsAt, step_numbers, AreLeft}
use Rattle.schedule_space.specs.StreamSteps.{AreStreamsLeft, AreAllLeft, IsStreamAsked, IsMark}
use Rattle.schedule_space.specs.Before.{IsBefore, IsBehind}
use Rattle.schedule_space.proofs.AlikeSteps.{told_in}
use Rattle.schedule_space.proofs.KnownSteps.{at_key, key_many, at_kept, left_again, left_now, left_more}
use Rattle.schedule_space.proofs.KnownSteps.{left_kept as processors_kept}
use Rattle.schedule_space.proofs.StreamSteps.{left_kept as streams_kept}
use Rattle.schedule_space.proofs.StreamSteps.{stream_again, stream_asked}
use Rattle.schedule_space.proofs.Resting.{rested}

pub all_kept : (image : ImageValue) (live : LiveValue) (old new : List (List ℕ)) (v : StepsSeen) → Extends old new
    → AreAllLeft image live old v → AreAllLeft image live new v
all_kept image live old new v grown is = record {
  by_processor = processors_kept image live old new v.by_processor grown is.by_processor;
  by_stream = streams_kept image live old new v.by_stream grown is.by_stream;
}

pub before_kept : (live : LiveValue) (old new : List (List ℕ)) (seen more : StepsSeen) (m : MachineValue) (key : List ℕ)
    → Extends old new → AreAllLeft m.image live new more → IsBefore live old seen m key → IsBefore live new more m key
before_kept live old new seen more m key grown left is = record {
  is_live = is.is_live;
  told = is.told;
  known = known_kept old new m.image (cleared live m.world) grown is.known;
  is_key = is.is_key ∙ sym (key_kept old new m.image (cleared live m.world) grown is.known);
  left = left;
}

-- the processor of a step that the key has a number of is there
pub there_by : (live : LiveValue) (t : List (List ℕ)) (seen : StepsSeen) (m : MachineValue) (key : List ℕ) (p : ℕ)
    → IsBefore live t seen m key → p + 1 < length key → p < length m.world.processors
there_by live t seen m key p is below =
    omega (arith, below, key_many m.image live t m.world key is.is_key)

-- and the key has a number of each that is there
pub below_key : (live : LiveValue) (t : List (List ℕ)) (seen : StepsSeen) (m : MachineValue) (key : List ℕ) (p : ℕ)
    → IsBefore live t seen m key → p < length m.world.processors → p + 1 < length key
below_key live t seen m key p is there =
    omega (arith, there, key_many m.image live t m.world key is.is_key)

-- what the processor of a step holds before it
pub at_before : (live : LiveValue) (t : List (List ℕ)) (seen : StepsSeen) (m : MachineValue) (key : List ℕ) (p : ℕ) (l : Places)
    → IsBefore live t seen m key → p + 1 < length key → l.content ≡ get_or key (p + 1) 0 → l.memory ≡ get_or key 0 0
    → IsAt m.image t (cleared_processor live (processor_in m.world p)) m.world.memory l
at_before live t seen m key p l is below content memory =
    at_key m.image live t m.world p key l is.known (there_by live t seen m key p is below) is.is_key content memory

-- Steps that change something.

-- a step that leaves the world as it is leaves the places of its key
pub places_stay : (live : LiveValue) (t : List (List ℕ)) (seen : StepsSeen) (m : MachineValue) (key : List ℕ) (u : Step)
    (here left : Places) → IsBefore live t seen m key → u.p + 1 < length key → here.content ≡ get_or key (u.p + 1) 0
    → here.memory ≡ get_or key 0 0 → IsBehind live t m u left → after m.image m.world u ≡ m.world → left ≡ here
places_stay live t seen m key u here left is below content memory behind stays =
    let one = at_before live t seen m key u.p here is below content memory in
    let other : IsAt m.image t (cleared_processor live (processor_in m.world u.p)) m.world.memory left =
    subst (λ (w : World). IsAt m.image t (cleared_processor live (processor_in w u.p)) w.memory left) stays behind in
    λ i. record { content = (other.content ∙ sym one.content) i; memory = (other.memory ∙ sym one.memory) i }

-- a stream whose step changes something runs, and is not stuck
runs_by : (image : ImageValue) (w : World) (t : Step) (b : Bool) → runs_in w t ≡ b → after image w t ≢ w → b ≡ true
runs_by image w t true is moves = refl
runs_by image w t false is moves = absurd (moves (rested image w t is))

pub goes_on : (image : ImageValue) (w : World) (t : Step) → after image w t ≢ w → IsFate image w fate.GoesOn
goes_on image w t moves =
    let runs : runs_in w t ≡ true = runs_by image w t (runs_in w t) refl moves in (
      (t, runs),
      λ still. moves (ap (λ (x : World × Outcome). x.0) (still.each t runs).stays),
    )

-- Steps of which it is known what they leave.

module _ (live : LiveValue) (t : List (List ℕ)) (seen : StepsSeen) (m : MachineValue) (key : List ℕ) (u : Step) (here : Places)
    (is : IsBefore live t seen m key) (below : u.p + 1 < length key) (content : here.content ≡ get_or key (u.p + 1) 0)
    (memory : here.memory ≡ get_or key 0 0) where
  held : IsAt m.image t (cleared_processor live (processor_in m.world u.p)) m.world.memory here
  held = at_before live t seen m key u.p here is below content memory

  within : u.p < length m.world.processors
  within = there_by live t seen m key u.p is below

  -- by what its processor and the memory held
  pub known_behind : (asked : List ℕ) (l : Places) → asked ≡ step_numbers here u.s → IsSeen seen.by_processor asked l
      → IsBehind live t m u l
  known_behind asked l same at =
      left_again m.image live is.is_live t m.world u here l asked within same held (is.left.by_processor asked l at)

  -- by what its stream and the memory held
  pub stream_behind : (new : List (List ℕ)) (l more : Places) (mark : Mark) → Extends t new
      → (at : IsMark t here.content u.s mark) → IsSeen seen.by_stream (mark.content ∷ here.memory ∷ []) l
      → more.content ≡ place_in new (set at.numbers (2 * mark.number + 2) l.content)
      → Has new (set at.numbers (2 * mark.number + 2) l.content) → more.memory ≡ l.memory
      → IsBehind live new m u more
  stream_behind new l more mark grown at there more_is put memory_is =
      stream_again m.image live is.is_live t new m.world u here l more mark grown within held at
      (is.left.by_stream (mark.content ∷ here.memory ∷ []) l there) more_is put memory_is

  -- what it left is kept
  pub kept_behind : (new : List (List ℕ)) (v : StepList) (asked : List ℕ) (l : Places) → Extends t new
      → asked ≡ step_numbers here u.s
      → ((a : List ℕ) (k : Places) → IsSeen v a k → IsSeen seen.by_processor a k ⊎ ((a ≡ asked) × (k ≡ l)))
      → IsBehind live new m u l → AreLeft m.image live new v
  kept_behind new v asked l grown same each behind =
      left_more m.image live new seen.by_processor v asked l each
      (processors_kept m.image live t new seen.by_processor grown is.left.by_processor)
      (left_now m.image live t new m.world u here l asked grown within
      (told_in m.image m.world u.p within is.told) same held behind)

  -- what its stream left is asked by the table as it is now
  pub asked_behind : (new : List (List ℕ)) (mark : Mark) → Extends t new → IsMark new here.content u.s mark
      → IsStreamAsked m.image live new m.world u (mark.content ∷ here.memory ∷ [])
  asked_behind new mark grown at =
      stream_asked m.image live new m.world u here mark
      (at_kept m.image t new (cleared_processor live (processor_in m.world u.p)) m.world.memory here grown held) at

  pub streams_behind : (new : List (List ℕ)) → Extends t new → AreStreamsLeft m.image live new seen.by_stream
  streams_behind new grown = streams_kept m.image live t new seen.by_stream grown is.left.by_stream

-- where what a step left is kept, and perhaps what its stream left, it is known what all steps left
pub all_behind : (live : LiveValue) (t new : List (List ℕ)) (seen : StepsSeen) (m : MachineValue) (key : List ℕ) (u : Step)
    (here l : Places) (v streams : StepList) (s : ℕ) → IsBefore live t seen m key → u.p + 1 < length key
    → here.content ≡ get_or key (u.p + 1) 0 → here.memory ≡ get_or key 0 0 → Extends t new → s ≡ u.s
    → ((a : List ℕ) (k : Places) → IsSeen v a k
    → IsSeen seen.by_processor a k ⊎ ((a ≡ here.content ∷ s ∷ here.memory ∷ []) × (k ≡ l)))
    → IsBehind live new m u l
    → (AreStreamsLeft m.image live new seen.by_stream → AreStreamsLeft m.image live new streams)
    → AreAllLeft m.image live new (record { by_processor = v; by_stream = streams })
all_behind live t new seen m key u here l v streams s is below content memory grown same each behind more = record {
  by_processor =
      kept_behind live t seen m key u here is below content memory new v (here.content ∷ s ∷ here.memory ∷ []) l grown
      (λ i. here.content ∷ same i ∷ here.memory ∷ []) each behind;
  by_stream = more (streams_behind live t seen m key u here is below content memory new grown);
}

-- what is known of the world behind a step of the machine at a place
pub next_before : (v : SpaceValue) (live : LiveValue) (t : List (List ℕ)) (seen : StepsSeen) (from : ℕ) (u : Step) (m : MachineValue)
    (key : List ℕ) → m ≡ machine_after v.image (schedule_of v from) → IsLive m.image live
    → IsKnown t m.image (cleared live (after m.image m.world u))
    → key ≡ key_of t m.image (cleared live (after m.image m.world u)) → AreAllLeft m.image live t seen
    → IsBefore live t seen (machine_next m u) key
next_before v live t seen from u m key at is_live known is_key left = record {
  is_live = is_live;
  told =
      subst (λ (x : MachineValue). TellsHandlers (IsTrue (may_have_handlers x.image)) (after x.image x.world u)) (sym at)
      (subst (TellsHandlers (IsTrue (may_have_handlers v.image))) (run-push v.image (schedule_of v from) u)
      (told_by v.image (may_have_handlers v.image) refl (schedule_of v from ++ u ∷ [])));
  known = known;
  is_key = is_key;
  left = left;
}
