-- A stream that runs, and the world after its step.
use Rattle.std.proofs.Common.{◌≡◌, ℕ, zero, suc, ◌<◌, true, refl, ap, ◌∙◌, arith, set, slice_get}
use Rattle.std.proofs.Common.{List, [], ◌∷◌, length, Option, Some, None, if◌then◌else◌, nat_lt}
use Rattle.std.specs.Prelude.{IsTrue}
use Rattle.std.proofs.lemmas.Bool.Decides.{nat_tests}
use Rattle.std.proofs.lemmas.Option.{slice_get_within}
use Rattle.image_file.specs.ImageValue.{ImageValue}
use Rattle.stream_core.specs.Streams.{StreamValue}
use Rattle.stream_core.specs.declared.steps.Outcome.{Outcome}
use Rattle.processor.specs.Processors.{ProcessorValue, stream_at}
use Rattle.processor.specs.Records.{is_running}
use Rattle.processor.specs.Row.{row_over_memory}
use Rattle.processor.specs.World.{World, world_step, world_step_at, world_with, stream_of, stream_seen_at, counts_at}
use Rattle.processor.specs.declared.steps.Step.{Step}
use Rattle.machine.specs.MachineValue.{MachineValue, IsMachine}
use Rattle.waiting.specs.Running.{streams_at, runs_at, runs_in}
use Rattle.waiting.proofs.StuckSteps.{there_below}
use Rattle.schedule_makers.specs.Advancing.{seen_of, current_at}

-- the processor of a stream that runs
pub record RunsThere (w : World) (t : Step) : Type 0 where
  pub proc : ProcessorValue
  pub there : slice_get w.processors t.p ≡ Some proc
  pub within : t.s < length proc.streams
  pub runs : is_running (stream_at proc.streams t.s) ≡ true

runs_among : (ss : List StreamValue) (n : ℕ) → runs_at (slice_get ss n) ≡ true
    → (n < length ss) × (is_running (stream_at ss n) ≡ true)
runs_among [] n runs = absurd (let e : ⊥ = cc in e)
runs_among (s ∷ ss) zero runs = (omega arith, runs)
runs_among (s ∷ ss) (suc n) runs = let found = runs_among ss n runs in (omega (arith, found.0), found.1)

runs_of : (w : World) (t : Step) (o : Option ProcessorValue) → slice_get w.processors t.p ≡ o
    → runs_at (slice_get (streams_at o) t.s) ≡ true → RunsThere w t
runs_of w t None there runs = absurd (let e : ⊥ = cc in e)
runs_of w t (Some proc) there runs =
    let found = runs_among proc.streams t.s runs in
    record { proc = proc; there = there; within = found.0; runs = found.1 }

pub runs_there : (w : World) (t : Step) → IsTrue (runs_in w t) → RunsThere w t
runs_there w t runs = runs_of w t (slice_get w.processors t.p) refl runs

-- The world after a step.

pub stepped : (image : ImageValue) (w new : World) (t : Step) (o : Outcome) (proc : ProcessorValue)
    → slice_get w.processors t.p ≡ Some proc → (new, o) ≡ world_step image w t
    → (new, o) ≡ world_with w t.p (row_over_memory image proc t.s w.memory)
unfolding world_step
stepped image w new t o proc there is = is ∙ ap (world_step_at image w t) there

get-set : (ps : List ProcessorValue) (k : ℕ) (next : ProcessorValue) → k < length ps
    → slice_get (set ps k next) k ≡ Some next
get-set [] k next below = absurd (omega arith)
get-set (p ∷ ps) zero next below = refl
get-set (p ∷ ps) (suc k) next below = get-set ps k next (omega (arith, below))

-- the processor that stands there after it
pub next_there : (w : World) (p : ℕ) (proc next : ProcessorValue) → slice_get w.processors p ≡ Some proc
    → slice_get (set w.processors p next) p ≡ Some next
next_there w p proc next there = get-set w.processors p next (slice_get_within w.processors p proc there)

-- What is seen of it.

seen_if : (size n : ℕ) (ss : List StreamValue) → n < size
    → (if nat_lt n size then Some (stream_at ss n) else None) ≡ Some (stream_at ss n)
seen_if size n ss below =
    let test : nat_lt n size ≡ true = grind (arith, nat_tests) in
    ap (λ b. if b then Some (stream_at ss n) else None) test

pub seen_there : (size : ℕ) (w : World) (t : Step) (proc : ProcessorValue) → t.s < size
    → slice_get w.processors t.p ≡ Some proc → stream_of size w t.p t.s ≡ Some (stream_at proc.streams t.s)
seen_there size w t proc below there =
    ap (stream_seen_at size t.s) there ∙ seen_if size t.s proc.streams below

pub current_there : (size : ℕ) (w : World) (t : Step) (proc : ProcessorValue) → slice_get w.processors t.p ≡ Some proc
    → (seen_of size w t).current ≡ proc.scur
current_there size w t proc there = ap (λ o. current_at (counts_at o)) there

pub room_there : (size : ℕ) (m : MachineValue) (t : Step) (proc : ProcessorValue) → IsMachine size m
    → slice_get m.world.processors t.p ≡ Some proc → t.s < length proc.streams → t.s < size
room_there size m t proc machine there within = there_below size m t.p proc t.s machine there within
