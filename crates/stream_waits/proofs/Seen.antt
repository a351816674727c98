-- Where a stream stands, as it is seen.
use Rattle.std.proofs.Common.{◌≡◌, ℕ, ◌≤◌, Bool, true, false, refl, sym, ap, ◌∙◌, arith}
use Rattle.std.proofs.Common.{Option, Some, None, List, [], ◌∷◌, length, get_or, slice_get}
use Rattle.std.proofs.Common.{nat_lt, if◌then◌else◌, zero, suc}
use Rattle.std.proofs.lemmas.Bool.{ltb-false}
use Rattle.stream_core.specs.Streams.{StreamValue, idle}
use Rattle.processor.specs.Processors.{ProcessorValue, stream_at}
use Rattle.processor.specs.World.{stream_of, stream_seen_at}
use Rattle.processor.specs.declared.steps.Step.{Step}
use Rattle.machine.specs.MachineValue.{MachineValue, IsMachine}
use Rattle.waiting.specs.Running.{streams_at}
use Rattle.waiting.proofs.Standing.{few_streams}
use Rattle.step_views.specs.Places.{used_stream, used_stream_in}
use Rattle.step_views.specs.StepViews.{pc_of}

-- a stream that is not there stands at 0
pc_or_idle : (ss : List StreamValue) (n : ℕ) → pc_of (Some (get_or ss n idle)) ≡ pc_of (slice_get ss n)
pc_or_idle [] n = refl
pc_or_idle (s ∷ ss) zero = refl
pc_or_idle (s ∷ ss) (suc n) = pc_or_idle ss n

pc_past : (ss : List StreamValue) (n : ℕ) → length ss ≤ n → pc_of (slice_get ss n) ≡ 0
pc_past [] n past = refl
pc_past (s ∷ ss) zero past = absurd (omega (arith, past))
pc_past (s ∷ ss) (suc n) past = pc_past ss n (omega (arith, past))

seen_by : (ss : List StreamValue) (n : ℕ) (b : Bool) → (b ≡ false → length ss ≤ n)
    → pc_of (if b then Some (stream_at ss n) else None) ≡ pc_of (slice_get ss n)
seen_by ss n true past = pc_or_idle ss n
seen_by ss n false past = sym (pc_past ss n (past refl))

-- what is seen of a stream tells where it stands
pub pc_seen : (size : ℕ) (m : MachineValue) (t : Step) (o : Option StreamValue) → IsMachine size m
    → o ≡ stream_of size m.world t.p t.s → pc_of o ≡ pc_of (used_stream m.world t.p t.s)
pc_seen size m t o machine is = ap pc_of is ∙ by_processor (slice_get m.world.processors t.p) refl where
  by_processor : (x : Option ProcessorValue) → slice_get m.world.processors t.p ≡ x
      → pc_of (stream_seen_at size t.s x) ≡ pc_of (used_stream_in x t.s)
  by_processor None got = refl
  by_processor (Some proc) got =
      seen_by proc.streams t.s (nat_lt t.s size)
      (λ off.
      let few : length (streams_at (slice_get m.world.processors t.p)) ≤ m.image.slim = few_streams size m t.p machine in
      let same : length (streams_at (slice_get m.world.processors t.p)) ≡ length proc.streams =
      ap (λ (x : Option ProcessorValue). length (streams_at x)) got in
      omega (arith, ltb-false _ _ off, few, same, machine.within))
