-- Where a stream was stopped.
use Rattle.std.proofs.Common.{◌≡◌, ℕ, ◌<◌, ◌≤◌, Bool, true, false, refl, sym, ap, ◌∙◌, arith}
use Rattle.std.proofs.Common.{Option, Some, None, List, [], ◌∷◌, length, get_or, slice_get}
use Rattle.std.proofs.Common.{nat_lt, if◌then◌else◌, zero, suc}
use Rattle.std.proofs.lemmas.Bool.{ltb-false}
use Rattle.std.proofs.lemmas.Option.{slice_get_within}
use Rattle.waiting.specs.StreamCore.Streams.{StreamValue, idle}
use Rattle.waiting.specs.Processor.Processors.{ProcessorValue, stream_at}
use Rattle.waiting.specs.Processor.World.{World, stream_of, stream_seen_at}
use Rattle.waiting.specs.ProcessorTypes.Step.{Step}
use Rattle.waiting.specs.Machine.MachineValue.{MachineValue, IsMachine}
use Rattle.waiting.specs.Running.{streams_at}
use Rattle.waiting.proofs.Standing.{few_streams}
use Rattle.end_kinds.specs.Ends.{stopped_at, stopped_in, SomeStopped}

stopped_within : (ss : List StreamValue) (n slim : ℕ) → length ss ≤ slim → stopped_at (slice_get ss n) ≡ true
    → n < slim
stopped_within ss n slim few stopped = by_test (slice_get ss n) refl stopped where
  by_test : (x : Option _) → slice_get ss n ≡ x → stopped_at x ≡ true → n < slim
  by_test None got e = cc
  by_test (Some s) got e = let within = slice_get_within ss n s got in omega arith

-- a stream that is not there was not stopped
stopped_or_idle : (ss : List StreamValue) (n : ℕ) → stopped_at (Some (get_or ss n idle)) ≡ stopped_at (slice_get ss n)
stopped_or_idle [] n = refl
stopped_or_idle (s ∷ ss) zero = refl
stopped_or_idle (s ∷ ss) (suc n) = stopped_or_idle ss n

stopped_past : (ss : List StreamValue) (n : ℕ) → length ss ≤ n → stopped_at (slice_get ss n) ≡ false
stopped_past [] n past = refl
stopped_past (s ∷ ss) zero past = absurd (omega (arith, past))
stopped_past (s ∷ ss) (suc n) past = stopped_past ss n (omega (arith, past))

seen_by : (ss : List StreamValue) (n : ℕ) (b : Bool) → (b ≡ false → length ss ≤ n)
    → stopped_at (if b then Some (stream_at ss n) else None) ≡ stopped_at (slice_get ss n)
seen_by ss n true past = stopped_or_idle ss n
seen_by ss n false past = sym (stopped_past ss n (past refl))

-- what is seen of a stream tells whether it was stopped
pub stopped_seen : (size : ℕ) (m : MachineValue) (t : Step) (o : Option StreamValue) → IsMachine size m
    → o ≡ stream_of size m.world t.p t.s → stopped_at o ≡ stopped_in m.world t
stopped_seen size m t o machine is = ap stopped_at is ∙ by_processor (slice_get m.world.processors t.p) refl where
  by_processor : (x : Option ProcessorValue) → slice_get m.world.processors t.p ≡ x
      → stopped_at (stream_seen_at size t.s x) ≡ stopped_at (slice_get (streams_at x) t.s)
  by_processor None got = refl
  by_processor (Some proc) got =
      seen_by proc.streams t.s (nat_lt t.s size)
      (λ off.
      let few : length (streams_at (slice_get m.world.processors t.p)) ≤ m.image.slim = few_streams size m t.p machine in
      let same : length (streams_at (slice_get m.world.processors t.p)) ≡ length proc.streams =
      ap (λ (x : Option ProcessorValue). length (streams_at x)) got in
      omega (arith, ltb-false _ _ off, few, same, machine.within))

processor_within : (w : World) (t : Step) (o : Option ProcessorValue) → slice_get w.processors t.p ≡ o
    → stopped_at (slice_get (streams_at o) t.s) ≡ true → t.p < length w.processors
processor_within w t None got stopped = cc
processor_within w t (Some proc) got stopped = slice_get_within w.processors t.p proc got

not_true : (b : Bool) → (b ≡ true → ⊥) → b ≡ false
not_true true never = absurd (never refl)
not_true false _ = refl

-- no stream of a processor was stopped, where none below the image's slim was
pub none_stopped : (size : ℕ) (m : MachineValue) (p n : ℕ) → IsMachine size m → m.image.slim ≤ n
    → ((k : ℕ) → k < n → stopped_in m.world (record { p = p; s = k }) ≡ false)
    → (k : ℕ) → stopped_in m.world (record { p = p; s = k }) ≡ false
none_stopped size m p n machine past none k =
    not_true _ (λ stopped.
    let ss = streams_at (slice_get m.world.processors p) in
    let within = stopped_within ss k m.image.slim (few_streams size m p machine) stopped in
    let rests = none k (omega arith) in
    let e : ⊥ = cc in
    e)

-- no stream was stopped at all
pub none_is_stopped : (size : ℕ) (m : MachineValue) (p : ℕ) → IsMachine size m → length m.image.entries ≤ p
    → ((t : Step) → t.p < p → stopped_in m.world t ≡ false) → SomeStopped m.world → ⊥
none_is_stopped size m p machine past none some =
    let within = processor_within m.world some.0 (slice_get m.world.processors some.0.p) refl some.1 in
    let rests = none some.0 (omega (arith, machine.one_each)) in
    let e : ⊥ = cc in
    e
