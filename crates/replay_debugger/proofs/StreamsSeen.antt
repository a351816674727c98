-- The stream that a machine shows for a step is the one that the step names.
use Rattle.std.proofs.Common.{◌≡◌, ℕ, zero, suc, ◌<◌, ◌≤◌, inl, inr, refl, sym, ap, ◌∙◌, arith, List, [], ◌∷◌, length}
use Rattle.std.proofs.Common.{Bool, Option, Some, None, if◌then◌else◌, lt-ltb}
use Rattle.std.proofs.lemmas.Bool.{cases_lt, le-ltb}
use Rattle.std.proofs.lemmas.Option.{get_or_from_slice_get}
use Rattle.std.specs.List.{slice_get}
use Rattle.stream_core.specs.Streams.{StreamValue, idle}
use Rattle.processor.specs.Processors.{ProcessorValue, stream_at}
use Rattle.processor.specs.World.{stream_of, stream_seen_at}
use Rattle.processor.specs.declared.steps.Step.{Step}
use Rattle.machine.specs.MachineValue.{MachineValue, IsMachine}
use Rattle.replay_debugger.specs.Stops.{stream_named, stream_named_in}

-- an absent stream is idle
abbrev pub or_idle : Option StreamValue → StreamValue
or_idle None = idle
or_idle (Some s) = s

idle_past : (ss : List StreamValue) (k : ℕ) → length ss ≤ k → stream_at ss k ≡ idle
idle_past [] k past = refl
idle_past (s ∷ ss) zero past = absurd (omega arith)
idle_past (s ∷ ss) (suc k) past = idle_past ss k (omega arith)

within_get : {A : Type 0} (xs : List A) (k : ℕ) (x : A) → slice_get xs k ≡ Some x → k < length xs
within_get [] k x e = cc
within_get (y ∷ ys) zero x e = omega arith
within_get (y ∷ ys) (suc k) x e = let rest = within_get ys k x e in omega (arith, rest)

few_streams : (size : ℕ) (m : MachineValue) (p : ℕ) (d : ProcessorValue) → IsMachine size m
    → slice_get m.world.processors p ≡ Some d → length d.streams ≤ size
few_streams size m p d kept e =
    let slim = kept.slims p d (within_get m.world.processors p d e) in
    let same : length d.streams ≡ m.image.slim =
    ap (λ (q : ProcessorValue). length q.streams) (sym (get_or_from_slice_get m.world.processors p d d e)) ∙ slim in
    let within = kept.within in
    omega (arith, same, within)

seen_at : (size : ℕ) (m : MachineValue) (t : Step) (d : Option ProcessorValue) → IsMachine size m
    → slice_get m.world.processors t.p ≡ d → or_idle (stream_seen_at size t.s d) ≡ stream_named_in t.s d
seen_at size m t None kept e = refl
seen_at size m t (Some d) kept e = elim (cases_lt t.s size) [
  | inl below ↦
      ap (λ (b : Bool). or_idle (if b then Some (stream_at d.streams t.s) else None)) (lt-ltb t.s size below)
  | inr past ↦ let few = few_streams size m t.p d kept e in
      ap (λ (b : Bool). or_idle (if b then Some (stream_at d.streams t.s) else None)) (le-ltb t.s size past)
      ∙ sym (idle_past d.streams t.s (omega (arith, few, past)))
]

pub stream_seen_is : (size : ℕ) (m : MachineValue) (t : Step) (x : Option StreamValue) → IsMachine size m
    → x ≡ stream_of size m.world t.p t.s → or_idle x ≡ stream_named m.world t
stream_seen_is size m t x kept e = ap or_idle e ∙ seen_at size m t (slice_get m.world.processors t.p) kept refl
