-- Which streams have to be looked at, where something is so of each stream that a machine does not have.
use Rattle.std.proofs.Common.{◌≡◌, ℕ, ◌+◌, ◌<◌, ◌≤◌, ◌⊎◌, refl, sym, ap, subst, arith, inl, inr}
use Rattle.std.proofs.Common.{Option, Some, None, Bool, true, length, slice_get}
use Rattle.std.specs.Prelude.{IsTrue}
use Rattle.std.specs.Option.{option_and_then}
use Rattle.std.proofs.lemmas.Bool.{cases_lt}
use Rattle.std.proofs.lemmas.Option.{slice_get_past}
use Rattle.stream_core.specs.Streams.{StreamValue}
use Rattle.processor.specs.Processors.{ProcessorValue}
use Rattle.processor.specs.World.{World}
use Rattle.processor.specs.declared.steps.Step.{Step}
use Rattle.machine.specs.MachineValue.{MachineValue, IsMachine}
use Rattle.waiting.specs.Running.{streams_at}
use Rattle.waiting.proofs.Standing.{few_streams}
use Rattle.waiting.proofs.Looking.{below_next}
use Rattle.expectations.specs.Meeting.{stream_in}

-- past the image's slim there is no stream
past_slim : (size : ℕ) (m : MachineValue) (t : Step) → IsMachine size m → m.image.slim ≤ t.s
    → stream_in m.world t.p t.s ≡ None
past_slim size m t machine past = by_processor (slice_get m.world.processors t.p) refl where
  by_processor : (o : Option ProcessorValue) → slice_get m.world.processors t.p ≡ o
      → option_and_then (λ (d : ProcessorValue). slice_get d.streams t.s) o ≡ None
  by_processor None got = refl
  by_processor (Some proc) got =
      let few : length (streams_at (slice_get m.world.processors t.p)) ≤ m.image.slim =
      few_streams size m t.p machine in
      let same : length (streams_at (slice_get m.world.processors t.p)) ≡ length proc.streams =
      ap (λ (x : Option ProcessorValue). length (streams_at x)) got in
      slice_get_past proc.streams t.s (omega (arith, few, same))

-- past the image's entries there is no processor
past_entries : (size : ℕ) (m : MachineValue) (t : Step) → IsMachine size m → length m.image.entries ≤ t.p
    → stream_in m.world t.p t.s ≡ None
past_entries size m t machine past =
    ap (option_and_then (λ (d : ProcessorValue). slice_get d.streams t.s))
    (slice_get_past m.world.processors t.p (omega (arith, machine.one_each)))

module _ (is_so : ℕ → ℕ → Option StreamValue → Bool) (none_so : (p s : ℕ) → is_so p s None ≡ true) where
  -- whether it is so of a stream
  abbrev IsSo : World → Step → Type 0
  IsSo w t = IsTrue (is_so t.p t.s (stream_in w t.p t.s))

  missing : (w : World) (t : Step) → stream_in w t.p t.s ≡ None → IsSo w t
  missing w t none = subst (λ x. IsTrue (is_so t.p t.s x)) (sym none) (none_so t.p t.s)

  -- one processor more was looked at
  pub one_more : (size : ℕ) (m : MachineValue) (p n : ℕ) → IsMachine size m
      → m.image.slim ≤ n → ((t : Step) → t.p < p → IsSo m.world t)
      → ((k : ℕ) → k < n → IsSo m.world (record { p = p; s = k }))
      → (t : Step) → t.p < p + 1 → IsSo m.world t
  one_more size m p n machine past below here =
      below_next (IsSo m.world) p below (λ k. each k (cases_lt k n)) where
        each : (k : ℕ) → (k < n) ⊎ (n ≤ k) → IsSo m.world (record { p = p; s = k })
        each k (inl less) = here k less
        each k (inr most) =
            missing m.world (record { p = p; s = k })
            (past_slim size m (record { p = p; s = k }) machine (omega (arith, past, most)))

  -- all were looked at
  pub all_looked_at : (size : ℕ) (m : MachineValue) (p : ℕ) → IsMachine size m
      → length m.image.entries ≤ p → ((t : Step) → t.p < p → IsSo m.world t)
      → (t : Step) → IsSo m.world t
  all_looked_at size m p machine past below t = by (cases_lt t.p p) where
    by : (t.p < p) ⊎ (p ≤ t.p) → IsSo m.world t
    by (inl less) = below t less
    by (inr most) = missing m.world t (past_entries size m t machine (omega (arith, past, most)))
