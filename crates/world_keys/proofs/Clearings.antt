-- What is read of a world that is cleared of registers that do not matter.
use Rattle.std.proofs.Common.{◌≡◌, ℕ, ◌+◌, refl, sym, ap, ◌∙◌, subst, arith, length, map, get_or, List, [], ◌∷◌, cond}
use Rattle.std.proofs.lemmas.List.{length-map}
use Rattle.std.proofs.Math.ListN.{get_or-map}
use Rattle.stream_core.specs.Streams.{StreamValue, idle}
use Rattle.processor.specs.Processors.{ProcessorValue, IsCounted, IsZeroIfIdle, is_idle, count_current, stream_at}
use Rattle.processor.specs.World.{World}
use Rattle.dead_registers.specs.Clearing.{LiveValue, cleared_stream, cleared_processor, cleared}
use Rattle.dead_registers.proofs.Registers.{idle_same}
use Rattle.world_keys.specs.WorldKeys.{processor_in, no_processor}

module _ (l : LiveValue) where
  -- Processors.

  pub stream_cleared : (ss : List StreamValue) (k : ℕ)
      → stream_at (map (cleared_stream l) ss) k ≡ cleared_stream l (stream_at ss k)
  stream_cleared ss k = get_or-map (cleared_stream l) ss k idle

  count_cleared : (ss : List StreamValue) → count_current (map (cleared_stream l) ss) ≡ count_current ss
  count_cleared [] = refl
  count_cleared (s ∷ ss) = ap (λ n. cond (is_idle s) 0 1 + n) (count_cleared ss)

  zero_cleared : (s : StreamValue) → IsZeroIfIdle s → IsZeroIfIdle (cleared_stream l s)
  zero_cleared s zeros rests = idle_same l s rests ∙ zeros rests

  pub counted_cleared : (proc : ProcessorValue) → IsCounted proc → IsCounted (cleared_processor l proc)
  counted_cleared proc counted = record {
    counts = counted.counts ∙ sym (count_cleared proc.streams);
    within_sres = counted.within_sres;
    within_slim = omega (arith, counted.within_slim, length-map proc.streams (cleared_stream l));
    zeros = λ n. subst IsZeroIfIdle (sym (stream_cleared proc.streams n)) (zero_cleared (stream_at proc.streams n) (counted.zeros n));
  }

  -- Worlds.

  pub memory_cleared : (w : World) → (cleared l w).memory ≡ w.memory
  unfolding cleared
  memory_cleared w = refl

  pub processors_cleared : (w : World) → (cleared l w).processors ≡ map (cleared_processor l) w.processors
  unfolding cleared
  processors_cleared w = refl

  pub as_many_cleared : (w : World) → length (cleared l w).processors ≡ length w.processors
  as_many_cleared w = ap length (processors_cleared w) ∙ length-map w.processors (cleared_processor l)

  pub processor_cleared : (w : World) (p : ℕ) → processor_in (cleared l w) p ≡ cleared_processor l (processor_in w p)
  processor_cleared w p =
      ap (λ ps. get_or ps p no_processor) (processors_cleared w)
      ∙ get_or-map (cleared_processor l) w.processors p no_processor

  pub stream_in_cleared : (w : World) (p s : ℕ)
      → stream_at (processor_in (cleared l w) p).streams s ≡ cleared_stream l (stream_at (processor_in w p).streams s)
  stream_in_cleared w p s =
      ap (λ (q : ProcessorValue). stream_at q.streams s) (processor_cleared w p)
      ∙ stream_cleared (processor_in w p).streams s
