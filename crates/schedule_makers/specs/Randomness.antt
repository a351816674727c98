-- A running stream by a generator's word.
use Rattle.std.specs.Prelude.{ℕ, zero, suc, ◌*◌, ◌/◌, ◌^◌, List, Option, length, slice_get}
use Rattle.processor.specs.declared.steps.Step.{Step}
use Rattle.waiting.specs.Running.{running_steps}
use Rattle.rand_xoshiro.specs.SplitMix64.{splitmix_seed}
use Rattle.rand_xoshiro.specs.Xoshiro256.{of_seed, plus_plus}
use Rattle.schedule_makers.specs.Rules.{Rule}

-- the state of the generator of a seed after so many words: xoshiro256++, begun with the bytes that SplitMix64 makes of
-- the seed
unfoldable pub generator_after : ℕ → ℕ → List ℕ
generator_after seed zero = of_seed (splitmix_seed 32 seed)
generator_after seed (suc k) = (plus_plus (generator_after seed k)).1

-- the word of 64 bits that it gives after so many words
unfoldable pub random_word : ℕ → ℕ → ℕ
random_word seed k = (plus_plus (generator_after seed k)).0

-- of n steps the one at place word * n / 2^64
abbrev pub step_by_word : ℕ → List Step → Option Step
step_by_word word ts = slice_get ts (word * length ts / 2 ^ 64)

-- At random: one of the running streams, by one word of the generator a step.
abbrev pub next_at_random : ℕ → Rule
next_at_random seed before image w = step_by_word (random_word seed (length before)) (running_steps w)
