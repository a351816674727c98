-- The words of a seed's generator that were taken, one a step.
use Rattle.std.specs.Prelude.{◌≡◌, List, length}
use Rattle.processor.specs.declared.steps.Step.{Step}
use Rattle.schedule_makers.specs.Randomness.{generator_after}
use Rattle.schedule_makers.specs.declared.seed_words.SeedWords.{SeedWords}

-- A generator has given a word for each of these steps.
abbrev pub AreWordsAfter : SeedWords → List Step → Type 0
AreWordsAfter words before = words.generator ≡ generator_after words.seed (length before)
