-- What the command `words` runs: a machine of one processor with room for one stream, over one data word.
use Rattle.std.specs.Prelude.{ℕ, ◌-◌, ◌^◌, List, [], ◌∷◌, length, replicate}
use Rattle.tag_memory.specs.Cell.{cell_of}
use Rattle.image_file.specs.ImageValue.{ImageValue, image_of}
use Rattle.processor.specs.World.{World, run}
use Rattle.processor.specs.declared.steps.Step.{Step}

-- its image: one entry at the first word, slim 1, retry limit 0, no trap handler, one full data word that holds 0
abbrev pub words_image : List ℕ → ImageValue
words_image program = image_of (0 ∷ []) 1 0 (2 ^ 32 - 1) program (cell_of 0 1 ∷ [])

-- a step of its stream
abbrev pub only_step : Step
only_step = record { p = 0; s = 0 }

-- the world after as many steps as the program has words
unfoldable pub words_world : List ℕ → World
words_world program = run (words_image program) (replicate (length program) only_step)
