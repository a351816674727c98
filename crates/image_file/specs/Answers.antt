-- How reading answers.
use Rattle.std.specs.Prelude.{◌≡◌, ◌⊎◌, List, ℕ, Option, Some, None, Result, MatchResult}
use Rattle.image_file.specs.declared.fault.ImageFault.{ImageFault}
use Rattle.image_file.specs.declared.fault.ImageFault.TheVariants.{NoMemory}
use Rattle.image_file.specs.ImageValue.{ImageValue}
use Rattle.image_file.specs.Reading.{image_at, image_fault}

-- the fault that was found, or that memory was refused where there is none
abbrev pub SaysFault : ImageFault → Option ImageFault → Type 0
SaysFault fault found = (found ≡ Some fault) ⊎ ((fault ≡ NoMemory) × (found ≡ None))

abbrev pub Reads : List ℕ → Result ImageValue ImageFault → Type 0
Reads bytes result =
    MatchResult result
    (λ i. (image_fault bytes ≡ None) × (i ≡ image_at bytes))
    (λ fault. SaysFault fault (image_fault bytes))
