-- Each list of bytes is one image or has one fault.
use Rattle.std.specs.Prelude.{◌≡◌, ◌↔◌, ℕ, List, None}
use Rattle.image_file.specs.ImageValue.{ImageValue}
use Rattle.image_file.specs.Fields.{IsBytes}
use Rattle.image_file.specs.Spelling.{Stands}
use Rattle.image_file.specs.Reading.{image_fault}

-- bytes have no fault exactly where they stand for an image
abbrev pub ImageOrFault : Type 0
ImageOrFault = (bytes : List ℕ) → IsBytes bytes → (image_fault bytes ≡ None) ↔ ((i : ImageValue) × Stands bytes i)

-- they stand for one at most
abbrev pub OneImage : Type 0
OneImage = (bytes : List ℕ) (i j : ImageValue) → Stands bytes i → Stands bytes j → i ≡ j

-- and no other bytes stand for it
abbrev pub OneSpelling : Type 0
OneSpelling = (i : ImageValue) (bytes others : List ℕ) → Stands bytes i → Stands others i → bytes ≡ others
