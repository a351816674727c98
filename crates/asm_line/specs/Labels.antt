-- What labels say of each name.
use Rattle.std.specs.Prelude.{ℕ, if◌then◌else◌, List, Option, Some, None}
use Rattle.std.specs.Str.{bytes_eq}
use Rattle.std.specs.Map.{lookup}
use Rattle.asm_line.specs.Operands.{Places}
use Rattle.asm_line.specs.Lines.{stands}
use Rattle.asm_line.specs.declared.place.Place.{Place}
use Rattle.asm_line.specs.declared.labels.Labels.{Labels}

unfoldable pub places_of : Labels → Places
places_of labels name = lookup (λ label. bytes_eq name label.now) labels.places.entries

-- what a line with this label at this place says of a name
abbrev pub place_told : List ℕ → Option (List ℕ) → Place → Option Place
place_told name label p = if stands name label then Some p else None
