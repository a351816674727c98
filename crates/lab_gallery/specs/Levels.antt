-- Which level of a gallery a card has.
use Rattle.std.specs.Prelude.{ℕ, Bool, List}
use Rattle.std.specs.Str.{bytes_eq}
use Rattle.lab_gallery.specs.declared.levels.Level.{Level}

-- whether a level is of the card of this name
abbrev pub is_of_card : List ℕ → Level → Bool
is_of_card name level = bytes_eq level.card.now name
