-- Which changes fill a word that was empty, or empty one that was full.
use Rattle.std.specs.Prelude.{◌≡◌, ◌≢◌, ℕ, Bool, false}
use Rattle.tag_memory.specs.Cell.{has_bit}
use Rattle.step_views.specs.declared.places.Place.TheVariants as place
use Rattle.step_views.specs.declared.places.Content.{Content}
use Rattle.step_views.specs.declared.places.Content.TheVariants as content
use Rattle.step_views.specs.declared.places.Change.{Change}

-- whether a content is the tags of a full word
abbrev pub has_full_bit : Content → Bool
has_full_bit (content.Number n) = false
has_full_bit (content.Codes c) = false
has_full_bit (content.Mask m) = false
has_full_bit (content.InTrap b) = false
has_full_bit (content.Status s) = false
has_full_bit (content.Target w) = false
has_full_bit (content.Tags t) = has_bit t.0 0

-- a change of the tags of the word at this address, which was full or is full, and not both
pub record FillsOrEmpties (address : ℕ) (change : Change) : Type 0 where
  pub of_word : change.place ≡ place.Tags address
  pub differ : has_full_bit change.before ≢ has_full_bit change.after
