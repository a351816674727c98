-- The places of the worlds of an image, in the order in which it is told in what two worlds differ.
use Rattle.std.specs.Prelude.{ℕ, zero, suc, ◌+◌, ◌*◌, List, [], ◌∷◌, ◌++◌, length}
use Rattle.image_file.specs.ImageValue.{ImageValue}
use Rattle.processor.specs.World.{World}
use Rattle.step_views.specs.declared.places.StreamPart.TheVariants as part
use Rattle.step_views.specs.declared.places.Place.{Place}
use Rattle.step_views.specs.declared.places.Place.TheVariants as place
use Rattle.step_views.specs.declared.places.Change.{Change}
use Rattle.step_views.specs.Places.{content_of}
use Rattle.step_views.specs.Comparing.{AreKept, part_entry}

-- The places.

-- what f gives of each of n numbers from k on, one after the other
unfoldable pub each : (n k : ℕ) → (f : ℕ → List Place) → List Place
each zero k f = []
each (suc n) k f = f k ++ each n (k + 1) f

-- the parts of a stream that are no registers
abbrev pub state_places : ℕ → ℕ → List Place
state_places p s =
    place.Stream p s part.Pc
    ∷ place.Stream p s part.Codes
    ∷ place.Stream p s part.Mask
    ∷ place.Stream p s part.InTrap
    ∷ place.Stream p s part.TrapRegister
    ∷ place.Stream p s part.Retries
    ∷ place.Stream p s part.Status
    ∷ []

abbrev pub register_place : ℕ → ℕ → ℕ → List Place
register_place p s r = place.Stream p s (part.Register r) ∷ []

abbrev pub target_place : ℕ → ℕ → ℕ → List Place
target_place p s t = place.Stream p s (part.Target t) ∷ []

-- the parts of a stream
abbrev pub stream_places : ℕ → ℕ → List Place
stream_places p s = state_places p s ++ each 32 0 (register_place p s) ++ each 8 0 (target_place p s)

-- the counts of a processor that has so many streams, and the parts of its streams
abbrev pub processor_places : ℕ → ℕ → List Place
processor_places slim p = (place.Current p ∷ place.Reserved p ∷ []) ++ each slim 0 (stream_places p)

-- the value and the tags of a word
abbrev pub word_places : ℕ → List Place
word_places k = place.Value (k * 8) ∷ place.Tags (k * 8) ∷ []

-- all places of the worlds of an image: those of its processors, then those of its words
abbrev pub places_of : ImageValue → List Place
places_of image =
    each (length image.entries) 0 (processor_places image.slim) ++ each (length image.cells) 0 word_places

-- What is told of them.

-- for each of the places, what stands there in the one world and in the other
abbrev pub place_entries : World → World → List Place → List Change
place_entries w v [] = []
place_entries w v (x ∷ xs) = part_entry x (content_of w x) (content_of v x) ++ place_entries w v xs

-- a list, and the same with those of the places behind it in which the worlds differ, in the order of the places
abbrev pub AreTold : World → World → List Place → List Change → List Change → Type 0
AreTold w v xs old new = AreKept (place_entries w v xs) old new
