-- What a line says of a stream that may rest.
use Rattle.std.specs.Prelude.{ℕ, Bool, false, not, ◌&&◌, if◌then◌else◌, List, [], ◌∷◌, codes, Result, Ok}
use Rattle.std.specs.Str.{bytes_eq}
use Rattle.image_file.specs.ImageValue.{ImageValue}
use Rattle.processor.specs.declared.steps.Step.{Step}
use Rattle.expectation_files.specs.Values.{stream_named}
use Rattle.expectation_files.specs.Addresses.{Names}
use Rattle.expectation_files.specs.WordLines.{at}
use Rattle.expectation_files.specs.ClaimLines.{and_then}
use Rattle.expectation_files.specs.Conditions.{RestValue, RestSaid}
use Rattle.expectation_files.specs.LeadsLines.{places_here, stream_here, stands_in}
use Rattle.expectation_files.specs.declared.addresses.PlaceRange.{PlaceRange}
use Rattle.expectation_files.specs.declared.faults.LineFault.{LineFault}
use Rattle.expectation_files.specs.declared.faults.LineFaultKind.TheVariants as fault
use Rattle.expectation_files.specs.declared.faults.LineForm.TheVariants as form

abbrev pub no_rest : {A : Type 0} → Result A LineFault
no_rest = at 0 (fault.Form form.Rest)

-- a stream may rest at program words of a range
abbrev pub rests_in : Step → PlaceRange → RestValue
rests_in t a = record { who = t; places = stands_in t a }

-- the stream and its places, each where it stands on its line
abbrev pub rest_of : Names → ImageValue → List ℕ → List ℕ → RestSaid
rest_of names i p r =
    and_then (stream_here i 0 (stream_named p)) (λ t. and_then (places_here names i 4 r) (λ a. Ok (rests_in t a)))

-- may rest in
abbrev pub is_rest : List ℕ → List ℕ → List ℕ → Bool
is_rest m w a = bytes_eq m (codes "may") && (bytes_eq w (codes "rest") && bytes_eq a (codes "in"))

-- STREAM may rest in PLACES, with the stream in front
abbrev pub rest_said : Names → ImageValue → List ℕ → List (List ℕ) → RestSaid
rest_said names i p (m ∷ w ∷ a ∷ r ∷ []) = if is_rest m w a then rest_of names i p r else no_rest
rest_said names i p _ = no_rest

-- Lines in which `may` is the second word. Behind `word` it is the name of a data word.

abbrev pub begins_with_may : List (List ℕ) → Bool
begins_with_may [] = false
begins_with_may (w ∷ ws) = bytes_eq w (codes "may")

abbrev pub is_resting : List ℕ → List (List ℕ) → Bool
is_resting name os = not (bytes_eq name (codes "word")) && begins_with_may os
