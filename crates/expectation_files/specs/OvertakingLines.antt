-- What a line says of a stream that others overtake while it waits.
use Rattle.std.specs.Prelude.{ℕ, Bool, false, nat_le, ◌&&◌, ◌||◌, if◌then◌else◌, List, [], ◌∷◌, codes, Option, Some, None, Result, Ok}
use Rattle.std.specs.Str.{bytes_eq}
use Rattle.image_file.specs.ImageValue.{ImageValue}
use Rattle.processor.specs.declared.steps.Step.{Step}
use Rattle.expectation_files.specs.Values.{count_named, stream_named}
use Rattle.expectation_files.specs.Addresses.{Names}
use Rattle.expectation_files.specs.WordLines.{at}
use Rattle.expectation_files.specs.ClaimLines.{and_then, next_stream}
use Rattle.expectation_files.specs.Conditions.{ConditionValue, ConditionsSaid, OvertakenSo}
use Rattle.expectation_files.specs.LeadsLines.{places_here, stream_here, stands_in}
use Rattle.expectation_files.specs.declared.addresses.PlaceRange.{PlaceRange}
use Rattle.expectation_files.specs.declared.faults.LineFault.{LineFault}
use Rattle.expectation_files.specs.declared.faults.LineFaultKind.TheVariants as fault
use Rattle.expectation_files.specs.declared.faults.LineForm.TheVariants as form

abbrev pub no_overtaking : {A : Type 0} → ℕ → Result A LineFault
no_overtaking k = at k (fault.Form form.Overtaken)

-- a stream that waits at program words of a range is overtaken at most so many times by another, at those of a range
abbrev pub overtaken_by : Step → PlaceRange → ℕ → Step → PlaceRange → ConditionValue
overtaken_by t a n u b = OvertakenSo (record { who = t; waits = stands_in t a; inside = stands_in u b; most = n })

-- the most times, which the word of this number says: 1,000 or fewer
abbrev pub times_here : ℕ → Option ℕ → Result ℕ LineFault
times_here k None = at k fault.Count
times_here k (Some n) = if nat_le n 1000 then Ok n else no_overtaking k

-- the stream and its places, the most times, and the other stream and its places, each where it stands on its line
abbrev pub overtaking_of : Names → ImageValue → List ℕ → List ℕ → List ℕ → List ℕ → List ℕ → ConditionsSaid
overtaking_of names i p r n q s =
    and_then (stream_here i 0 (stream_named p)) (λ t.
    and_then (places_here names i 2 r) (λ a.
    and_then (times_here 7 (count_named n)) (λ k.
    and_then (next_stream i 10 (t ∷ []) (stream_named q)) (λ u.
    and_then (places_here names i 12 s) (λ b. Ok (overtaken_by t a k u b ∷ []))))))

-- in, is overtaken
abbrev pub is_passed : List ℕ → List ℕ → List ℕ → Bool
is_passed a b o = bytes_eq a (codes "in") && (bytes_eq b (codes "is") && bytes_eq o (codes "overtaken"))

-- at most, times or time
abbrev pub is_bounded : List ℕ → List ℕ → List ℕ → Bool
is_bounded c m t =
    bytes_eq c (codes "at") && (bytes_eq m (codes "most") && (bytes_eq t (codes "times") || bytes_eq t (codes "time")))

-- by, at
abbrev pub is_passing : List ℕ → List ℕ → Bool
is_passing y d = bytes_eq y (codes "by") && bytes_eq d (codes "at")

-- STREAM in PLACES is overtaken at most N times by STREAM at PLACES, with the first stream in front
abbrev pub overtaking_said : Names → ImageValue → List ℕ → List (List ℕ) → ConditionsSaid
overtaking_said names i p (a ∷ r ∷ b ∷ o ∷ c ∷ m ∷ n ∷ t ∷ y ∷ q ∷ d ∷ s ∷ []) =
    if is_passed a b o && (is_bounded c m t && is_passing y d) then overtaking_of names i p r n q s else no_overtaking 0
overtaking_said names i p _ = no_overtaking 0

-- Lines in which `overtaken` stands behind `is`.

abbrev pub begins_with_overtaken : List (List ℕ) → Bool
begins_with_overtaken [] = false
begins_with_overtaken (w ∷ ws) = bytes_eq w (codes "overtaken")

abbrev pub is_overtaking : List (List ℕ) → Bool
is_overtaking [] = false
is_overtaking (w ∷ ws) = (bytes_eq w (codes "is") && begins_with_overtaken ws) || is_overtaking ws
