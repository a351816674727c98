-- What a line says of streams that come from one range of program words to another.
use Rattle.std.specs.Prelude.{ℕ, ◌+◌, Bool, false, ◌&&◌, ◌||◌, if◌then◌else◌, List, [], ◌∷◌, ◌++◌, length, map, codes, Option, Some, None}
use Rattle.std.specs.Prelude.{Result, Ok, Err}
use Rattle.std.specs.Str.{bytes_eq}
use Rattle.text_parts.specs.Pieces.{text_after}
use Rattle.image_file.specs.ImageValue.{ImageValue}
use Rattle.processor.specs.declared.steps.Step.{Step}
use Rattle.claims.specs.Missing.{has_stream}
use Rattle.claims.specs.declared.claim.CountTest.TheVariants as count
use Rattle.expectation_files.specs.Values.{stream_named}
use Rattle.expectation_files.specs.Addresses.{Names, PlacesSaid, place_said, places_said}
use Rattle.expectation_files.specs.WordLines.{at}
use Rattle.expectation_files.specs.ClaimLines.{ClaimFormValue, OfStreams, StreamsSaid, and_then, next_stream}
use Rattle.claims.specs.declared.run_conditions.Fairness.{Fairness}
use Rattle.claims.specs.declared.run_conditions.Fairness.TheVariants as fairness
use Rattle.expectation_files.specs.Conditions.{ConditionValue, ConditionsSaid, LeadsSo}
use Rattle.expectation_files.specs.declared.addresses.PlaceRange.{PlaceRange}
use Rattle.expectation_files.specs.declared.faults.LineFault.{LineFault}
use Rattle.expectation_files.specs.declared.faults.LineFaultKind.{LineFaultKind}
use Rattle.expectation_files.specs.declared.faults.LineFaultKind.TheVariants as fault
use Rattle.expectation_files.specs.declared.faults.LineForm.TheVariants as form

abbrev pub no_leads : {A : Type 0} → Result A LineFault
no_leads = at 0 (fault.Form form.Leads)

-- a stream runs at program words of a range
abbrev pub stands_in : Step → PlaceRange → ClaimFormValue
stands_in t r = OfStreams (count.AtLeast 1) (record { streams = t ∷ []; first = r.first; last = r.last } ∷ [])

-- a stream comes from one range to another
abbrev pub stream_leads : PlaceRange → PlaceRange → Fairness → Step → ConditionValue
stream_leads a b f t = LeadsSo (record { from = stands_in t a; to = stands_in t b; fairness = f })

-- Program words: a range, or one word alone.

abbrev pub one_place : Result ℕ LineFaultKind → PlacesSaid
one_place (Err kind) = Err kind
one_place (Ok n) = Ok (record { first = n; last = n })

abbrev pub range_or_place : Names → ℕ → List ℕ → Option (List ℕ) → PlacesSaid
range_or_place names count text None = one_place (place_said names count text)
range_or_place names count text (Some more) = places_said names count text

-- the program words that the word of this number says
abbrev pub places_of : ℕ → PlacesSaid → Result PlaceRange LineFault
places_of k (Err kind) = at k kind
places_of k (Ok r) = Ok r

unfoldable pub places_here : Names → ImageValue → ℕ → List ℕ → Result PlaceRange LineFault
places_here names i k text = places_of k (range_or_place names (length i.program) text (text_after 46 text))

-- the stream that the word of this number names, which the image has
abbrev pub stream_here : ImageValue → ℕ → Option Step → Result Step LineFault
stream_here i k None = at k fault.Stream
stream_here i k (Some t) = if has_stream i t then Ok t else at k fault.MissingStream

-- that a stream, which the word of this number names, runs at program words, which the word of that number says
abbrev pub standing_here : Names → ImageValue → ℕ → List ℕ → ℕ → List ℕ → Result ClaimFormValue LineFault
standing_here names i k p m r =
    and_then (stream_here i k (stream_named p)) (λ t. and_then (places_here names i m r) (λ a. Ok (stands_in t a)))

abbrev pub one_leads : Fairness → ClaimFormValue → ClaimFormValue → ConditionsSaid
one_leads f from to = Ok (LeadsSo (record { from = from; to = to; fairness = f }) ∷ [])

-- on which runs: nothing more is said, or by steps
abbrev pub fairness_said : List (List ℕ) → Option Fairness
fairness_said [] = Some fairness.ByWords
fairness_said (b ∷ s ∷ []) =
    if bytes_eq b (codes "by") && bytes_eq s (codes "steps") then Some fairness.BySteps else None
fairness_said _ = None

abbrev pub fairly : {A : Type 0} → Option Fairness → (Fairness → Result A LineFault) → Result A LineFault
fairly None said = no_leads
fairly (Some f) said = said f

-- STREAM in PLACES leads to STREAM in PLACES, with the first stream in front
abbrev pub stream_leads_said : Names → ImageValue → List ℕ → List (List ℕ) → ConditionsSaid
stream_leads_said names i p (a ∷ r ∷ l ∷ t ∷ q ∷ b ∷ s ∷ ws) =
    if (bytes_eq a (codes "in") && bytes_eq l (codes "leads")) && (bytes_eq t (codes "to") && bytes_eq b (codes "in"))
    then fairly (fairness_said ws) (λ f.
    and_then (standing_here names i 0 p 2 r) (λ from. and_then (standing_here names i 5 q 7 s) (λ to. one_leads f from to)))
    else no_leads
stream_leads_said names i p _ = no_leads

-- the streams of words up to `in`, behind those before them; the first stream is word 2 of its line
abbrev pub streams_said : ImageValue → List Step → List (List ℕ) → Result StreamsSaid LineFault
streams_said i before [] = no_leads
streams_said i before (w ∷ ws) =
    if bytes_eq w (codes "in") then Ok (record { streams = before; behind = ws })
    else and_then (next_stream i (2 + length before) before (stream_named w)) (λ t. streams_said i (before ++ t ∷ []) ws)

-- one stream at least, and behind `in` PLACES leads to PLACES
abbrev pub each_leads : Names → ImageValue → List Step → List (List ℕ) → ConditionsSaid
each_leads names i [] ws = no_leads
each_leads names i (t ∷ ts) (r ∷ l ∷ u ∷ s ∷ ws) =
    if bytes_eq l (codes "leads") && bytes_eq u (codes "to")
    then fairly (fairness_said ws) (λ f.
    and_then (places_here names i (3 + length (t ∷ ts)) r) (λ a.
    and_then (places_here names i (6 + length (t ∷ ts)) s) (λ b. Ok (map (stream_leads a b f) (t ∷ ts)))))
    else no_leads
each_leads names i (t ∷ ts) _ = no_leads

abbrev pub each_of : Names → ImageValue → StreamsSaid → ConditionsSaid
each_of names i said = each_leads names i said.streams said.behind

-- of STREAM .. in PLACES leads to PLACES
unfoldable pub each_leads_said : Names → ImageValue → List (List ℕ) → ConditionsSaid
each_leads_said names i [] = no_leads
each_leads_said names i (o ∷ ws) =
    if bytes_eq o (codes "of") then and_then (streams_said i [] ws) (each_of names i) else no_leads

-- Lines in which `to` stands behind `leads`.

abbrev pub begins_with_to : List (List ℕ) → Bool
begins_with_to [] = false
begins_with_to (w ∷ ws) = bytes_eq w (codes "to")

abbrev pub is_leading : List (List ℕ) → Bool
is_leading [] = false
is_leading (w ∷ ws) = (bytes_eq w (codes "leads") && begins_with_to ws) || is_leading ws

-- what such a line says that begins with this word
abbrev pub leads_said : Names → ImageValue → List ℕ → List (List ℕ) → ConditionsSaid
leads_said names i name os =
    if bytes_eq name (codes "each") then each_leads_said names i os else stream_leads_said names i name os
