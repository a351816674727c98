-- What a line claims of the worlds that a program comes to.
use Rattle.std.specs.Prelude.{ℕ, ◌+◌, ◌-◌, ◌^◌, ◌==◌, nat_lt, Bool, true, false, ◌&&◌, ◌||◌, if◌then◌else◌, List, [], ◌∷◌, ◌++◌}
use Rattle.std.specs.Prelude.{length, slice_index, take, drop, codes, Option, Some, None, Result, Ok, Err}
use Rattle.std.specs.List.{list_any}
use Rattle.std.specs.Option.{option_map, option_and_then}
use Rattle.std.specs.Str.{bytes_eq}
use Rattle.image_file.specs.ImageValue.{ImageValue}
use Rattle.processor.specs.declared.steps.Step.{Step}
use Rattle.claims.specs.Missing.{has_word, has_stream}
use Rattle.claims.specs.declared.claim.CountTest.{CountTest}
use Rattle.claims.specs.declared.claim.CountTest.TheVariants as count
use Rattle.claims.specs.declared.claim.NumberOrder.{NumberOrder}
use Rattle.claims.specs.declared.claim.NumberOrder.TheVariants.{Unsigned, Signed}
use Rattle.claims.specs.declared.claim.Scope.{Scope}
use Rattle.claims.specs.declared.claim.WordTest.{WordTest}
use Rattle.claims.specs.declared.claim.WordTest.TheVariants as test
use Rattle.expectations.specs.declared.expectation.FullEmpty.{FullEmpty}
use Rattle.expectations.specs.declared.expectation.FullEmpty.TheVariants.{Full, Empty}
use Rattle.expectations.specs.declared.expectation.Relation.{Relation}
use Rattle.expectation_files.specs.Values.{number_to, value_named, count_named, state_named, stream_named}
use Rattle.expectation_files.specs.Addresses.{Names, PlacesSaid, address_said, places_said}
use Rattle.expectation_files.specs.WordLines.{at, ComparedSaid, compared_said}
use Rattle.expectation_files.specs.declared.compared_words.ComparingLine.{ComparingLine}
use Rattle.expectation_files.specs.declared.faults.LineFault.{LineFault}
use Rattle.expectation_files.specs.declared.faults.LineFaultKind.{LineFaultKind}
use Rattle.expectation_files.specs.declared.faults.LineFaultKind.TheVariants as fault
use Rattle.expectation_files.specs.declared.faults.LineForm.TheVariants as form

-- streams, as a list, and the range in which they count
pub record GroupValue : Type 0 where
  pub streams : List Step
  pub first : ℕ
  pub last : ℕ

-- what holds of a world or not: a word is so, two words stand so to each other, or so many of the streams of some groups run
-- at places of their ranges
pub data ClaimFormValue : Type 0 where
  OfWord : ℕ → WordTest → ClaimFormValue
  OfCompared : ℕ → Relation → ℕ → ℕ → ClaimFormValue
  OfStreams : CountTest → List GroupValue → ClaimFormValue

-- a claim, with its groups as a list
pub record ClaimValue : Type 0 where
  pub scope : Scope
  pub form : ClaimFormValue

abbrev pub no_claim : {A : Type 0} → ℕ → Result A LineFault
no_claim k = at k (fault.Form form.Claim)

-- what a later word says of what earlier ones said, where these have no fault
abbrev pub and_then : {A B : Type 0} → Result A LineFault → (A → Result B LineFault) → Result B LineFault
and_then (Err f) later = Err f
and_then (Ok a) later = later a

-- Numbers of claims, which may have a plus in front.

-- a number from -2^63 to 2^64 - 1
unfoldable pub number_claimed : List ℕ → Option ℕ
number_claimed text = if slice_index text 0 == 43 then number_to (2 ^ 64 - 1) (drop 1 text) else value_named text

-- numbers are compared as ones with a sign where the number has one, or signed stands behind it
unfoldable pub order_of : Bool → List ℕ → NumberOrder
order_of signed text = if signed || (slice_index text 0 == 43 || slice_index text 0 == 45) then Signed else Unsigned

-- a number that is compared with a sign and has no minus is at most 2^63 - 1
abbrev pub in_order : NumberOrder → Bool → ℕ → Option ℕ
in_order Unsigned minus n = Some n
in_order Signed minus n = if minus || nat_lt n (2 ^ 63) then Some n else None

abbrev pub number_compared : NumberOrder → List ℕ → Option ℕ
number_compared order text = option_and_then (in_order order (slice_index text 0 == 45)) (number_claimed text)

abbrev pub greatest : NumberOrder → ℕ
greatest Unsigned = 2 ^ 64 - 1
greatest Signed = 2 ^ 63 - 1

-- in two's complement
abbrev pub least : NumberOrder → ℕ
least Unsigned = 0
least Signed = 2 ^ 63

abbrev pub TestSaid : Type 0
TestSaid = Result WordTest LineFault

-- no number is above the greatest
abbrev pub above_of : NumberOrder → Option ℕ → TestSaid
above_of order None = at 4 fault.Number
above_of order (Some n) = if n == greatest order then at 4 fault.Beyond else Ok (test.Above n order)

-- no number is below the least
abbrev pub below_of : NumberOrder → Option ℕ → TestSaid
below_of order None = at 4 fault.Number
below_of order (Some n) = if n == least order then at 4 fault.Beyond else Ok (test.Below n order)

abbrev pub is_of : Option ℕ → TestSaid
is_of None = at 4 fault.Number
is_of (Some n) = Ok (test.Is n)

-- above NUMBER or below NUMBER, perhaps signed
abbrev pub compared_by : NumberOrder → List ℕ → List ℕ → TestSaid
compared_by order r v =
    if bytes_eq r (codes "above") then above_of order (number_compared order v)
    else (if bytes_eq r (codes "below") then below_of order (number_compared order v)
    else no_claim 3)

abbrev pub test_of_state : Option FullEmpty → TestSaid
test_of_state None = no_claim 3
test_of_state (Some Full) = Ok test.Full
test_of_state (Some Empty) = Ok test.Empty

-- is VALUE, above NUMBER or below NUMBER
abbrev pub test_plain : List ℕ → List ℕ → TestSaid
test_plain r v = if bytes_eq r (codes "is") then is_of (number_claimed v) else compared_by (order_of false v) r v

-- above NUMBER signed, below NUMBER signed
abbrev pub test_signed : List ℕ → List ℕ → List ℕ → TestSaid
test_signed r v s = if bytes_eq s (codes "signed") then compared_by (order_of true v) r v else no_claim 5

abbrev pub FormSaid : Type 0
FormSaid = Result ClaimFormValue LineFault

-- a test of the word at an address that the image has
abbrev pub word_tested : ImageValue → Result ℕ LineFaultKind → TestSaid → FormSaid
word_tested i (Err kind) t = at 2 kind
word_tested i (Ok a) (Err f) = Err f
word_tested i (Ok a) (Ok t) = if has_word i a then Ok (OfWord a t) else at 2 fault.MissingWord

abbrev pub signed_claimed : Names → ImageValue → List ℕ → List ℕ → List ℕ → List ℕ → List (List ℕ) → FormSaid
signed_claimed names i a r v s [] = word_tested i (address_said names a) (test_signed r v s)
signed_claimed names i a r v s (o ∷ os) = no_claim 0

-- word 2 of a claim about two words is the one's address
abbrev pub claimed_words : ComparingLine
claimed_words = record { form = form.Claim; first = 2 }

-- two words that the image has; word 5 of the line is the other's address
abbrev pub words_compared : ImageValue → ComparedSaid → FormSaid
words_compared i (Err f) = Err f
words_compared i (Ok c) =
    if has_word i c.address then (if has_word i c.other then Ok (OfCompared c.address c.relation c.other c.more)
    else at 5 fault.MissingWord) else at 2 fault.MissingWord

-- ADDRESS STATE, ADDRESS RELATION NUMBER, ADDRESS RELATION NUMBER signed, or ADDRESS RELATION word ADDRESS and what may stand
-- behind it
unfoldable pub word_claimed : Names → ImageValue → List (List ℕ) → FormSaid
word_claimed names i (a ∷ s ∷ []) = word_tested i (address_said names a) (test_of_state (state_named s))
word_claimed names i (a ∷ r ∷ v ∷ []) = word_tested i (address_said names a) (test_plain r v)
word_claimed names i (a ∷ r ∷ v ∷ s ∷ os) =
    if bytes_eq v (codes "word") then words_compared i (compared_said claimed_words names a r s os)
    else signed_claimed names i a r v s os
word_claimed names i _ = no_claim 0

-- Groups of streams: the streams, the word `in`, and the range in which they count. A comma at the end of the range's word has
-- another group behind it.

-- streams, and the words behind the word that ends them
pub record StreamsSaid : Type 0 where
  pub streams : List Step
  pub behind : List (List ℕ)

-- whether a stream is among these
abbrev pub is_among : List Step → Step → Bool
is_among ts t = list_any (λ (u : Step). u.p == t.p && u.s == t.s) ts

-- the stream that the word of this number names, which the image has, and which is none of those of its group before it
abbrev pub next_stream : ImageValue → ℕ → List Step → Option Step → Result Step LineFault
next_stream i k before None = at k fault.Stream
next_stream i k before (Some t) =
    if has_stream i t then (if is_among before t then at k fault.Twice else Ok t) else at k fault.MissingStream

abbrev pub group_in : ℕ → List Step → PlacesSaid → Result GroupValue LineFault
group_in k ts (Err kind) = at k kind
group_in k ts (Ok r) = Ok (record { streams = ts; first = r.first; last = r.last })

-- one stream at least, and the range, which is the word of this number
abbrev pub group_of : Names → ImageValue → ℕ → List Step → List ℕ → Result GroupValue LineFault
group_of names i k [] r = no_claim 1
group_of names i k (t ∷ ts) r = group_in k (t ∷ ts) (places_said names (length i.program) r)

-- whether the last byte of a word is a comma
abbrev pub ends_with_comma : List ℕ → Bool
ends_with_comma w = nat_lt 0 (length w) && slice_index w (length w - 1) == 44

abbrev pub without_comma : List ℕ → List ℕ
without_comma w = take (length w - 1) w

-- the last group, behind which nothing stands
abbrev pub last_group : List GroupValue → List (List ℕ) → Result GroupValue LineFault → Result (List GroupValue) LineFault
last_group gs (w ∷ ws) g = no_claim 1
last_group gs [] (Err f) = Err f
last_group gs [] (Ok g) = Ok (gs ++ g ∷ [])

-- the groups of words, from the word of this number on: behind those before them, and streams of a group under way, whose
-- range comes next or not
abbrev pub groups_said : Names → ImageValue → ℕ → List GroupValue → List Step → Bool → List (List ℕ) → Result (List GroupValue) LineFault
groups_said names i k gs ts ranged [] = no_claim 1
groups_said names i k gs ts false (w ∷ ws) =
    if bytes_eq w (codes "in") then groups_said names i (k + 1) gs ts true ws
    else and_then (next_stream i k ts (stream_named w)) (λ t. groups_said names i (k + 1) gs (ts ++ t ∷ []) false ws)
groups_said names i k gs ts true (w ∷ ws) =
    if ends_with_comma w
    then and_then (group_of names i k ts (without_comma w)) (λ g. groups_said names i (k + 1) (gs ++ g ∷ []) [] false ws)
    else last_group gs ws (group_of names i k ts w)

abbrev pub streams_in : CountTest → Result (List GroupValue) LineFault → FormSaid
streams_in t (Err f) = Err f
streams_in t (Ok gs) = Ok (OfStreams t gs)

-- so many of the streams of groups; the first stream is word 5 of its line
abbrev pub counted : Names → ImageValue → Option CountTest → List (List ℕ) → FormSaid
counted names i None ws = at 3 fault.Count
counted names i (Some t) ws = streams_in t (groups_said names i 5 [] [] false ws)

abbrev pub counted_of : Names → ImageValue → List ℕ → Option CountTest → List (List ℕ) → FormSaid
counted_of names i o t ws = if bytes_eq o (codes "of") then counted names i t ws else no_claim 4

-- most N of GROUPS, or least N of GROUPS
unfoldable pub streams_claimed : Names → ImageValue → List (List ℕ) → FormSaid
streams_claimed names i (m ∷ n ∷ o ∷ ws) =
    if bytes_eq m (codes "most") then counted_of names i o (option_map (λ k. count.AtMost k) (count_named n)) ws
    else (if bytes_eq m (codes "least") then counted_of names i o (option_map (λ k. count.AtLeast k) (count_named n)) ws
    else no_claim 2)
streams_claimed names i _ = no_claim 1

-- What is claimed.

-- the form of this name
abbrev pub form_claimed : Names → ImageValue → List (List ℕ) → FormSaid
form_claimed names i [] = no_claim 0
form_claimed names i (w ∷ ws) =
    if bytes_eq w (codes "word") then word_claimed names i ws
    else (if bytes_eq w (codes "at") then streams_claimed names i ws
    else (if bytes_eq w (codes "busy") then at 1 fault.Busy
    else (if bytes_eq w (codes "starved") then at 1 fault.Starved
    else no_claim 1)))

abbrev pub with_scope : Scope → FormSaid → Result ClaimValue LineFault
with_scope scope (Err f) = Err f
with_scope scope (Ok c) = Ok (record { scope = scope; form = c })

-- the claim of this scope that the words behind it say
unfoldable pub claim_said : Names → ImageValue → Scope → List (List ℕ) → Result ClaimValue LineFault
claim_said names i scope ws = with_scope scope (form_claimed names i ws)
