-- Which messages of the protocol are responses, and to which requests. A message is its bytes.
use Rattle.std.specs.Prelude.{◌≡◌, ℕ, ◌+◌, ◌-◌, ◌^◌, ◌<◌, min, Bool, nat_eq, List, [], ◌∷◌, ◌++◌, filter, codes}
use Rattle.std.specs.Prelude.{length, slice_index_or}
use Rattle.std.specs.List.{starts_with}
use Rattle.std.specs.Fmt.{decimal}
use Rattle.editor_wire.specs.JsonStrings.{quoted}

-- how a response begins
abbrev pub response_start : List ℕ
response_start = codes "{\"type\":\"response\",\"request_seq\":"

-- how an event begins
abbrev pub event_start : List ℕ
event_start = codes "{\"type\":\"event\","

-- how a response begins to the request of a number, which asked for a command
abbrev pub response_head : ℕ → List ℕ → List ℕ
response_head n command = response_start ++ decimal n ++ codes ",\"command\":" ++ quoted command ++ codes ","

-- how an answer begins, which has a number of its own, to the request of a number, which asked for a command
abbrev pub answer_head : ℕ → ℕ → List ℕ → List ℕ
answer_head seq n command = response_head n command ++ codes "\"seq\":" ++ decimal seq ++ codes ",\"success\":true"

-- how a refusal begins, which has a number of its own, to the request of a number, which asked for a command
abbrev pub refusal_head : ℕ → ℕ → List ℕ → List ℕ → List ℕ
refusal_head seq n command words =
    response_head n command ++ codes "\"seq\":" ++ decimal seq
    ++ codes ",\"success\":false,\"message\":" ++ quoted words

-- how an event of a name begins, which has a number
abbrev pub event_head : ℕ → List ℕ → List ℕ
event_head seq name = event_start ++ codes "\"seq\":" ++ decimal seq ++ codes ",\"event\":" ++ quoted name

-- the number of the message that comes so many after that of a number: the largest one stays
abbrev pub number_after : ℕ → ℕ → ℕ
number_after n more = min (n + more) (2 ^ 64 - 1)

-- the number of the message after that of a number
abbrev pub next_number : ℕ → ℕ
next_number n = number_after n 1

-- whether a message is a response
abbrev pub is_response : List ℕ → Bool
is_response message = starts_with nat_eq message response_start

-- the responses among messages
abbrev pub responses_in : List (List ℕ) → List (List ℕ)
responses_in messages = filter is_response messages

-- a response to the request of a number, which asked for a command
abbrev pub IsResponseTo : ℕ → List ℕ → List ℕ → Type 0
IsResponseTo n command message = (rest : List ℕ) × (message ≡ response_head n command ++ rest)

-- messages are sent after those before; exactly one of them is a response, and it is that to this request
pub record SendsResponse (before after : List (List ℕ)) (n : ℕ) (command : List ℕ) : Type 0 where
  pub sent : List (List ℕ)
  pub grows : after ≡ before ++ sent
  pub response : List ℕ
  pub one : responses_in sent ≡ response ∷ []
  pub whose : IsResponseTo n command response

-- messages are sent after those before, and none of them is a response
pub record SendsNoResponse (before after : List (List ℕ)) : Type 0 where
  pub sent : List (List ℕ)
  pub grows : after ≡ before ++ sent
  pub none : responses_in sent ≡ []

-- a text begins so
pub record BeginsWith (head text : List ℕ) : Type 0 where
  pub rest : List ℕ
  pub is : text ≡ head ++ rest

-- exactly one message is sent after those before, and it begins so
pub record SendsOne (before after : List (List ℕ)) (head : List ℕ) : Type 0 where
  pub rest : List ℕ
  pub grows : after ≡ before ++ (head ++ rest) ∷ []

-- exactly two messages are sent after those before, and they begin so
pub record SendsTwo (before after : List (List ℕ)) (first second : List ℕ) : Type 0 where
  pub rest : List ℕ
  pub more : List ℕ
  pub grows : after ≡ before ++ (first ++ rest) ∷ (second ++ more) ∷ []

-- exactly the events of these names are sent after the messages before, in their order, with the numbers after a number
pub record SendsEvents (before after : List (List ℕ)) (n : ℕ) (names : List (List ℕ)) : Type 0 where
  pub sent : List (List ℕ)
  pub grows : after ≡ before ++ sent
  pub as_many : length sent ≡ length names
  pub each : (k : ℕ) → k < length names
      → BeginsWith (event_head (number_after n (k + 1)) (slice_index_or names k [])) (slice_index_or sent k [])
