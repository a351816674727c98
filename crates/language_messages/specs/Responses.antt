-- Which messages of the protocol are responses, and to which requests. A message is its bytes, and so is an id.
use Rattle.std.specs.Prelude.{◌≡◌, ℕ, Bool, nat_eq, List, [], ◌∷◌, ◌++◌, filter, codes}
use Rattle.std.specs.Fmt.{decimal}
use Rattle.std.specs.List.{starts_with}
use Rattle.editor_wire.specs.JsonStrings.{quoted}

-- how a response begins
abbrev pub response_start : List ℕ
response_start = codes "{\"jsonrpc\":\"2.0\",\"id\":"

-- how a notification begins
abbrev pub notification_start : List ℕ
notification_start = codes "{\"jsonrpc\":\"2.0\",\"method\":"

-- how a response begins to the request of an id
abbrev pub response_head : List ℕ → List ℕ
response_head id = response_start ++ id ++ codes ","

-- how an answer begins to the request of an id
abbrev pub result_head : List ℕ → List ℕ
result_head id = response_head id ++ codes "\"result\":"

-- the refusal of the request of an id, by the number of an error without its sign, and words
abbrev pub error_text : List ℕ → ℕ → List ℕ → List ℕ
error_text id number words =
    response_head id ++ codes "\"error\":{\"code\":-" ++ decimal number
    ++ codes ",\"message\":" ++ quoted words ++ codes "}}"

-- how a notification of a method begins
abbrev pub notification_head : List ℕ → List ℕ
notification_head method = notification_start ++ quoted method ++ codes ",\"params\":"

-- whether a message is a response
abbrev pub is_response : List ℕ → Bool
is_response message = starts_with nat_eq message response_start

-- the responses among messages
abbrev pub responses_in : List (List ℕ) → List (List ℕ)
responses_in messages = filter is_response messages

-- a response to the request of an id
abbrev pub IsResponseTo : List ℕ → List ℕ → Type 0
IsResponseTo id message = (rest : List ℕ) × (message ≡ response_head id ++ rest)

-- messages are sent after those before; exactly one of them is a response, and it is that to this request
pub record SendsResponse (before after : List (List ℕ)) (id : List ℕ) : Type 0 where
  pub sent : List (List ℕ)
  pub grows : after ≡ before ++ sent
  pub response : List ℕ
  pub one : responses_in sent ≡ response ∷ []
  pub whose : IsResponseTo id response

-- messages are sent after those before, and none of them is a response
pub record SendsNoResponse (before after : List (List ℕ)) : Type 0 where
  pub sent : List (List ℕ)
  pub grows : after ≡ before ++ sent
  pub none : responses_in sent ≡ []

-- a text begins so
pub record BeginsWith (head text : List ℕ) : Type 0 where
  pub rest : List ℕ
  pub is : text ≡ head ++ rest

-- exactly one message is sent after those before, and it begins so
pub record SendsOne (before after : List (List ℕ)) (head : List ℕ) : Type 0 where
  pub rest : List ℕ
  pub grows : after ≡ before ++ (head ++ rest) ∷ []
