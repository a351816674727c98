-- One message after another: which of them are responses.
use Rattle.std.proofs.Common.{◌≡◌, ℕ, List, [], ◌∷◌, ◌++◌, refl, sym, ap, ◌∙◌, append-nil, append_assoc, subst}
use Rattle.std.proofs.Common.{◌+◌, length, get_or, arith, below_more}
use Rattle.std.proofs.lemmas.List.{get_or_append_left, get_or_push, length_push}
use Rattle.std.proofs.lemmas.List.Elements.{filter-append}
use Rattle.std.specs.Prelude.{codes}
use Rattle.std.specs.Fmt.{decimal}
use Rattle.editor_wire.specs.JsonStrings.{quoted}
use Rattle.adapter_messages.specs.Responses.{is_response, responses_in, response_head, event_start}
use Rattle.adapter_messages.specs.Responses.{answer_head, refusal_head, event_head}
use Rattle.adapter_messages.specs.Responses.{SendsResponse, SendsNoResponse, SendsOne, SendsTwo, SendsEvents, BeginsWith}
use Rattle.adapter_messages.specs.Responses.{number_after}

-- a response that is sent is one, to its request
pub one_response : (before after : List (List ℕ)) (n : ℕ) (command text rest : List ℕ)
    → text ≡ response_head n command ++ rest → after ≡ before ++ text ∷ [] → SendsResponse before after n command
one_response before after n command text rest is sends = record {
  sent = text ∷ [];
  grows = sends;
  response = text;
  one = subst (λ t. responses_in (t ∷ []) ≡ t ∷ []) (sym is) refl;
  whose = (rest, is);
}

-- an event that is sent is none
pub no_response : (before after : List (List ℕ)) (text rest : List ℕ)
    → text ≡ event_start ++ rest → after ≡ before ++ text ∷ [] → SendsNoResponse before after
no_response before after text rest is sends = record {
  sent = text ∷ [];
  grows = sends;
  none = subst (λ t. responses_in (t ∷ []) ≡ []) (sym is) refl;
}

-- nothing is sent
pub nothing_sent : (before after : List (List ℕ)) → after ≡ before → SendsNoResponse before after
nothing_sent before after same = record {
  sent = [];
  grows = same ∙ sym (append-nil before);
  none = refl;
}

-- after a response nothing but events is sent
pub response_then_events : (a b c : List (List ℕ)) (n : ℕ) (command : List ℕ)
    → SendsResponse a b n command → SendsNoResponse b c → SendsResponse a c n command
response_then_events a b c n command first then = record {
  sent = first.sent ++ then.sent;
  grows = then.grows ∙ ap (λ l. l ++ then.sent) first.grows ∙ append_assoc a first.sent then.sent;
  response = first.response;
  one = filter-append is_response first.sent then.sent ∙ (λ i. first.one i ++ then.none i);
  whose = first.whose;
}

-- events are sent after events
pub events_then_events : (a b c : List (List ℕ)) → SendsNoResponse a b → SendsNoResponse b c → SendsNoResponse a c
events_then_events a b c first then = record {
  sent = first.sent ++ then.sent;
  grows = then.grows ∙ ap (λ l. l ++ then.sent) first.grows ∙ append_assoc a first.sent then.sent;
  none = filter-append is_response first.sent then.sent ∙ (λ i. first.none i ++ then.none i);
}

-- a message that is sent begins as its text does
pub one_sent : (before after : List (List ℕ)) (head text : List ℕ)
    → BeginsWith head text → after ≡ before ++ text ∷ [] → SendsOne before after head
one_sent before after head text begins sends = record {
  rest = begins.rest;
  grows = sends ∙ ap (λ t. before ++ t ∷ []) begins.is;
}

-- one message is sent after another
pub one_then_one : (a b c : List (List ℕ)) (first second : List ℕ)
    → SendsOne a b first → SendsOne b c second → SendsTwo a c first second
one_then_one a b c first second one then = record {
  rest = one.rest;
  more = then.rest;
  grows = then.grows ∙ ap (λ l. l ++ (second ++ then.rest) ∷ []) one.grows
      ∙ append_assoc a ((first ++ one.rest) ∷ []) ((second ++ then.rest) ∷ []);
}

-- five texts one after the other are the first, and the others after it
four_after : (a b c d e : List ℕ) → a ++ b ++ c ++ d ++ e ≡ a ++ (b ++ (c ++ (d ++ e)))
four_after a b c d e = simp append_assoc refl

-- six texts are so too
five_after : (a b c d e f : List ℕ) → a ++ b ++ c ++ d ++ e ++ f ≡ a ++ (b ++ (c ++ (d ++ (e ++ f))))
five_after a b c d e f = simp append_assoc refl

-- an answer that is sent is a response
pub answer_responds : (before after : List (List ℕ)) (seq n : ℕ) (command : List ℕ)
    → SendsOne before after (answer_head seq n command) → SendsResponse before after n command
answer_responds before after seq n command one =
    one_response before after n command (answer_head seq n command ++ one.rest) _
    (four_after (response_head n command) (codes "\"seq\":") (decimal seq) (codes ",\"success\":true") one.rest)
    one.grows

-- a refusal that is sent is a response
pub refusal_responds : (before after : List (List ℕ)) (seq n : ℕ) (command words : List ℕ)
    → SendsOne before after (refusal_head seq n command words) → SendsResponse before after n command
refusal_responds before after seq n command words one =
    one_response before after n command (refusal_head seq n command words ++ one.rest) _
    (five_after (response_head n command) (codes "\"seq\":") (decimal seq)
    (codes ",\"success\":false,\"message\":") (quoted words) one.rest) one.grows

-- an event that is sent is no response
pub event_is_none : (before after : List (List ℕ)) (seq : ℕ) (name : List ℕ)
    → SendsOne before after (event_head seq name) → SendsNoResponse before after
event_is_none before after seq name one =
    no_response before after (event_head seq name ++ one.rest) _
    (five_after event_start (codes "\"seq\":") (decimal seq) (codes ",\"event\":") (quoted name) one.rest) one.grows

-- an answer that is sent is a response
pub answer_sent : (before after : List (List ℕ)) (seq n : ℕ) (command text : List ℕ)
    → BeginsWith (answer_head seq n command) text → after ≡ before ++ text ∷ [] → SendsResponse before after n command
answer_sent before after seq n command text begins sends =
    answer_responds before after seq n command (one_sent before after (answer_head seq n command) text begins sends)

-- a refusal that is sent is a response
pub refusal_sent : (before after : List (List ℕ)) (seq n : ℕ) (command words text : List ℕ)
    → BeginsWith (refusal_head seq n command words) text → after ≡ before ++ text ∷ []
    → SendsResponse before after n command
refusal_sent before after seq n command words text begins sends =
    refusal_responds before after seq n command words
    (one_sent before after (refusal_head seq n command words) text begins sends)

-- no event is sent
pub no_events : (before after : List (List ℕ)) (n : ℕ) → after ≡ before → SendsEvents before after n []
no_events before after n same = record {
  sent = [];
  grows = same ∙ sym (append-nil before);
  as_many = refl;
  each = λ k below. absurd (omega (arith, below));
}

-- an event is sent after events
pub event_after_events : (a b c : List (List ℕ)) (n seq : ℕ) (names : List (List ℕ)) (name : List ℕ)
    → SendsEvents a b n names → SendsOne b c (event_head seq name) → seq ≡ number_after n (length names + 1)
    → SendsEvents a c n (names ++ name ∷ [])
event_after_events a b c n seq names name first one is =
    let message = event_head seq name ++ one.rest in
    let all = names ++ name ∷ [] in
    let sent = first.sent ++ message ∷ [] in
    let Begins : ℕ → List ℕ → List ℕ → Type 0 = λ k x y. BeginsWith (event_head (number_after n (k + 1)) x) y in
    let Each : ℕ → Type 0 = λ k. Begins k (get_or all k []) (get_or sent k []) in
    let last : Begins (length names) name message =
    record { rest = one.rest; is = ap (λ s. event_head s name ++ one.rest) is } in
    record {
      sent = sent;
      grows = one.grows ∙ ap (λ l. l ++ message ∷ []) first.grows ∙ append_assoc a first.sent (message ∷ []);
      as_many = length_push first.sent message ∙ ap (λ k. k + 1) first.as_many ∙ sym (length_push names name);
      each = λ k below. below_more Each (length names)
          (λ j before. subst (λ x. Begins j x (get_or sent j [])) (sym (get_or_append_left names (name ∷ []) [] j before))
          (subst (λ y. Begins j (get_or names j []) y)
          (sym (get_or_append_left first.sent (message ∷ []) [] j (omega (arith, before, first.as_many))))
          (first.each j before)))
          (subst (λ x. Begins (length names) x (get_or sent (length names) []))
          (sym (get_or_push names name [] (length names) refl))
          (subst (λ y. Begins (length names) name y)
          (sym (get_or_push first.sent message [] (length names) first.as_many)) last))
          k (omega (arith, below, length_push names name));
    }
