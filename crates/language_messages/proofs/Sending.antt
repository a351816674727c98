-- One message after another: which of them are responses.
use Rattle.std.proofs.Common.{◌≡◌, ℕ, List, [], ◌∷◌, ◌++◌, refl, sym, ap, ◌∙◌, append-nil, append_assoc, subst}
use Rattle.std.proofs.lemmas.List.Elements.{filter-append}
use Rattle.std.specs.Prelude.{codes}
use Rattle.std.specs.Fmt.{decimal}
use Rattle.editor_wire.specs.JsonStrings.{quoted}
use Rattle.language_messages.specs.Responses.{is_response, responses_in, response_head, result_head, error_text}
use Rattle.language_messages.specs.Responses.{notification_start, notification_head}
use Rattle.language_messages.specs.Responses.{SendsResponse, SendsNoResponse, SendsOne, BeginsWith}

-- a response that is sent is one, to its request
pub one_response : (before after : List (List ℕ)) (id text rest : List ℕ)
    → text ≡ response_head id ++ rest → after ≡ before ++ text ∷ [] → SendsResponse before after id
one_response before after id text rest is sends = record {
  sent = text ∷ [];
  grows = sends;
  response = text;
  one = subst (λ t. responses_in (t ∷ []) ≡ t ∷ []) (sym is) refl;
  whose = (rest, is);
}

-- a notification that is sent is none
pub no_response : (before after : List (List ℕ)) (text rest : List ℕ)
    → text ≡ notification_start ++ rest → after ≡ before ++ text ∷ [] → SendsNoResponse before after
no_response before after text rest is sends = record {
  sent = text ∷ [];
  grows = sends;
  none = subst (λ t. responses_in (t ∷ []) ≡ []) (sym is) refl;
}

-- nothing is sent
pub nothing_sent : (before after : List (List ℕ)) → after ≡ before → SendsNoResponse before after
nothing_sent before after same = record {
  sent = [];
  grows = same ∙ sym (append-nil before);
  none = refl;
}

-- notifications are sent after notifications
pub none_then_none : (a b c : List (List ℕ)) → SendsNoResponse a b → SendsNoResponse b c → SendsNoResponse a c
none_then_none a b c first then = record {
  sent = first.sent ++ then.sent;
  grows = then.grows ∙ ap (λ l. l ++ then.sent) first.grows ∙ append_assoc a first.sent then.sent;
  none = filter-append is_response first.sent then.sent ∙ (λ i. first.none i ++ then.none i);
}

-- a response is sent after notifications
pub none_then_response : (a b c : List (List ℕ)) (id : List ℕ)
    → SendsNoResponse a b → SendsResponse b c id → SendsResponse a c id
none_then_response a b c id first then = record {
  sent = first.sent ++ then.sent;
  grows = then.grows ∙ ap (λ l. l ++ then.sent) first.grows ∙ append_assoc a first.sent then.sent;
  response = then.response;
  one = filter-append is_response first.sent then.sent ∙ (λ i. first.none i ++ then.one i);
  whose = then.whose;
}

-- a message that is sent begins as its text does
pub one_sent : (before after : List (List ℕ)) (head text : List ℕ)
    → BeginsWith head text → after ≡ before ++ text ∷ [] → SendsOne before after head
one_sent before after head text begins sends = record {
  rest = begins.rest;
  grows = sends ∙ ap (λ t. before ++ t ∷ []) begins.is;
}

-- an answer that is sent is a response
pub answer_responds : (before after : List (List ℕ)) (id : List ℕ)
    → SendsOne before after (result_head id) → SendsResponse before after id
answer_responds before after id one =
    one_response before after id (result_head id ++ one.rest) (codes "\"result\":" ++ one.rest)
    (append_assoc (response_head id) (codes "\"result\":") one.rest) one.grows

-- six texts one after the other are the first, and the others after it
five_after : (a b c d e f : List ℕ) → a ++ b ++ c ++ d ++ e ++ f ≡ a ++ (b ++ (c ++ (d ++ (e ++ f))))
five_after a b c d e f = simp append_assoc refl

-- a refusal that is sent is a response
pub refusal_sent : (before after : List (List ℕ)) (id : List ℕ) (number : ℕ) (words text : List ℕ)
    → text ≡ error_text id number words → after ≡ before ++ text ∷ [] → SendsResponse before after id
refusal_sent before after id number words text is sends =
    one_response before after id text _
    (is ∙ five_after (response_head id) (codes "\"error\":{\"code\":-") (decimal number) (codes ",\"message\":")
    (quoted words) (codes "}}")) sends

-- three texts in the middle of six may stand together
pub middle_together : (a b c d e f : List ℕ) → a ++ (b ++ (c ++ d)) ++ e ++ f ≡ a ++ b ++ c ++ d ++ e ++ f
middle_together a b c d e f = simp append_assoc refl

-- four texts one after the other are the first, and the others after it
three_after : (a b c d : List ℕ) → a ++ b ++ c ++ d ≡ a ++ (b ++ (c ++ d))
three_after a b c d = simp append_assoc refl

-- a notification that is sent is no response
pub notification_is_none : (before after : List (List ℕ)) (method : List ℕ)
    → SendsOne before after (notification_head method) → SendsNoResponse before after
notification_is_none before after method one =
    no_response before after (notification_head method ++ one.rest) _
    (three_after notification_start (quoted method) (codes ",\"params\":") one.rest) one.grows
