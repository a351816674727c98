use Rattle.std.proofs.Common.{rules, ◌≡◌, ◌++◌, ap, ◌∙◌, codes, string_bytes}
use Rattle.std.specs.Fmt.{decimal}
use Rattle.editor_wire.specs.JsonStrings.{quoted}
use Rattle.language_messages.specs.Responses.{response_head}
use Rattle.language_messages.proofs.Sending.{middle_together}
use Rattle.language_messages.proofs.connection.refusal_text.Goals as goal

pub returns : goal.returns
returns c =
    let head = response_head c.args.id.now in
    let code = codes "\"error\":{\"code\":-" in
    let message = codes ",\"message\":" in
    let number = decimal c.args.number in
    let words = quoted c.args.words.now in
    let written : string_bytes c.write.new.self ≡ string_bytes c.in_ok-text.text ++ (code ++ (number ++ message)) =
    search (rules, c.in_ok-write.ensures.bytes) in
    c.in_ok-push_str.ensures.bytes
    ∙ ap (λ l. l ++ codes "}}") (c.in_ok-push_quoted.ensures
    ∙ ap (λ l. l ++ words) (written ∙ ap (λ l. l ++ (code ++ (number ++ message))) c.in_ok-text.ensures))
    ∙ middle_together head code number message words (codes "}}")
