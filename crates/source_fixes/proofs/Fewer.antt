-- Texts that are mended.
use Rattle.std.proofs.Common.{◌≡◌, ◌∙◌, ◌<◌, ◌+◌, ◌||◌, List, [], ◌∷◌, ℕ, false, cond, is_err, inl, inr, refl, sym, ap, arith}
use Rattle.std.proofs.lemmas.List.Sums.{sum_by-cons}
use Rattle.std.proofs.lemmas.Bool.{cases_Bool}
use Rattle.asm_text.specs.Sources.{meaning_of}
use Rattle.fault_messages.specs.declared.message.Message.{Message}
use Rattle.fault_messages.specs.Messages.{has_error}
use Rattle.source_fixes.specs.Mending.{HasFewerErrors, errors_in}
use Rattle.fault_messages.specs.Messages.{is_error}

pub fewer_errors : (before after : List Message) → (made : List ℕ) → has_error after ≡ is_err (meaning_of made)
    → errors_in after < errors_in before → HasFewerErrors before made
fewer_errors before after made judged fewer = record { after = after; judged = judged; fewer = fewer }

-- where none is counted, none is there
pub no_error : (messages : List Message) → errors_in messages ≡ 0 → has_error messages ≡ false
no_error [] none = refl
no_error (m ∷ ms) none =
    let weight : Message → ℕ = λ x. cond (is_error x.severity) 1 0 in
    let one : cond (is_error m.severity) 1 0 + errors_in ms ≡ 0 = sym (sum_by-cons weight m ms) ∙ none in
    elim (cases_Bool (is_error m.severity)) [
      | inl is ↦
          let more : 1 + errors_in ms ≡ 0 = ap (λ b. cond b 1 0 + errors_in ms) (sym is) ∙ one in
          absurd (omega (arith, more))
      | inr is ↦
          let rest : 0 + errors_in ms ≡ 0 = ap (λ b. cond b 1 0 + errors_in ms) (sym is) ∙ one in
          ap (λ b. b || has_error ms) is ∙ no_error ms (omega (arith, rest))
    ]
