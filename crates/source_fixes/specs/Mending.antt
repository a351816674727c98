-- When a fix mends a text.
use Rattle.std.specs.Prelude.{◌≡◌, ◌<◌, ℕ, false, List, is_err}
use Rattle.std.specs.List.{count_by}
use Rattle.asm_text.specs.Sources.{meaning_of}
use Rattle.fault_messages.specs.declared.message.Message.{Message}
use Rattle.fault_messages.specs.declared.message.Severity.{Severity}
use Rattle.fault_messages.specs.declared.message.Severity.TheVariants as severity
use Rattle.fault_messages.specs.Messages.{is_error, has_error}

-- how many of some messages are errors
abbrev pub errors_in : List Message → ℕ
errors_in messages = count_by (λ m. is_error m.severity) messages

-- What is said of a text has fewer errors than what was said before. It has one exactly if the text means no image: so where
-- one error was said before, the text means an image.
pub record HasFewerErrors (before : List Message) (made : List ℕ) : Type 0 where
  pub after : List Message
  pub judged : has_error after ≡ is_err (meaning_of made)
  pub fewer : errors_in after < errors_in before

-- What a fix of an error, or of a warning, makes of a text: there are fewer errors, or none.
abbrev pub Mends : Severity → List Message → List ℕ → Type 0
Mends severity.Error before made = HasFewerErrors before made
Mends severity.Warning before made = is_err (meaning_of made) ≡ false
