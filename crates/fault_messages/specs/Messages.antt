-- Messages about a text.
use Rattle.std.specs.Prelude.{Bool, true, false, List}
use Rattle.std.specs.List.{list_any}
use Rattle.fault_messages.specs.declared.message.Message.{Message}
use Rattle.fault_messages.specs.declared.message.Severity.{Severity}
use Rattle.fault_messages.specs.declared.message.Severity.TheVariants as severity

abbrev pub is_error : Severity → Bool
is_error severity.Error = true
is_error severity.Warning = false

-- whether the text is refused for one of these messages
abbrev pub has_error : List Message → Bool
has_error messages = list_any (λ m. is_error m.severity) messages
