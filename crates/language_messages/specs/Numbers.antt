-- The numbers of errors in the protocol, without their sign: all are negative.
use Rattle.std.specs.Prelude.{ℕ}
use Rattle.language_messages.specs.declared.refusals.RefusalKind.{RefusalKind}
use Rattle.language_messages.specs.declared.refusals.RefusalKind.TheVariants.{NotJson, NotNow, NoMethod}
use Rattle.language_messages.specs.declared.refusals.RefusalKind.TheVariants.{Parameters, NotInitialized, NoMemory}

-- the number of each kind
abbrev pub error_number : RefusalKind → ℕ
error_number NotJson = 32700
error_number NotNow = 32600
error_number NoMethod = 32601
error_number Parameters = 32602
error_number NotInitialized = 32002
error_number NoMemory = 32603
