-- What is answered to requests before a program is launched.
use Rattle.std.specs.Prelude.{ℕ, List, [], codes, Option, Some, None, Bool, if◌then◌else◌, ◌||◌}
use Rattle.std.specs.Str.{bytes_eq}
use Rattle.adapter_messages.specs.Responses.{answer_head, refusal_head}
use Rattle.adapter_messages.specs.declared.commands.DapCommand.{DapCommand}
use Rattle.adapter_messages.specs.declared.commands.DapCommand.TheVariants.{Initialize, Launch, Disconnect}
use Rattle.adapter_messages.specs.declared.commands.DapCommand.TheVariants.{Points, View, Move}
use Rattle.adapter_messages.specs.declared.greeting.Flow.{Flow}
use Rattle.adapter_messages.specs.declared.greeting.Flow.TheVariants.{On, End}

-- whether a command would change what a schedule comes to
abbrev pub is_change : List ℕ → Bool
is_change name =
    bytes_eq name (codes "setVariable") || bytes_eq name (codes "setExpression") || bytes_eq name (codes "writeMemory")

-- why a command that is none is refused, by its name
abbrev pub no_command_words : List ℕ → List ℕ
no_command_words name =
    if bytes_eq name [] then codes "this is no request"
    else (if is_change name then codes "what a schedule comes to is not changed by hand"
    else (if bytes_eq name (codes "attach") then codes "there is nothing to attach to: launch a program"
    else codes "there is no such request here"))

-- what comes after a request: the end after disconnect, and the next request after any other
abbrev pub flow_after : Option DapCommand → Flow
flow_after None = On
flow_after (Some Initialize) = On
flow_after (Some Launch) = On
flow_after (Some Disconnect) = End
flow_after (Some (Points _)) = On
flow_after (Some (View _)) = On
flow_after (Some (Move _)) = On

-- how what is sent to a request begins: initialize and disconnect are answered, and any other is refused
abbrev pub greeting_head : ℕ → ℕ → List ℕ → Option DapCommand → List ℕ
greeting_head seq n name None = refusal_head seq n name (no_command_words name)
greeting_head seq n name (Some Initialize) = answer_head seq n name
greeting_head seq n name (Some Launch) = refusal_head seq n name (codes "no program is launched")
greeting_head seq n name (Some Disconnect) = answer_head seq n name
greeting_head seq n name (Some (Points _)) = refusal_head seq n name (codes "no program is launched")
greeting_head seq n name (Some (View _)) = refusal_head seq n name (codes "no program is launched")
greeting_head seq n name (Some (Move _)) = refusal_head seq n name (codes "no program is launched")
