-- Streams that never ask their processor for a stream, whatever the memory replies to them.
use Rattle.std.specs.Prelude.{⊤, List, [], ◌∷◌, Option}
use Rattle.tag_memory.specs.declared.requests.Reply.{Reply}
use Rattle.image_file.specs.ImageValue.{ImageValue}
use Rattle.stream_core.specs.Streams.{StreamValue, idle}
use Rattle.stream_core.specs.StreamRow.{control_at, stream_row}
use Rattle.stream_core.specs.declared.steps.Outcome.{Outcome}
use Rattle.stream_core.specs.declared.steps.Outcome.TheVariants as outcome
use Rattle.stream_core.specs.declared.steps.Control.{Control}
use Rattle.stream_core.specs.declared.steps.Control.TheVariants as asks

-- It asks for no stream: neither by RESERVE nor by CREATE.
abbrev pub AsksForNone : Control → Type 0
AsksForNone asks.Plain = ⊤
AsksForNone (asks.Reserve n) = ⊥
AsksForNone (asks.Create child) = ⊥
AsksForNone asks.Quit = ⊤
AsksForNone asks.QuitKeep = ⊤

-- the stream that ends where its instruction is done
abbrev pub ended_by : Outcome → StreamValue → StreamValue
ended_by outcome.Skipped s = s
ended_by outcome.Done s = idle
ended_by outcome.Blocked s = s
ended_by (outcome.Trapped k) s = s
ended_by (outcome.Stopped k) s = s

-- what an instruction that asks so leaves of its stream: QUIT and QUITP end it
abbrev pub left_by : Control → StreamValue × Outcome → StreamValue
left_by asks.Plain e = e.0
left_by (asks.Reserve n) e = e.0
left_by (asks.Create child) e = e.0
left_by asks.Quit e = ended_by e.1 e.0
left_by asks.QuitKeep e = ended_by e.1 e.0

-- the stream after a step of its own with this reply, none where it asks nothing; RESERVE is granted nothing
abbrev pub own_step : ImageValue → StreamValue → Option Reply → StreamValue
own_step image s r =
    left_by (control_at image.profile image.program s)
    (stream_row image.profile image.program image.retry_limit s 0 r)

-- the stream after steps of its own with these replies
abbrev pub own_steps : ImageValue → StreamValue → List (Option Reply) → StreamValue
own_steps image s [] = s
own_steps image s (r ∷ rs) = own_steps image (own_step image s r) rs

-- None of its steps asks for a stream, whatever the memory replies.
abbrev pub NeverAsks : ImageValue → StreamValue → Type 0
NeverAsks image s =
    (rs : List (Option Reply)) → AsksForNone (control_at image.profile image.program (own_steps image s rs))
