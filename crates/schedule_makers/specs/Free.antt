-- Which streams are free: they run, and the memory would not block their next step (docs/MACHINE.md, "Schedules").
use Rattle.std.specs.Prelude.{◌&&◌, Bool, true, false, not, List, Option, filter}
use Rattle.tag_memory.specs.Answer.{answer}
use Rattle.tag_memory.specs.declared.requests.Reply.{Reply}
use Rattle.tag_memory.specs.declared.requests.Reply.TheVariants as reply
use Rattle.image_file.specs.ImageValue.{ImageValue}
use Rattle.processor.specs.World.{World}
use Rattle.processor.specs.declared.steps.Next.{Next}
use Rattle.processor.specs.declared.steps.Next.TheVariants as next
use Rattle.processor.specs.declared.steps.Step.{Step}
use Rattle.machine.specs.MachineValue.{next_in}
use Rattle.waiting.specs.Running.{runs_in, running_steps}
use Rattle.schedule_makers.specs.Rules.{is_of_stream}

-- whether a reply is Blocked
abbrev pub is_blocked_reply : Reply → Bool
is_blocked_reply (reply.Done n) = false
is_blocked_reply (reply.Blocked a) = true
is_blocked_reply (reply.Trap k a) = false

-- whether the memory would reply Blocked to what a step needs
abbrev pub would_block : World → Next → Bool
would_block w next.Skip = false
would_block w next.Local = false
would_block w (next.Ask q) = is_blocked_reply (answer w.memory q).1

-- whether the stream that a step names is free
abbrev pub is_free : ImageValue → World → Step → Bool
is_free image w t = runs_in w t && not (would_block w (next_in (record { image = image; world = w }) t))

-- the steps of all free streams, in the order of processor and stream
abbrev pub free_steps : ImageValue → World → List Step
free_steps image w = filter (is_free image w) (running_steps w)

-- whether it is free, and not the stream that is left out, if one is
abbrev pub is_free_but : Option Step → ImageValue → World → Step → Bool
is_free_but out image w t = not (is_of_stream out t) && is_free image w t

-- the steps of all free streams but that one, in the same order
abbrev pub free_but : Option Step → ImageValue → World → List Step
free_but out image w = filter (is_free_but out image w) (running_steps w)
