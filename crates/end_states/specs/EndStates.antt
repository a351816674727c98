-- What a world shows at which a run ended.
use Rattle.std.specs.Prelude.{◌≡◌, ℕ, ◌+◌, List, [], ◌∷◌, ◌++◌, Option, Some, None, slice_get}
use Rattle.tag_memory.specs.Answer.{answer}
use Rattle.tag_memory.specs.declared.requests.Reply.{Reply}
use Rattle.tag_memory.specs.declared.requests.Reply.TheVariants as reply
use Rattle.stream_core.specs.Streams.{StreamValue}
use Rattle.stream_core.specs.declared.steps.Status.{Status}
use Rattle.stream_core.specs.declared.steps.Status.TheVariants as status
use Rattle.stream_core.specs.declared.traps.TrapKind.{TrapKind}
use Rattle.processor.specs.Processors.{ProcessorValue}
use Rattle.processor.specs.World.{World}
use Rattle.processor.specs.declared.steps.Next.{Next}
use Rattle.processor.specs.declared.steps.Next.TheVariants as next
use Rattle.processor.specs.declared.steps.Step.{Step}
use Rattle.machine.specs.MachineValue.{MachineValue, next_in}
use Rattle.waiting.specs.Running.{streams_at, running_steps}
use Rattle.changed_words.specs.Changed.{changed_words}
use Rattle.end_states.specs.declared.states.EndState.{EndState}
use Rattle.end_states.specs.declared.states.TrapStop.{TrapStop}
use Rattle.end_states.specs.declared.states.WaitingStream.{WaitingStream}

-- Which streams a trap stopped.

-- the trap that stopped a stream of this status, if one did
abbrev pub trap_of_status : Status → Option TrapKind
trap_of_status status.Idle = None
trap_of_status status.Running = None
trap_of_status (status.Stopped trap) = Some trap

-- the same of a stream that may be missing
abbrev pub trap_at : Option StreamValue → Option TrapKind
trap_at None = None
trap_at (Some s) = trap_of_status s.status

-- the trap that stopped the stream that a step names, if it is there and one did
abbrev pub trap_in : World → Step → Option TrapKind
trap_in w t = trap_at (slice_get (streams_at (slice_get w.processors t.p)) t.s)

-- a stream with the trap that stopped it, if one did
abbrev pub stop_of : Step → Option TrapKind → List TrapStop
stop_of t None = []
stop_of t (Some trap) = record { stream = t; trap = trap } ∷ []

-- those of the streams of processor p, which are numbered from n on
abbrev pub stops_from : ℕ → ℕ → List StreamValue → List TrapStop
stops_from p n [] = []
stops_from p n (s ∷ ss) = stop_of (record { p = p; s = n }) (trap_of_status s.status) ++ stops_from p (n + 1) ss

-- those of the streams of processors, which are numbered from p on
abbrev pub stops_of : ℕ → List ProcessorValue → List TrapStop
stops_of p [] = []
stops_of p (proc ∷ procs) = stops_from p 0 proc.streams ++ stops_of (p + 1) procs

-- all streams that a trap stopped, each with it, in the order of processor and stream
abbrev pub trap_stops : World → List TrapStop
trap_stops w = stops_of 0 w.processors

-- Which streams wait for a word.

-- the byte address at which a request with this reply is blocked, if it is
abbrev pub blocked_address : Reply → Option ℕ
blocked_address (reply.Done value) = None
blocked_address (reply.Blocked address) = Some address
blocked_address (reply.Trap kind address) = None

-- the byte address at which the step that needs this is blocked, if it is
abbrev pub wait_address_of : MachineValue → Next → Option ℕ
wait_address_of m next.Skip = None
wait_address_of m next.Local = None
wait_address_of m (next.Ask request) = blocked_address (answer m.world.memory request).1

-- the byte address of the word that a stream waits for, if it waits
abbrev pub wait_address : MachineValue → Step → Option ℕ
wait_address m t = wait_address_of m (next_in m t)

-- a stream with the byte address of the word that it waits for, if it waits
abbrev pub waiting_stream : Step → Option ℕ → List WaitingStream
waiting_stream t None = []
waiting_stream t (Some address) = record { stream = t; address = address } ∷ []

-- those of some streams that wait
abbrev pub waiting_of : MachineValue → List Step → List WaitingStream
waiting_of m [] = []
waiting_of m (t ∷ ts) = waiting_stream t (wait_address m t) ++ waiting_of m ts

-- all streams that run and wait, in the order of processor and stream
abbrev pub waiting_streams : MachineValue → List WaitingStream
waiting_streams m = waiting_of m (running_steps m.world)

-- What a state says of a machine: all streams that a trap stopped, all that run and wait, and all words that changed.
pub record IsEndState (m : MachineValue) (state : EndState) : Type 0 where
  pub stopped : state.stopped.items ≡ trap_stops m.world
  pub waiting : state.waiting.items ≡ waiting_streams m
  pub changed : state.changed.items ≡ changed_words m.image m.world.memory

-- Two ends show the same.
pub record AreSameStates (one other : EndState) : Type 0 where
  pub stopped : one.stopped.items ≡ other.stopped.items
  pub waiting : one.waiting.items ≡ other.waiting.items
  pub changed : one.changed.items ≡ other.changed.items
