-- What a stream waits for whose step would be blocked.
use Rattle.std.specs.Prelude.{◌≡◌, ℕ, Bool, true, false, not, Option, Some, None, IsSome}
use Rattle.tag_memory.specs.Cell.{Cell}
use Rattle.tag_memory.specs.Storage.{cell_at}
use Rattle.tag_memory.specs.Access.{access_control, effect}
use Rattle.tag_memory.specs.Chain.{end_of}
use Rattle.tag_memory.specs.Answer.{answer, address_at}
use Rattle.tag_memory.specs.declared.requests.Request.{Request}
use Rattle.tag_memory.specs.declared.requests.Reply.TheVariants as reply
use Rattle.machine.specs.ProcessorTypes.Next.TheVariants as next
use Rattle.machine.specs.ProcessorTypes.Step.{Step}
use Rattle.machine.specs.MachineValue.{MachineValue, next_in}
use Rattle.waiting.specs.declared.waits.Wait.{Wait}
use Rattle.waiting.specs.declared.waits.Wanted.{Wanted}
use Rattle.waiting.specs.declared.waits.Wanted.TheVariants.{Full, Empty}

-- whether a word in this state is full
abbrev pub is_full_state : Wanted → Bool
is_full_state Full = true
is_full_state Empty = false

-- the word, full or empty
abbrev pub with_full : Cell → Bool → Cell
with_full c full = record c { full = full }

-- what the full/empty table says of a request at a word
abbrev pub effect_on : Request → Cell → Option (Cell × ℕ)
effect_on q c = effect q.op (access_control q.acc q.pointer) c q.value

-- The full/empty table lets a request through at each word in this state, and blocks it at each in the other.
pub record Wants (q : Request) (wanted : Wanted) : Type 0 where
  pub passes : (c : Cell) → IsSome (effect_on q (with_full c (is_full_state wanted)))
  pub blocks : (c : Cell) → effect_on q (with_full c (not (is_full_state wanted))) ≡ None

-- The step of the machine asks, and the memory would reply Blocked.
pub record IsAskedInVain (m : MachineValue) (t : Step) : Type 0 where
  pub request : Request
  pub address : ℕ
  pub asks : next_in m t ≡ next.Ask request
  pub blocked : (answer m.world.memory request).1 ≡ reply.Blocked address

-- The step waits so: it asks, and the memory would reply Blocked at this address. There its request ends, at a word that
-- is not in the state that the request wants.
pub record IsWaitOf (m : MachineValue) (t : Step) (wait : Wait) : Type 0 where
  pub request : Request
  pub asks : next_in m t ≡ next.Ask request
  pub blocked : (answer m.world.memory request).1 ≡ reply.Blocked wait.address
  pub ends : wait.address ≡ address_at (end_of m.world.memory request)
  pub word : Cell
  pub there : cell_at m.world.memory wait.address ≡ Some word
  pub other : word.full ≡ not (is_full_state wait.wanted)
  pub wants : Wants request wait.wanted
