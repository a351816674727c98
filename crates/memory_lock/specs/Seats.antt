-- What a seat at the table knows of its processor's calls, and how a step changes it.
use Rattle.std.specs.Prelude.{ℕ, ◌≡◌, ◌≢◌, ◌+◌, ◌-◌, List, [], ◌∷◌, ◌++◌, Option, Some, None, Bool, true, false}
use Rattle.atomic_table.specs.Table.{Me, Step}
use Rattle.atomic_table.specs.Seated.{TableId}
use Rattle.atomic_table.specs.declared.shared.Seat.{Seat}
use Rattle.processor.specs.Histories.{pairs_of}
use Rattle.processor.specs.declared.steps.Asked.{Asked}
use Rattle.processor.specs.declared.steps.Entry.{Entry}
use Rattle.shared_history.specs.SharedMemory.{SharedValue}
use Rattle.memory_lock.specs.declared.turns.views.Stage.{Stage}
use Rattle.memory_lock.specs.declared.turns.views.Stage.TheVariants.{Idle, Waits, Holds}
use Rattle.memory_lock.specs.declared.turns.views.Past.{Past}
use Rattle.memory_lock.specs.declared.turns.views.Caller.{Caller}
use Rattle.memory_lock.specs.declared.turns.views.View.{View}

-- what the table's one slot holds
abbrev pub Slot : Type 0
Slot = Option SharedValue

-- Views.

-- a processor that took no ticket yet
abbrev pub new_caller : Caller
new_caller = record { asks = 0; stage = Idle; made = [] }

abbrev pub caller_or_new : Option Caller → Caller
caller_or_new (Some c) = c
caller_or_new None = new_caller

-- the first seat stands for both processors
abbrev pub first_view : View
first_view = record { is_spent = false; number = 0; own = new_caller; other = Some new_caller }

-- what is left of a seat that another took in
abbrev pub spent_view : View
spent_view = record { is_spent = true; number = 0; own = new_caller; other = None }

-- the view of a seat that stands for one processor, at this stage
abbrev pub IsAt : View → Stage → Type 0
IsAt v stage = (v.is_spent ≡ false) × (v.other ≡ None) × (v.own.stage ≡ stage)

abbrev pub with_stage : View → ℕ → Stage → View
with_stage v asks stage = record v { own = record { asks = asks; stage = stage; made = v.own.made } }

-- the view after a call, with the pairs that it made
abbrev pub after_ask : View → List Asked → View
after_ask v more = record v { own = record { asks = v.own.asks + 1; stage = Idle; made = v.own.made ++ more } }

-- a seat for both processors is cut into one for each
abbrev pub own_view : View → View
own_view v = record v { other = None }

abbrev pub other_view : View → View
other_view v = record { is_spent = false; number = 1 - v.number; own = caller_or_new v.other; other = None }

-- and two seats are put together
abbrev pub both_views : View → View → View
both_views v w = record v { other = Some w.own }

-- What a step tells: the seat before, the number that was found, and the seat after.

-- the ticket that a stage has
abbrev pub stage_ticket : Stage → ℕ
stage_ticket Idle = 0
stage_ticket (Waits t) = t
stage_ticket (Holds t h) = t

-- what a memory has behind it
abbrev pub past_of : SharedValue → Past
past_of m = record { image = m.image; history = m.history }

-- the history of the memory in the slot that was taken last
abbrev pub slot_history : List (ℕ × Slot) → List Entry
slot_history [] = []
slot_history ((k, None) ∷ xs) = []
slot_history ((k, Some m) ∷ xs) = m.history

-- the number that was found is the seat's ticket
abbrev pub IsDraw : Step Slot → Me Slot View → ℕ → Me Slot View → Type 0
IsDraw st m n m' = m' ≡ (with_stage m.0 (m.0.own.asks + 1) (Waits n), m.1)

-- Where it is the seat's ticket, the seat took the slot with the memory, in whose history its processor made just
-- what the seat knows. Else nothing changed.
abbrev pub IsPoll : Step Slot → Me Slot View → ℕ → Me Slot View → Type 0
IsPoll st m n m' =
    (n ≡ stage_ticket m.0.own.stage → (y : SharedValue)
    × (m' ≡ (with_stage m.0 m.0.own.asks (Holds n (past_of y)), (0, Some y) ∷ m.1))
    × (pairs_of m.0.number y.history ≡ m.0.own.made))
    × (n ≢ stage_ticket m.0.own.stage → m' ≡ m)

-- The slot was given back, and the processor made what it has in the history of the memory there.
abbrev pub IsRaise : Step Slot → Me Slot View → ℕ → Me Slot View → Type 0
IsRaise st m n m' = m'
    ≡ (
      record m.0 {
        own = record {
          asks = m.0.own.asks;
          stage = Idle;
          made = pairs_of m.0.number (slot_history m.1);
        };
      },
      [],
    )

-- Seats.

-- a seat at this table, which has two words and one slot
abbrev pub IsSeatOf : Seat Slot View → TableId → Type 0
IsSeatOf seat id = (seat.table_id ≡ id) × (id.words ≡ 2) × (id.slots ≡ 1)

abbrev pub IsSameSeat : Seat Slot View → Seat Slot View → Type 0
IsSameSeat a b = (b.table_id ≡ a.table_id) × (b.id ≡ a.id)

-- a seat at this table between two calls, for the processor of this number
pub record IsIdleSeat (seat : Seat Slot View) (id : TableId) (number : ℕ) : Type 0 where
  pub of : IsSeatOf seat id
  pub at : IsAt seat.me.0 Idle
  pub bare : seat.me.1 ≡ []
  pub number_is : seat.me.0.number ≡ number

-- a name that no table has to have
abbrev pub no_table : TableId
no_table = record { words = 0; slots = 0; views_name = 0; atom = 0; block = 0; offset = 0; slot_names = [] }

-- a port: how often it may still ask, the pairs that its processor made, and whether it was refused
pub record TurnPortValue : Type 0 where
  pub left : ℕ
  pub made : List Asked
  pub is_refused : Bool
