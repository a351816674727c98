-- The rule of the table. Its first word is the ticket that is served, its second the next ticket to be drawn. Its
-- slot has the memory, but while the call whose ticket is served has it.
use Rattle.std.specs.Prelude.{ℕ, ◌≡◌, ◌+◌, ◌-◌, ◌<◌, ◌≤◌, ◌⊎◌, ◌||◌, List, [], ◌∷◌}
use Rattle.std.specs.Prelude.{Option, Some, None, Bool, true, false}
use mathlib.Core.Option.{none, some}
use mathlib.Core.Option as maybe
use lib.ListN.{get_elem?}
use Rattle.atomic_table.specs.Table.{State}
use Rattle.image_file.specs.ImageValue.{ImageValue}
use Rattle.processor.specs.Histories.{pairs_of}
use Rattle.shared_history.specs.SharedMemory.{SharedValue}
use Rattle.memory_lock.specs.declared.turns.views.Stage.{Stage}
use Rattle.memory_lock.specs.declared.turns.views.Stage.TheVariants.{Idle, Waits, Holds}
use Rattle.memory_lock.specs.declared.turns.views.Past.{Past}
use Rattle.memory_lock.specs.declared.turns.views.Caller.{Caller}
use Rattle.memory_lock.specs.declared.turns.views.View.{View}
use Rattle.memory_lock.specs.Seats.{Slot, past_of}

-- Stages.

abbrev pub count_tickets : Stage → ℕ
count_tickets Idle = 0
count_tickets (Waits t) = 1
count_tickets (Holds t h) = 1

abbrev pub ticket_of : Stage → Option ℕ
ticket_of Idle = None
ticket_of (Waits t) = Some t
ticket_of (Holds t h) = Some t

abbrev pub has_memory : Stage → Bool
has_memory Idle = false
has_memory (Waits t) = false
has_memory (Holds t h) = true

-- n is served, d is drawn next, h is the memory's past: a ticket was drawn and is not served yet, and who has the
-- memory is served and found this past
abbrev pub FitsWords : ℕ → ℕ → Past → Stage → Type 0
FitsWords n d h Idle = Unit {0}
FitsWords n d h (Waits t) = (n ≤ t) × (t < d)
FitsWords n d h (Holds t g) = (t ≡ n) × (g ≡ h)

-- no two have one ticket
abbrev pub HaveOwnTickets : Stage → Stage → Type 0
HaveOwnTickets a b = (t : ℕ) → ticket_of a ≡ Some t → ticket_of b ≡ Some t → ⊥

-- The two processors p and q, with what each did: the tickets that were drawn are those that were served and those
-- that are held; they were drawn by the two; and each made just its part of the history.
pub record AreCallers (n d : ℕ) (h : Past) (p : ℕ) (a : Caller) (q : ℕ) (b : Caller) : Type 0 where
  pub count : d ≡ n + (count_tickets a.stage + count_tickets b.stage)
  pub asks : d ≡ a.asks + b.asks
  pub few_a : a.asks ≤ 4294967295
  pub few_b : b.asks ≤ 4294967295
  pub fits_a : FitsWords n d h a.stage
  pub fits_b : FitsWords n d h b.stage
  pub apart : HaveOwnTickets a.stage b.stage
  pub made_a : pairs_of p h.history ≡ a.made
  pub made_b : pairs_of q h.history ≡ b.made

-- The slot: with the memory of this past, or taken.
abbrev pub IsSlot : List (maybe.Option Slot) → Past → Bool → Type 0
IsSlot hs h true = hs ≡ none ∷ []
IsSlot hs h false = (m : SharedValue) × (hs ≡ some (Some m) ∷ []) × (past_of m ≡ h)

-- What seats know, where the seat at stands for processor p, which did a, and the seat bt for q, which did b.
module _ (p : ℕ) (a : Caller) (at q : ℕ) (b : Caller) (bt : ℕ) where
  -- the seat j stands for processor k, which did c
  abbrev pub StandsFor : ℕ → ℕ → Caller → Type 0
  StandsFor j k c = ((k ≡ p) × (j ≡ at) × (c ≡ a)) ⊎ ((k ≡ q) × (j ≡ bt) × (c ≡ b))

  -- beside it for the other one, which has no ticket
  abbrev pub StandsForOther : ℕ → ℕ → Option Caller → Type 0
  StandsForOther j k None = Unit {0}
  StandsForOther j k (Some c) = StandsFor j (1 - k) c × (c.stage ≡ Idle)

  abbrev pub KnowsIf : ℕ → View → Bool → Type 0
  KnowsIf j v true = Unit {0}
  KnowsIf j v false = StandsFor j v.number v.own × StandsForOther j v.number v.other

  -- a seat that was taken in knows nothing
  abbrev pub Knows : ℕ → View → Type 0
  Knows j v = KnowsIf j v v.is_spent

-- they are the processors 0 and 1
abbrev pub AreTheTwo : ℕ → ℕ → Type 0
AreTheTwo p q = ((p ≡ 0) × (q ≡ 1)) ⊎ ((p ≡ 1) × (q ≡ 0))

pub record IsTable (n d : ℕ) (h : Past) (p : ℕ) (a : Caller) (at q : ℕ) (b : Caller) (bt : ℕ)
    (s : State Slot View) : Type 0 where
  pub words : s.words ≡ n ∷ d ∷ []
  pub slot : IsSlot s.homes h (has_memory a.stage || has_memory b.stage)
  pub callers : AreCallers n d h p a q b
  pub numbers : AreTheTwo p q
  pub each : (j : ℕ) (v : View) → get_elem? s.views j ≡ some v → Knows p a at q b bt j v

-- the rule of the table for this image
pub record IsByTickets (image : ImageValue) (s : State Slot View) : Type 0 where
  pub n : ℕ
  pub d : ℕ
  pub h : Past
  pub p : ℕ
  pub a : Caller
  pub at : ℕ
  pub q : ℕ
  pub b : Caller
  pub bt : ℕ
  pub table : IsTable n d h p a at q b bt s
  pub image_is : h.image ≡ image
