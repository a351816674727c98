-- Which state the full/empty table wants of a word that blocks a request, and that such a word stands where it ends.
use Rattle.std.proofs.Common.{◌≡◌, ℕ, zero, suc, ◌%◌, ◌==◌, Bool, true, false, refl, sym, ap, ◌∙◌, arith}
use Rattle.std.proofs.Common.{Option, Some, None, if◌then◌else◌, ◌⊎◌, inl, inr}
use Rattle.std.specs.Prelude.{not, ◌&&◌, IsSome}
use Rattle.tag_memory.specs.Cell.{Cell, has_bit}
use Rattle.tag_memory.specs.Storage.{TaggedMemory, cell_at}
use Rattle.tag_memory.specs.Access.{access_control, effect}
use Rattle.tag_memory.specs.Address.{address_of, is_reserved}
use Rattle.tag_memory.specs.Chain.{is_tag_operation, probe_cell, probe, end_by_probe, end_from, end_of}
use Rattle.tag_memory.specs.Answer.{answer_by_effect, at_end, answer, address_at}
use Rattle.tag_memory.specs.declared.pointers.AccessControl.{AccessControl}
use Rattle.tag_memory.specs.declared.pointers.AccessControl.TheVariants.{Normal, Future, Sync}
use Rattle.tag_memory.specs.declared.requests.MemOp.{MemOp}
use Rattle.tag_memory.specs.declared.requests.MemOp.TheVariants.{Load, Store, Fadd, TagGet, TagSet, Purge}
use Rattle.tag_memory.specs.declared.requests.Request.{Request}
use Rattle.tag_memory.specs.declared.requests.Reply.TheVariants as reply
use Rattle.waiting.specs.declared.waits.Wanted.{Wanted}
use Rattle.waiting.specs.declared.waits.Wanted.TheVariants.{Full, Empty}
use Rattle.waiting.specs.Waits.{is_full_state, with_full, effect_on, Wants}
use Rattle.waiting.specs.Deciding.{wanted_of, wanted_by}

-- The state.

-- what is known of an operation that a word blocks
record IsBlockedBy (op : MemOp) (control : AccessControl) (c : Cell) (wanted : Wanted) : Type 0 where
  other : c.full ≡ not (is_full_state wanted)
  passes : (d : Cell) (v : ℕ) → IsSome (effect op control (with_full d (is_full_state wanted)) v)
  blocks : (d : Cell) (v : ℕ) → effect op control (with_full d (not (is_full_state wanted))) v ≡ None

if_full : (b : Bool) (x : Cell × ℕ) → (if b then Some x else None) ≡ None → b ≡ false
if_full true x e = cc
if_full false x e = refl

if_empty : (b : Bool) (x : Cell × ℕ) → (if b then None else Some x) ≡ None → b ≡ true
if_empty true x e = refl
if_empty false x e = cc

by_table : (op : MemOp) (control : AccessControl) (c : Cell) (v : ℕ) → effect op control c v ≡ None
    → IsBlockedBy op control c (wanted_of op control)
by_table Load Normal c v e = cc
by_table Load Future c v e = record { other = if_full c.full _ e; passes = λ d u. refl; blocks = λ d u. refl }
by_table Load Sync c v e = record { other = if_full c.full _ e; passes = λ d u. refl; blocks = λ d u. refl }
by_table Store Normal c v e = cc
by_table Store Future c v e = record { other = if_full c.full _ e; passes = λ d u. refl; blocks = λ d u. refl }
by_table Store Sync c v e = record { other = if_empty c.full _ e; passes = λ d u. refl; blocks = λ d u. refl }
by_table Fadd Normal c v e = cc
by_table Fadd Future c v e = record { other = if_full c.full _ e; passes = λ d u. refl; blocks = λ d u. refl }
by_table Fadd Sync c v e = record { other = if_full c.full _ e; passes = λ d u. refl; blocks = λ d u. refl }
by_table TagGet control c v e = cc
by_table TagSet control c v e = cc
by_table Purge control c v e = cc

-- a request wants the other state of a word that blocks it
pub wanted_there : (q : Request) (c : Cell) → effect_on q c ≡ None → c.full ≡ not (is_full_state (wanted_by q))
wanted_there q c e = (by_table q.op (access_control q.acc q.pointer) c q.value e).other

pub wants_by : (q : Request) (c : Cell) → effect_on q c ≡ None → Wants q (wanted_by q)
wants_by q c e =
    let found = by_table q.op (access_control q.acc q.pointer) c q.value e in
    record { passes = λ d. found.passes d q.value; blocks = λ d. found.blocks d q.value }

pub same_state : (a b : Wanted) (x : Bool) → x ≡ not (is_full_state a) → x ≡ not (is_full_state b) → a ≡ b
same_state Full Full x e f = refl
same_state Full Empty x e f = cc
same_state Empty Full x e f = cc
same_state Empty Empty x e f = refl

-- The word.

-- whether an effect is that of a block
abbrev is_block : Option (Cell × ℕ) → Bool
is_block None = true
is_block (Some x) = false

-- whether there is a word that blocks the request
abbrev blocks_at : Request → Option Cell → Bool
blocks_at q None = false
blocks_at q (Some c) = is_block (effect_on q c)

-- the type of the ends of requests
abbrev type_of : {A : Type 0} → A → Type 0
type_of {A} x = A

abbrev Ends : TaggedMemory → Request → Type 0
Ends m q = type_of (end_of m q)

abbrev IsBlocked : (m : TaggedMemory) (q : Request) → ℕ → Ends m q → Type 0
IsBlocked m q a end = (at_end m q end).1 ≡ reply.Blocked a

-- a probe by which a request is blocked finds a word
probed : (m : TaggedMemory) (q : Request) (p a : ℕ) (rest : ℕ → Ends m q)
    → IsBlocked m q a (end_by_probe p (probe m q p) rest)
    → IsBlocked m q a (end_by_probe p (probe_cell q p (cell_at m (address_of p))) rest)
probed m q p a rest e = by_pointer (is_reserved p) refl where
  by_address : (b : Bool) → not (address_of p % 8 == 0) ≡ b → is_reserved p ≡ false
      → IsBlocked m q a (end_by_probe p (probe_cell q p (cell_at m (address_of p))) rest)
  by_address true unaligned free = let f = rw (free, unaligned) at e in cc
  by_address false aligned free = rw (free, aligned) at e

  by_pointer : (b : Bool) → is_reserved p ≡ b
      → IsBlocked m q a (end_by_probe p (probe_cell q p (cell_at m (address_of p))) rest)
  by_pointer true reserved = let f = rw reserved at e in cc
  by_pointer false free = by_address (not (address_of p % 8 == 0)) refl free

-- the word blocks it, or forwards it
record GoesOn (m : TaggedMemory) (q : Request) (p a : ℕ) (c : Cell) (rest : ℕ → Ends m q) : Type 0 where
  either : ((answer_by_effect m (address_of p) (effect_on q c)).1 ≡ reply.Blocked a) ⊎ IsBlocked m q a (rest c.value)

at_word : (m : TaggedMemory) (q : Request) (p a : ℕ) (c : Cell) (rest : ℕ → Ends m q)
    → IsBlocked m q a (end_by_probe p (probe_cell q p (Some c)) rest) → GoesOn m q p a c rest
at_word m q p a c rest e = by_operation (is_tag_operation q.op) refl where
  by_forward : (b : Bool) → (c.forward && not (has_bit p 61)) ≡ b
      → (c.trap1 && not (has_bit p 63) && not q.masked.trap1) ≡ false
      → (c.trap0 && not (has_bit p 62) && not q.masked.trap0) ≡ false → is_tag_operation q.op ≡ false
      → GoesOn m q p a c rest
  by_forward true forwards high low none = record { either = inr (rw (none, low, high, forwards) at e) }
  by_forward false reached high low none = record { either = inl (rw (none, low, high, reached) at e) }

  by_trap1 : (b : Bool) → (c.trap1 && not (has_bit p 63) && not q.masked.trap1) ≡ b
      → (c.trap0 && not (has_bit p 62) && not q.masked.trap0) ≡ false → is_tag_operation q.op ≡ false
      → GoesOn m q p a c rest
  by_trap1 true high low none = let f = rw (none, low, high) at e in cc
  by_trap1 false high low none = by_forward (c.forward && not (has_bit p 61)) refl high low none

  by_trap0 : (b : Bool) → (c.trap0 && not (has_bit p 62) && not q.masked.trap0) ≡ b → is_tag_operation q.op ≡ false
      → GoesOn m q p a c rest
  by_trap0 true low none = let f = rw (none, low) at e in cc
  by_trap0 false low none = by_trap1 (c.trap1 && not (has_bit p 63) && not q.masked.trap1) refl low none

  by_operation : (b : Bool) → is_tag_operation q.op ≡ b → GoesOn m q p a c rest
  by_operation true tags = record { either = inl (rw tags at e) }
  by_operation false none = by_trap0 (c.trap0 && not (has_bit p 62) && not q.masked.trap0) refl none

settled : (m : TaggedMemory) (q : Request) (p a : ℕ) (c : Cell) (o : Option (Cell × ℕ))
    → (answer_by_effect m (address_of p) o).1 ≡ reply.Blocked a → (address_of p ≡ a) × (is_block o ≡ true)
settled m q p a c None e = (cc, refl)
settled m q p a c (Some (d, n)) e = cc

at_cell : (m : TaggedMemory) (q : Request) (p a : ℕ) (o : Option Cell) (rest : ℕ → Ends m q)
    → ((next : ℕ) → IsBlocked m q a (rest next) → blocks_at q (cell_at m a) ≡ true)
    → cell_at m (address_of p) ≡ o → IsBlocked m q a (end_by_probe p (probe_cell q p o) rest)
    → blocks_at q (cell_at m a) ≡ true
at_cell m q p a None rest further got e = cc
at_cell m q p a (Some c) rest further got e =
    let found = at_word m q p a c rest e in
    elim found.either [
      | inl here ↦
          let is = settled m q p a c (effect_on q c) here in
          ap (λ b. blocks_at q (cell_at m b)) (sym is.0) ∙ ap (blocks_at q) got ∙ is.1
      | inr on ↦ further c.value on
    ]

by_probe : (m : TaggedMemory) (q : Request) (p a : ℕ) (rest : ℕ → Ends m q)
    → ((next : ℕ) → IsBlocked m q a (rest next) → blocks_at q (cell_at m a) ≡ true)
    → IsBlocked m q a (end_by_probe p (probe m q p) rest) → blocks_at q (cell_at m a) ≡ true
by_probe m q p a rest further e =
    at_cell m q p a (cell_at m (address_of p)) rest further refl (probed m q p a rest e)

-- where a request is blocked a word stands that blocks it
blocked_from : (m : TaggedMemory) (q : Request) (n p a : ℕ) → IsBlocked m q a (end_from m q n p)
    → blocks_at q (cell_at m a) ≡ true
unfolding end_from
blocked_from m q zero p a e = by_probe m q p a _ (λ next f. cc) e
blocked_from m q (suc n) p a e = by_probe m q p a _ (λ next f. blocked_from m q n next a f) e

-- it is the one that the request ends at
pub blocked_end : (m : TaggedMemory) (q : Request) (a : ℕ) → (answer m q).1 ≡ reply.Blocked a
    → a ≡ address_at (end_of m q)
blocked_end m q a e = grind arith

pub record BlockingWord (m : TaggedMemory) (q : Request) (a : ℕ) : Type 0 where
  pub word : Cell
  pub there : cell_at m a ≡ Some word
  pub blocks : effect_on q word ≡ None

block_none : (o : Option (Cell × ℕ)) → is_block o ≡ true → o ≡ None
block_none None e = refl
block_none (Some x) e = cc

word_of : (m : TaggedMemory) (q : Request) (a : ℕ) (o : Option Cell) → cell_at m a ≡ o → blocks_at q o ≡ true
    → BlockingWord m q a
word_of m q a None got e = cc
word_of m q a (Some c) got e = record { word = c; there = got; blocks = block_none (effect_on q c) e }

pub blocking_word : (m : TaggedMemory) (q : Request) (a : ℕ) → (answer m q).1 ≡ reply.Blocked a → BlockingWord m q a
blocking_word m q a e = word_of m q a (cell_at m a) refl (blocked_from m q m.chain_limit q.pointer a e)
