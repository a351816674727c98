-- A request that only reads leaves the memory as it is.
use Rattle.std.proofs.Common.{◌≡◌, ℕ, ◌/◌, ◌%◌, ◌==◌, refl, sym, ap, ◌∙◌}
use Rattle.std.proofs.Common.{Bool, true, false, if◌then◌else◌, set, Option, Some, None, slice_get}
use Rattle.std.proofs.lemmas.List.{set-get_or}
use Rattle.std.proofs.lemmas.Option.{get_or_from_slice_get}
use Rattle.tag_memory.specs.Cell.{Cell}
use Rattle.tag_memory.specs.Address.{address_of}
use Rattle.tag_memory.specs.Storage.{TaggedMemory, cell_at, with_cell}
use Rattle.tag_memory.specs.Access.{access_control, effect}
use Rattle.tag_memory.specs.Chain.{end_of}
use Rattle.tag_memory.specs.Answer.{answer_by_effect, at_end, answer}
use Rattle.tag_memory.specs.ReadRequests.{load_changes, may_change}
use Rattle.tag_memory.specs.declared.requests.MemOp.{MemOp}
use Rattle.tag_memory.specs.declared.requests.MemOp.TheVariants.{Load, Store, Fadd, TagGet, TagSet, Purge}
use Rattle.tag_memory.specs.declared.requests.Acc.{Acc}
use Rattle.tag_memory.specs.declared.requests.Acc.TheVariants as acc
use Rattle.tag_memory.specs.declared.requests.Request.{Request}
use Rattle.tag_memory.specs.declared.chain.End.{End}
use Rattle.tag_memory.specs.declared.chain.End.TheVariants as at
use Rattle.tag_memory.proofs.Ends.{cell_at-last}

-- the word stays as it is
abbrev Stays : Cell → Option (Cell × ℕ) → Type 0
Stays c None = Unit {0}
Stays c (Some (d, n)) = d ≡ c

if_stays : (b : Bool) (c : Cell) (n : ℕ) → Stays c (if b then Some (c, n) else None)
if_stays true c n = refl
if_stays false c n = tt

load_stays : (a : Acc) (p : ℕ) (c : Cell) (v : ℕ) → load_changes a ≡ false
    → Stays c (effect Load (access_control a p) c v)
load_stays acc.FromPointer p c v e = cc
load_stays acc.Normal p c v e = refl
load_stays acc.Future p c v e = if_stays c.full c c.value
load_stays acc.Sync p c v e = cc

effect_stays : (o : MemOp) (a : Acc) (p : ℕ) (c : Cell) (v : ℕ) → may_change o a ≡ false
    → Stays c (effect o (access_control a p) c v)
effect_stays Load a p c v e = load_stays a p c v e
effect_stays Store a p c v e = cc
effect_stays Fadd a p c v e = cc
effect_stays TagGet a p c v e = refl
effect_stays TagSet a p c v e = cc
effect_stays Purge a p c v e = cc

there : (b : Bool) (o : Option Cell) (c : Cell) → (if b then o else None) ≡ Some c → o ≡ Some c
there true o c e = e
there false o c e = cc

-- a word that is put where it stands changes nothing
put_same : (m : TaggedMemory) (a : ℕ) (c : Cell) → cell_at m a ≡ Some c → with_cell m a c ≡ m
put_same m a c e =
    let stands : slice_get m.cells (a / 8) ≡ Some c = there (a % 8 == 0) (slice_get m.cells (a / 8)) c e in
    ap (λ cs. record { cells = cs; chain_limit = m.chain_limit })
    (ap (λ d. set m.cells (a / 8) d) (sym (get_or_from_slice_get m.cells (a / 8) c c stands))
    ∙ set-get_or m.cells (a / 8) c)

by_effect_stays : (m : TaggedMemory) (a : ℕ) (c : Cell) (o : Option (Cell × ℕ)) → cell_at m a ≡ Some c → Stays c o
    → (answer_by_effect m a o).0 ≡ m
by_effect_stays m a c None e s = refl
by_effect_stays m a c (Some (d, n)) e s = ap (with_cell m a) s ∙ put_same m a c e

at_end_stays : (m : TaggedMemory) (q : Request) (e : End) → end_of m q ≡ e → may_change q.op q.acc ≡ false
    → (at_end m q e).0 ≡ m
at_end_stays m q (at.Trap kind a) ends s = refl
at_end_stays m q (at.Last p c) ends s =
    by_effect_stays m (address_of p) c (effect q.op (access_control q.acc q.pointer) c q.value)
    (cell_at-last m q m.chain_limit q.pointer p c ends) (effect_stays q.op q.acc q.pointer c q.value s)

pub unchanged : (m : TaggedMemory) (q : Request) → may_change q.op q.acc ≡ false → (answer m q).0 ≡ m
unchanged m q s = at_end_stays m q (end_of m q) refl s
