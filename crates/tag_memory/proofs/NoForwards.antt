-- A memory in which no word has the forward bit stays one, and forwards no request.
use Rattle.std.proofs.Common.{◌≡◌, ◌≢◌, ℕ, zero, suc, ◌/◌, ◌%◌, ◌==◌, inl, inr, refl, sym, ap, ◌∙◌, arith}
use Rattle.std.proofs.Common.{Bool, true, false, not, ◌&&◌, if◌then◌else◌, List, length, set, Option, Some, None, slice_get}
use Rattle.std.specs.Bool.{⊤}
use Rattle.std.proofs.lemmas.Bool.{cases_lt, cases_eq}
use Rattle.std.proofs.lemmas.List.{length-set, get_or-set_same}
use Rattle.std.proofs.lemmas.Option.{slice_get-get_or, slice_get_past}
use Rattle.tag_memory.specs.Cell.{Cell, has_bit}
use Rattle.tag_memory.specs.Address.{address_of, is_reserved}
use Rattle.tag_memory.specs.Storage.{TaggedMemory, cell_at, with_cell}
use Rattle.tag_memory.specs.Access.{access_control, effect}
use Rattle.tag_memory.specs.Chain.{is_tag_operation, probe_cell, probe, end_by_probe, end_from, end_of}
use Rattle.tag_memory.specs.Answer.{answer_by_effect, at_end, address_at, answer}
use Rattle.tag_memory.specs.declared.pointers.AccessControl.{AccessControl}
use Rattle.tag_memory.specs.declared.pointers.AccessControl.TheVariants.{Normal, Future, Sync}
use Rattle.tag_memory.specs.declared.requests.MemOp.{MemOp}
use Rattle.tag_memory.specs.declared.requests.MemOp.TheVariants.{Load, Store, Fadd, TagGet, TagSet, Purge}
use Rattle.tag_memory.specs.declared.requests.Request.{Request}
use Rattle.tag_memory.specs.declared.requests.MemTrap.TheVariants as trap
use Rattle.tag_memory.specs.declared.chain.Probe.{Probe}
use Rattle.tag_memory.specs.declared.chain.Probe.TheVariants.{Trap, Reach, Forward}
use Rattle.tag_memory.specs.declared.chain.End.{End}
use Rattle.tag_memory.specs.declared.chain.End.TheVariants as at
use Rattle.tag_memory.specs.Distant.{last_word, PassesBy, LeavesOut}
use Rattle.tag_memory.specs.Unforwarded.{IsUnforwarded, sets_forward}
use Rattle.tag_memory.proofs.Ends.{cell_at-last}
use Rattle.tag_memory.proofs.TwoRequests.{get_other}

-- what an operation leaves of the forward bit

-- the word that an operation leaves has the forward bit only where it had it
abbrev KeepsClear : Option (Cell × ℕ) → Type 0
KeepsClear None = ⊤
KeepsClear (Some (d, n)) = d.forward ≡ false

if_full : (b : Bool) (d : Cell) (n : ℕ) → d.forward ≡ false → KeepsClear (if b then Some (d, n) else None)
if_full true d n e = e
if_full false d n e = tt

if_empty : (b : Bool) (d : Cell) (n : ℕ) → d.forward ≡ false → KeepsClear (if b then None else Some (d, n))
if_empty true d n e = tt
if_empty false d n e = e

effect_clear : (o : MemOp) (k : AccessControl) (c : Cell) (v : ℕ) → c.forward ≡ false → sets_forward o v ≡ false
    → KeepsClear (effect o k c v)
effect_clear Load Normal c v e s = e
effect_clear Load Future c v e s = if_full c.full c c.value e
effect_clear Load Sync c v e s = if_full c.full (record c { full = false }) c.value e
effect_clear Store Normal c v e s = e
effect_clear Store Future c v e s = if_full c.full (record c { value = v }) 0 e
effect_clear Store Sync c v e s = if_empty c.full (record c { value = v; full = true }) 0 e
effect_clear Fadd Normal c v e s = e
effect_clear Fadd Future c v e s = if_full c.full _ c.value e
effect_clear Fadd Sync c v e s = if_full c.full _ c.value e
effect_clear TagGet k c v e s = e
effect_clear TagSet k c v e s = s
effect_clear Purge k c v e s = e

-- what a word that was put leaves of the others

pub put_there : {X : Type 0} (xs : List X) (n : ℕ) (x c : X) → slice_get (set xs n x) n ≡ Some c → c ≡ x
put_there xs n x c e = elim (cases_lt n (length xs)) [
  | inl within ↦
      let put : slice_get (set xs n x) n ≡ Some x =
      slice_get-get_or (set xs n x) n x (omega (arith, within, length-set xs n x))
      ∙ ap Some (get_or-set_same xs n x x within) in
      let same : Some c ≡ Some x = sym e ∙ put in cc
  | inr past ↦
      let none : slice_get (set xs n x) n ≡ None =
      slice_get_past (set xs n x) n (omega (arith, past, length-set xs n x)) in
      let never : None ≡ Some c = sym none ∙ e in cc
]

get_put : (xs : List Cell) (k n : ℕ) (d c : Cell) → d.forward ≡ false
    → ((x : Cell) → slice_get xs n ≡ Some x → x.forward ≡ false)
    → slice_get (set xs k d) n ≡ Some c → c.forward ≡ false
get_put xs k n d c clear others e = elim (cases_eq n k) [
  | inl same ↦
      let there : slice_get (set xs n d) n ≡ Some c =
      ap (λ j. slice_get (set xs j d) n) same ∙ e in
      ap (λ (x : Cell). x.forward) (put_there xs n d c there) ∙ clear
  | inr apart ↦ others c (sym (get_other xs k n d apart) ∙ e)
]

pub aligned : (b : Bool) (o : Option Cell) (c : Cell) → (if b then o else None) ≡ Some c → (b ≡ true) × (o ≡ Some c)
aligned true o c e = (refl, e)
aligned false o c e = cc

with_clear : (m : TaggedMemory) (a : ℕ) (d : Cell) → IsUnforwarded m → d.forward ≡ false → IsUnforwarded (with_cell m a d)
with_clear m a d un clear b c e =
    let it = aligned (b % 8 == 0) (slice_get (set m.cells (a / 8) d) (b / 8)) c e in
    get_put m.cells (a / 8) (b / 8) d c clear
    (λ x there. un b x (ap (λ t. if t then slice_get m.cells (b / 8) else None) it.0 ∙ there)) it.1

by_effect_clear : (m : TaggedMemory) (a : ℕ) (o : Option (Cell × ℕ)) → IsUnforwarded m → KeepsClear o
    → IsUnforwarded (answer_by_effect m a o).0
by_effect_clear m a None un clear = un
by_effect_clear m a (Some (d, n)) un clear = with_clear m a d un clear

at_end_clear : (m : TaggedMemory) (q : Request) (e : End) → end_of m q ≡ e → IsUnforwarded m
    → sets_forward q.op q.value ≡ false → IsUnforwarded (at_end m q e).0
at_end_clear m q (at.Trap kind a) ends un s = un
at_end_clear m q (at.Last p c) ends un s =
    let stands : cell_at m (address_of p) ≡ Some c = cell_at-last m q m.chain_limit q.pointer p c ends in
    by_effect_clear m (address_of p) (effect q.op (access_control q.acc q.pointer) c q.value) un
    (effect_clear q.op (access_control q.acc q.pointer) c q.value (un (address_of p) c stands) s)

pub stays_unforwarded : (m : TaggedMemory) (q : Request) → IsUnforwarded m → sets_forward q.op q.value ≡ false
    → IsUnforwarded (answer m q).0
stays_unforwarded m q un s = at_end_clear m q (end_of m q) refl un s

-- no probe leads on

not_on : (tags t0 t1 forward : Bool) (d : Cell) (next : ℕ) → forward ≡ false
    → (if tags then Reach d
    else if t0 then Trap trap.Trap0
    else if t1 then Trap trap.Trap1
    else if forward then Forward d.value
    else Reach d)
    ≡ Forward next
    → ⊥
not_on true t0 t1 f d next e g = cc
not_on false true t1 f d next e g = cc
not_on false false true f d next e g = cc
not_on false false false true d next e g = cc
not_on false false false false d next e g = cc

and_clear : (f other : Bool) → f ≡ false → (f && other) ≡ false
and_clear true other e = cc
and_clear false other e = refl

cell_not_on : (q : Request) (p next : ℕ) (reserved unaligned : Bool) (o : Option Cell)
    → ((c : Cell) → o ≡ Some c → c.forward ≡ false)
    → (if reserved then Trap trap.Pointer else if unaligned then Trap trap.Align else probe_cell q p o) ≡ Forward next
    → ⊥
cell_not_on q p next true u o clear e = cc
cell_not_on q p next false true o clear e = cc
cell_not_on q p next false false None clear e = cc
cell_not_on q p next false false (Some c) clear e =
    not_on (is_tag_operation q.op) _ _ (c.forward && not (has_bit p 61)) c next
    (and_clear c.forward (not (has_bit p 61)) (clear c refl)) e

pub never_on : (m : TaggedMemory) (q : Request) (p next : ℕ) → IsUnforwarded m → probe m q p ≡ Forward next → ⊥
never_on m q p next un e =
    cell_not_on q p next (is_reserved p) (not (address_of p % 8 == 0)) (cell_at m (address_of p)) (un (address_of p)) e

passes : (m : TaggedMemory) (q : Request) (k left p : ℕ) → IsUnforwarded m → address_of p / 8 ≢ k → PassesBy m q k left p
passes m q k zero p un apart = apart
passes m q k (suc left) p un apart = (apart, λ next e. absurd (never_on m q p next un e))

pub leaves_out : (m : TaggedMemory) (q : Request) (k : ℕ) → IsUnforwarded m → address_of q.pointer / 8 ≢ k
    → LeavesOut m q k
leaves_out m q k un apart = passes m q k m.chain_limit q.pointer un apart

end_here : (m : TaggedMemory) (q : Request) (p : ℕ) (rest : ℕ → End) (x : Probe) → probe m q p ≡ x → IsUnforwarded m
    → address_at (end_by_probe p x rest) ≡ address_of p
end_here m q p rest (Trap kind) e un = refl
end_here m q p rest (Reach c) e un = refl
end_here m q p rest (Forward next) e un = absurd (never_on m q p next un e)

end_there : (m : TaggedMemory) (q : Request) (left p : ℕ) → IsUnforwarded m
    → address_at (end_from m q left p) ≡ address_of p
unfolding end_from
end_there m q zero p un = end_here m q p (λ next. at.Trap trap.Forward (address_of p)) (probe m q p) refl un
end_there m q (suc left) p un = end_here m q p (λ next. end_from m q left next) (probe m q p) refl un

pub ends_at_once : (m : TaggedMemory) (q : Request) → IsUnforwarded m → last_word m q ≡ address_of q.pointer / 8
ends_at_once m q un = ap (λ a. a / 8) (end_there m q m.chain_limit q.pointer un)
