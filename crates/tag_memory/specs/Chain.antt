-- How a reference is led through forwarding words to the word that it acts on.
use Rattle.std.specs.Prelude.{◌≡◌, ℕ, zero, suc, ◌+◌, ◌%◌, ◌==◌, Bool, true, false, not, ◌&&◌}
use Rattle.std.specs.Prelude.{List, [], ◌∷◌, ◌++◌, ◌≤◌, length, Option, Some, None, if◌then◌else◌, nat_lt}
use Rattle.tag_memory.specs.Cell.{Cell, has_bit}
use Rattle.tag_memory.specs.Address.{address_of, is_reserved}
use Rattle.tag_memory.specs.Storage.{TaggedMemory, cell_at}
use Rattle.tag_memory.specs.declared.requests.MemOp.{MemOp}
use Rattle.tag_memory.specs.declared.requests.MemOp.TheVariants.{Load, Store, Fadd, TagGet, TagSet, Purge}
use Rattle.tag_memory.specs.declared.requests.Request.{Request}
use Rattle.tag_memory.specs.declared.requests.MemTrap.TheVariants as trap
use Rattle.tag_memory.specs.declared.chain.Probe.{Probe}
use Rattle.tag_memory.specs.declared.chain.Probe.TheVariants.{Trap, Reach, Forward}
use Rattle.tag_memory.specs.declared.chain.End.{End}
use Rattle.tag_memory.specs.declared.chain.End.TheVariants as at

-- whether the operation is on the tags alone
abbrev pub is_tag_operation : MemOp → Bool
is_tag_operation Load = false
is_tag_operation Store = false
is_tag_operation Fadd = false
is_tag_operation TagGet = true
is_tag_operation TagSet = true
is_tag_operation Purge = false

-- the first rule that holds decides, of a word that stands at the pointer p
abbrev pub probe_cell : Request → ℕ → Option Cell → Probe
probe_cell q p None = Trap trap.Range
probe_cell q p (Some c) =
    if is_tag_operation q.op then Reach c
    else if c.trap0 && not (has_bit p 62) && not q.masked.trap0 then Trap trap.Trap0
    else if c.trap1 && not (has_bit p 63) && not q.masked.trap1 then Trap trap.Trap1
    else if c.forward && not (has_bit p 61) then Forward c.value
    else Reach c

-- what the probe of the memory at the pointer p decides
abbrev pub probe : TaggedMemory → Request → ℕ → Probe
probe m q p =
    if is_reserved p then Trap trap.Pointer
    else if not (address_of p % 8 == 0) then Trap trap.Align
    else probe_cell q p (cell_at m (address_of p))

-- how a probe at p ends the reference, with this chain limit and so many hops made; none where there is another probe
abbrev pub end_at_probe : ℕ → ℕ → ℕ → Probe → Option End
end_at_probe limit hops p (Trap kind) = Some (at.Trap kind (address_of p))
end_at_probe limit hops p (Reach c) = Some (at.Last p c)
end_at_probe limit hops p (Forward next) = if nat_lt hops limit then None else Some (at.Trap trap.Forward (address_of p))

-- whether a path begins with this pointer
abbrev pub Begins : List ℕ → ℕ → Type 0
Begins [] p = ⊥
Begins (first ∷ path) p = first ≡ p

-- The pointers that a request is probed with, one more than the memory's chain limit at most, and how it ends: each
-- probe but the last asks for another one at the next pointer, and the last one's decides.
pub record Leads (m : TaggedMemory) (q : Request) (path : List ℕ) (end : End) : Type 0 where
  pub begins : Begins path q.pointer
  pub linked : (front back : List ℕ) (p next : ℕ) → path ≡ front ++ p ∷ next ∷ back → probe m q p ≡ Forward next
  pub at_most : length path ≤ m.chain_limit + 1
  pub ends : (front : List ℕ) (p : ℕ) → path ≡ front ++ p ∷ []
      → end_at_probe m.chain_limit (length front) p (probe m q p) ≡ Some end

-- A request is led along one path, to one end.
abbrev pub IsLedAlongOnePath : Type 0
IsLedAlongOnePath =
    (m : TaggedMemory) (q : Request) (path other : List ℕ) (end last : End)
    → Leads m q path end → Leads m q other last → (path ≡ other) × (end ≡ last)

-- the same end by computing: a probe at p ends the reference, or leads on to the end that `rest` has for the next
-- pointer
abbrev pub end_by_probe : ℕ → Probe → (ℕ → End) → End
end_by_probe p (Trap kind) rest = at.Trap kind (address_of p)
end_by_probe p (Reach c) rest = at.Last p c
end_by_probe p (Forward next) rest = rest next

-- where the reference at p ends, with so many hops left
unfoldable pub end_from : TaggedMemory → Request → ℕ → ℕ → End
end_from m q zero p = end_by_probe p (probe m q p) (λ next. at.Trap trap.Forward (address_of p))
end_from m q (suc left) p = end_by_probe p (probe m q p) (λ next. end_from m q left next)

-- where the request ends
abbrev pub end_of : TaggedMemory → Request → End
end_of m q = end_from m q m.chain_limit q.pointer
