-- What a reference does to the word that it reaches: the full/empty table.
use Rattle.std.specs.Prelude.{ℕ, ◌+◌, ◌%◌, ◌^◌, ◌==◌, true, false, Option, Some, None, if◌then◌else◌}
use Rattle.tag_memory.specs.Cell.{Cell, cell_of, tag_number}
use Rattle.tag_memory.specs.Address.{pointer_control_number}
use Rattle.tag_memory.specs.declared.pointers.AccessControl.{AccessControl}
use Rattle.tag_memory.specs.declared.pointers.AccessControl.TheVariants.{Normal, Future, Sync}
use Rattle.tag_memory.specs.declared.requests.MemOp.{MemOp}
use Rattle.tag_memory.specs.declared.requests.MemOp.TheVariants.{Load, Store, Fadd, TagGet, TagSet, Purge}
use Rattle.tag_memory.specs.declared.requests.Acc.{Acc}
use Rattle.tag_memory.specs.declared.requests.Acc.TheVariants as acc

-- the control that a pointer carries; the reserved one, which no reference gets to use, reads as normal
abbrev pub pointer_control : ℕ → AccessControl
pointer_control p =
    if pointer_control_number p == 2 then Future else if pointer_control_number p == 3 then Sync else Normal

-- the control that the access field asks for, of a reference by the pointer p
abbrev pub access_control : Acc → ℕ → AccessControl
access_control acc.FromPointer p = pointer_control p
access_control acc.Normal p = Normal
access_control acc.Future p = Future
access_control acc.Sync p = Sync

-- the word with this value, as full or empty as it was
abbrev pub with_value : Cell → ℕ → Cell
with_value c v = record c { value = v }

-- the word with this value, full
abbrev pub with_value_full : Cell → ℕ → Cell
with_value_full c v = record c { value = v; full = true }

-- the word with this value, empty
abbrev pub with_value_empty : Cell → ℕ → Cell
with_value_empty c v = record c { value = v; full = false }

-- the word made empty
abbrev pub with_full_clear : Cell → Cell
with_full_clear c = record c { full = false }

-- the word with the tags that a number's four low bits are
abbrev pub with_tags : Cell → ℕ → Cell
with_tags c tags = cell_of c.value tags

-- the sum of fetch-and-add
abbrev pub sum_of : Cell → ℕ → ℕ
sum_of c v = (c.value + v) % 2 ^ 64

-- The word after, and the number answered; none where the reference is blocked.
abbrev pub effect : MemOp → AccessControl → Cell → ℕ → Option (Cell × ℕ)
effect Load Normal c v = Some (c, c.value)
effect Load Future c v = if c.full then Some (c, c.value) else None
effect Load Sync c v = if c.full then Some (with_full_clear c, c.value) else None
effect Store Normal c v = Some (with_value_full c v, 0)
effect Store Future c v = if c.full then Some (with_value c v, 0) else None
effect Store Sync c v = if c.full then None else Some (with_value_full c v, 0)
effect Fadd Normal c v = Some (with_value_full c (sum_of c v), c.value)
effect Fadd Future c v = if c.full then Some (with_value c (sum_of c v), c.value) else None
effect Fadd Sync c v = if c.full then Some (with_value c (sum_of c v), c.value) else None
effect TagGet control c v = Some (c, tag_number c)
effect TagSet control c v = Some (with_tags c v, 0)
effect Purge control c v = Some (with_value_empty c v, 0)
