-- Memories in which no word has the forward bit, and requests that set none.
use Rattle.std.specs.Prelude.{◌≡◌, ℕ, Bool, false, Some}
use Rattle.tag_memory.specs.Cell.{Cell, has_bit}
use Rattle.tag_memory.specs.Storage.{TaggedMemory, cell_at}
use Rattle.tag_memory.specs.declared.requests.MemOp.{MemOp}
use Rattle.tag_memory.specs.declared.requests.MemOp.TheVariants.{Load, Store, Fadd, TagGet, TagSet, Purge}

-- no word of the memory has the forward bit
abbrev pub IsUnforwarded : TaggedMemory → Type 0
IsUnforwarded m = (a : ℕ) (c : Cell) → cell_at m a ≡ Some c → c.forward ≡ false

-- whether an operation with this value sets the forward bit of its word: TAGSET alone does, where the value has it
abbrev pub sets_forward : MemOp → ℕ → Bool
sets_forward Load v = false
sets_forward Store v = false
sets_forward Fadd v = false
sets_forward TagGet v = false
sets_forward TagSet v = has_bit v 1
sets_forward Purge v = false
