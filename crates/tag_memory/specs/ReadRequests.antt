-- Requests that change no word, whatever stands there.
use Rattle.std.specs.Prelude.{Bool, true, false}
use Rattle.tag_memory.specs.declared.requests.MemOp.{MemOp}
use Rattle.tag_memory.specs.declared.requests.MemOp.TheVariants.{Load, Store, Fadd, TagGet, TagSet, Purge}
use Rattle.tag_memory.specs.declared.requests.Acc.{Acc}
use Rattle.tag_memory.specs.declared.requests.Acc.TheVariants as acc

-- whether a LOAD of this access may change its word: by sync control it empties it
abbrev pub load_changes : Acc → Bool
load_changes acc.FromPointer = true
load_changes acc.Normal = false
load_changes acc.Future = false
load_changes acc.Sync = true

-- whether an operation of this access may change its word
abbrev pub may_change : MemOp → Acc → Bool
may_change Load a = load_changes a
may_change Store a = true
may_change Fadd a = true
may_change TagGet a = false
may_change TagSet a = true
may_change Purge a = true
