-- What the steps of a run read, wrote and heard of.
use Rattle.std.specs.Prelude.{ℕ, ◌==◌, Bool, true, false, not, ◌&&◌, ◌||◌, Option, Some, None}
use Rattle.tag_memory.specs.declared.requests.MemOp.{MemOp}
use Rattle.tag_memory.specs.declared.requests.MemOp.TheVariants as op
use Rattle.processor.specs.declared.steps.Step.{Step}
use Rattle.run_findings.specs.declared.actions.Access.{Access}
use Rattle.run_findings.specs.declared.actions.Action.{Action}

-- whether an operation reads the value of its word: TAGGET reads the tags alone
abbrev pub op_reads : MemOp → Bool
op_reads op.Load = true
op_reads op.Store = false
op_reads op.Fadd = true
op_reads op.TagGet = false
op_reads op.TagSet = false
op_reads op.Purge = false

abbrev pub is_load : MemOp → Bool
is_load op.Load = true
is_load op.Store = false
is_load op.Fadd = false
is_load op.TagGet = false
is_load op.TagSet = false
is_load op.Purge = false

abbrev pub is_store : MemOp → Bool
is_store op.Load = false
is_store op.Store = true
is_store op.Fadd = false
is_store op.TagGet = false
is_store op.TagSet = false
is_store op.Purge = false

-- whether a stream learns by this of what others did: LOAD and FADD tell it the value, TAGGET the full bit, and a
-- STORE that found the word empty that it had been emptied
abbrev pub op_hears : MemOp → Bool → Bool
op_hears op.Load full = true
op_hears op.Store full = not full
op_hears op.Fadd full = true
op_hears op.TagGet full = true
op_hears op.TagSet full = false
op_hears op.Purge full = false

abbrev pub is_other_bit : Bool → Bool → Bool
is_other_bit true after = not after
is_other_bit false after = after

-- whether an access left its word otherwise than it was: with another value, or full and not empty, or empty and not
-- full
abbrev pub is_change : Access → Bool
is_change x = not (x.before == x.after) || is_other_bit x.full x.full_after

abbrev pub access_reads : ℕ → Option Access → Bool
access_reads a None = false
access_reads a (Some x) = x.address == a && op_reads x.op

abbrev pub access_writes : ℕ → Option Access → Bool
access_writes a None = false
access_writes a (Some x) = x.address == a && is_change x

abbrev pub access_changes : Option Access → Bool
access_changes None = false
access_changes (Some x) = is_change x

-- whether a step read the value of a word
abbrev pub reads : ℕ → Action → Bool
reads a d = access_reads a d.access

-- whether a step wrote a word: one that leaves it as it was does not
abbrev pub writes : ℕ → Action → Bool
writes a d = access_writes a d.access

-- whether a step is of a stream
abbrev pub is_by : Step → Action → Bool
is_by t d = d.stream.p == t.p && d.stream.s == t.s

-- whether a step of a stream read a word
abbrev pub read_by : Step → ℕ → Action → Bool
read_by t a d = is_by t d && reads a d

-- whether a step of a stream wrote a word
abbrev pub written_by : Step → ℕ → Action → Bool
written_by t a d = is_by t d && writes a d

-- whether a step of a stream wrote some word
abbrev pub writes_by : Step → Action → Bool
writes_by t d = is_by t d && access_changes d.access

-- whether a step of any stream wrote a word, or one of this stream read it
abbrev pub written_or_read_by : Step → ℕ → Action → Bool
written_or_read_by t a d = writes a d || read_by t a d

-- whether a step read or wrote a word
abbrev pub met : ℕ → Action → Bool
met a d = reads a d || writes a d
