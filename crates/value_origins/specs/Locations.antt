-- Where values stand, which steps write there, and what a step read for what it wrote.
use Rattle.std.specs.Prelude.{ℕ, ◌==◌, Bool, true, false, not, ◌&&◌, ◌||◌, if◌then◌else◌, List, [], ◌∷◌, ◌++◌, Option}
use Rattle.std.specs.Prelude.{Some, None, slice_get}
use Rattle.insn_word.specs.Words.{memory_destination, arithmetic_destination, control_destination}
use Rattle.insn_word.specs.declared.operations.WideOp.{WideOp}
use Rattle.insn_word.specs.declared.operations.WideOp.TheVariants as wide
use Rattle.insn_word.specs.declared.operations.ControlOp.{ControlOp}
use Rattle.insn_word.specs.declared.operations.ControlOp.TheVariants as control
use Rattle.insn_word.specs.declared.insn.APart.{APart}
use Rattle.insn_word.specs.declared.insn.CPart.{CPart}
use Rattle.insn_word.specs.declared.insn.Insn.{Insn}
use Rattle.insn_word.specs.declared.insn.Insn.TheVariants.{Wide, Normal}
use Rattle.tag_memory.specs.declared.requests.MemOp.{MemOp}
use Rattle.tag_memory.specs.declared.requests.MemOp.TheVariants as op
use Rattle.processor.specs.declared.steps.Step.{Step}
use Rattle.run_findings.specs.Actions.{is_by, is_change}
use Rattle.run_findings.specs.Marks.{is_quit}
use Rattle.run_findings.specs.Places.{passes}
use Rattle.run_findings.specs.declared.actions.Access.{Access}
use Rattle.run_findings.specs.declared.actions.Action.{Action}
use Rattle.run_findings.specs.declared.actions.Deed.{Deed}
use Rattle.run_findings.specs.declared.actions.Deed.TheVariants as deed
use Rattle.value_origins.specs.Streams.{begins}
use Rattle.value_origins.specs.declared.locations.Location.{Location}
use Rattle.value_origins.specs.declared.locations.Location.TheVariants as location

-- What a step writes.

-- whether an instruction writes a register of its stream: QUIT and QUITP leave zeros in all
abbrev pub insn_writes : Insn → ℕ → Bool
insn_writes (Wide look wide.Literal reg imm) r = reg == r
insn_writes (Wide look wide.LiteralHigh reg imm) r = reg == r
insn_writes (Wide look wide.TargetLiteral reg imm) r = false
insn_writes (Normal look m a c) r =
    is_quit c.op || memory_destination m.op m.rd == r || arithmetic_destination a.op a.rd == r
    || control_destination c.op c.rd == r

abbrev pub deed_writes : Deed → ℕ → Bool
deed_writes deed.Nothing r = false
deed_writes deed.Trap r = false
deed_writes (deed.Instruction i) r = insn_writes i r

-- whether a control operation writes a target register
abbrev pub control_writes : ControlOp → CPart → ℕ → Bool
control_writes control.Nop c k = false
control_writes control.Jump c k = false
control_writes control.Skip c k = false
control_writes control.Call c k = c.u == k
control_writes control.Exchange c k = c.t == k
control_writes control.TargetSet c k = c.t == k
control_writes control.TargetGet c k = false
control_writes control.TrapGet c k = false
control_writes control.Reserve c k = false
control_writes control.Create c k = false
control_writes control.Quit c k = true
control_writes control.QuitKeep c k = true
control_writes control.Mask c k = false

-- the same of an instruction, and of what a step did: by a trap the status word and t0 change places
abbrev pub insn_writes_target : Insn → ℕ → Bool
insn_writes_target (Wide look wide.Literal reg imm) k = false
insn_writes_target (Wide look wide.LiteralHigh reg imm) k = false
insn_writes_target (Wide look wide.TargetLiteral reg imm) k = reg == k
insn_writes_target (Normal look m a c) k = control_writes c.op c k

abbrev pub deed_writes_target : Deed → ℕ → Bool
deed_writes_target deed.Nothing k = false
deed_writes_target deed.Trap k = k == 0
deed_writes_target (deed.Instruction i) k = insn_writes_target i k

-- whether an operation puts a value or tags into its word
abbrev pub op_puts : MemOp → Bool
op_puts op.Load = false
op_puts op.Store = true
op_puts op.Fadd = true
op_puts op.TagGet = false
op_puts op.TagSet = true
op_puts op.Purge = true

-- whether an access puts something into a word, be it what stood there, or leaves it otherwise than it was, as a LOAD that
-- empties it
abbrev pub access_puts : ℕ → Option Access → Bool
access_puts a None = false
access_puts a (Some x) = x.address == a && (op_puts x.op || is_change x)

-- Whether step n, which this is, writes a location. A register is written by its own stream, and by the CREATE that
-- begins its stream. r0 is never written.
abbrev pub is_written : List Action → ℕ → Location → Action → Bool
is_written ds n (location.Register t r) d =
    not (r == 0) && ((is_by t d && deed_writes d.deed r) || begins ds n t d)
is_written ds n (location.Target t k) d = (is_by t d && deed_writes_target d.deed k) || begins ds n t d
is_written ds n (location.Word a) d = access_puts a d.access

-- whether step n writes a location
abbrev pub writes_at : List Action → Location → ℕ → Bool
writes_at ds l n = passes (is_written ds n l) (slice_get ds n)

-- What it read for that. What stands in the status word and the trap register, or is granted, has no location.

-- a register, unless it is r0
abbrev pub one : Step → ℕ → List Location
one t r = if r == 0 then [] else location.Register t r ∷ []

-- two registers, or one where they are the same
abbrev pub two : Step → ℕ → ℕ → List Location
two t x y = if x == y then one t x else one t x ++ one t y

-- the operands of an arithmetic operation
abbrev pub operands : Step → APart → List Location
operands t a = two t a.ra (if a.imm then 0 else a.rb)

-- the word of an access
abbrev pub accessed : Option Access → List Location
accessed None = []
accessed (Some x) = location.Word x.address ∷ []

-- of what the control operation writes into a register, TGET alone has a target register's value
abbrev pub control_reads : Step → ControlOp → CPart → List Location
control_reads t control.Nop c = []
control_reads t control.Jump c = []
control_reads t control.Skip c = []
control_reads t control.Call c = []
control_reads t control.Exchange c = []
control_reads t control.TargetSet c = []
control_reads t control.TargetGet c = location.Target t c.t ∷ []
control_reads t control.TrapGet c = []
control_reads t control.Reserve c = []
control_reads t control.Create c = []
control_reads t control.Quit c = []
control_reads t control.QuitKeep c = []
control_reads t control.Mask c = []

-- what an instruction of up to three operations read for a register that it wrote: the operation that wrote it says
abbrev pub parts_read : Action → APart → CPart → ℕ → List Location
parts_read d a c r =
    if is_quit c.op then []
    else if control_destination c.op c.rd == r then control_reads d.stream c.op c
    else if arithmetic_destination a.op a.rd == r then operands d.stream a
    else accessed d.access

-- LITH keeps half of its register
abbrev pub wide_reads : Step → WideOp → ℕ → List Location
wide_reads t wide.Literal reg = []
wide_reads t wide.LiteralHigh reg = one t reg
wide_reads t wide.TargetLiteral reg = []

abbrev pub read_for_register : Action → Deed → ℕ → List Location
read_for_register d deed.Nothing r = []
read_for_register d deed.Trap r = []
read_for_register d (deed.Instruction (Wide look op reg imm)) r = wide_reads d.stream op reg
read_for_register d (deed.Instruction (Normal look m a c)) r = parts_read d a c r

-- a target register has a register's value by TSET alone
abbrev pub target_source : ControlOp → CPart → ℕ
target_source control.Nop c = 0
target_source control.Jump c = 0
target_source control.Skip c = 0
target_source control.Call c = 0
target_source control.Exchange c = 0
target_source control.TargetSet c = c.ra
target_source control.TargetGet c = 0
target_source control.TrapGet c = 0
target_source control.Reserve c = 0
target_source control.Create c = 0
target_source control.Quit c = 0
target_source control.QuitKeep c = 0
target_source control.Mask c = 0

abbrev pub read_for_target : Deed → ℕ
read_for_target deed.Nothing = 0
read_for_target deed.Trap = 0
read_for_target (deed.Instruction (Wide look op reg imm)) = 0
read_for_target (deed.Instruction (Normal look m a c)) = target_source c.op c

-- the register whose value CREATE gives to r1
abbrev pub created_from : Deed → ℕ
created_from deed.Nothing = 0
created_from deed.Trap = 0
created_from (deed.Instruction (Wide look op reg imm)) = 0
created_from (deed.Instruction (Normal look m a c)) = c.ra

-- the register that a memory operation takes along
abbrev pub taken_along : Deed → ℕ
taken_along deed.Nothing = 0
taken_along deed.Trap = 0
taken_along (deed.Instruction (Wide look op reg imm)) = 0
taken_along (deed.Instruction (Normal look m a c)) = m.rd

-- A word after LOAD has the value that it had, after STORE and PURGE what was taken along, after FADD and TAGSET
-- something of both.
abbrev pub word_reads : MemOp → List Location → List Location → List Location
word_reads op.Load word along = word
word_reads op.Store word along = along
word_reads op.Fadd word along = word ++ along
word_reads op.TagGet word along = word
word_reads op.TagSet word along = word ++ along
word_reads op.Purge word along = along

abbrev pub read_for_word : Action → Option Access → List Location
read_for_word d None = []
read_for_word d (Some x) = word_reads x.op (location.Word x.address ∷ []) (one d.stream (taken_along d.deed))

-- What a step read for what it wrote into a location. A stream that CREATE begins has a register of its creator in r1,
-- the creator's t0, and else zeros.
abbrev pub read_for : Location → Action → List Location
read_for (location.Register t r) d =
    if is_by t d then read_for_register d d.deed r
    else if r == 1 then one d.stream (created_from d.deed)
    else []
read_for (location.Target t k) d =
    if is_by t d then one t (read_for_target d.deed)
    else if k == 0 then location.Target d.stream 0 ∷ []
    else []
read_for (location.Word a) d = read_for_word d d.access

abbrev pub read_in : Location → Option Action → List Location
read_in l None = []
read_in l (Some d) = read_for l d

-- the same of step n
abbrev pub read_at : List Action → Location → ℕ → List Location
read_at ds l n = read_in l (slice_get ds n)
