-- The line of an entry in a history.
use Rattle.std.specs.Prelude.{ℕ, ◌+◌, ◌-◌, List, ◌++◌, codes, length, replicate, if◌then◌else◌}
use Rattle.text_parts.specs.Digits.{hexadecimal_16, hexadecimal_12, hexadecimal_digit, two_digits}
use Rattle.insn_word.specs.declared.operations.MemoryOp.{MemoryOp}
use Rattle.insn_word.specs.declared.operations.MemoryOp.TheVariants as memory
use Rattle.asm_line.specs.Names.{memory_name}
use Rattle.tag_memory.specs.declared.requests.MemOp.{MemOp}
use Rattle.tag_memory.specs.declared.requests.MemOp.TheVariants as op
use Rattle.tag_memory.specs.declared.requests.Acc.{Acc}
use Rattle.tag_memory.specs.declared.requests.Acc.TheVariants as acc
use Rattle.tag_memory.specs.declared.requests.RequestMask.{RequestMask}
use Rattle.tag_memory.specs.declared.requests.Request.{Request}
use Rattle.tag_memory.specs.declared.requests.Reply.{Reply}
use Rattle.tag_memory.specs.declared.requests.Reply.TheVariants as reply
use Rattle.stream_core.specs.Traps.{memory_trap, trap_number}
use Rattle.processor.specs.declared.steps.Entry.{Entry}
use Rattle.trace_text.specs.TraceLines.{place_text}

-- the operation of a program that makes such a request
abbrev pub program_operation : MemOp → MemoryOp
program_operation op.Load = memory.Load
program_operation op.Store = memory.Store
program_operation op.Fadd = memory.FetchAdd
program_operation op.TagGet = memory.TagGet
program_operation op.TagSet = memory.TagSet
program_operation op.Purge = memory.Purge

-- with blanks behind, up to the width
abbrev pub left_aligned : ℕ → List ℕ → List ℕ
left_aligned width text = text ++ replicate (width - length text) 32

-- its name in the assembler, in six places
unfoldable pub operation_column : MemOp → List ℕ
operation_column o = left_aligned 6 (memory_name (program_operation o))

-- the access field as a number
unfoldable pub acc_number : Acc → ℕ
acc_number acc.FromPointer = 0
acc_number acc.Normal = 1
acc_number acc.Future = 2
acc_number acc.Sync = 3

-- the trap bits that are passed over, as a number
abbrev pub masked_number : RequestMask → ℕ
masked_number m = (if m.trap0 then 1 else 0) + (if m.trap1 then 2 else 0)

-- the operation, the pointer and the access field
abbrev pub reference_text : Request → List ℕ
reference_text q =
    operation_column q.op ++ codes " " ++ hexadecimal_16 q.pointer ++ codes " "
    ++ hexadecimal_digit (acc_number q.acc) ++ codes " "

-- the value, and what is passed over
abbrev pub operand_text : Request → List ℕ
operand_text q = hexadecimal_16 q.value ++ codes " " ++ hexadecimal_digit (masked_number q.masked) ++ codes " "

-- what was asked
abbrev pub request_text : Request → List ℕ
request_text q = reference_text q ++ operand_text q

-- what the memory replied: the value, or the address with its low 48 bits
unfoldable pub reply_text : Reply → List ℕ
reply_text (reply.Done v) = codes "DONE " ++ hexadecimal_16 v
reply_text (reply.Blocked a) = codes "BLOCKED " ++ hexadecimal_12 a
reply_text (reply.Trap k a) =
    codes "TRAP " ++ two_digits (trap_number (memory_trap k)) ++ codes " " ++ hexadecimal_12 a

-- its number, its processor and stream, what was asked, and the reply
unfoldable pub history_line_of : ℕ → Entry → List ℕ
history_line_of n e =
    place_text n (record { p = e.p; s = e.s }) ++ request_text e.request ++ reply_text e.reply ++ codes "\n"
