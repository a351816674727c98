-- What an instruction asks the memory for, by its memory operation.
use Rattle.std.proofs.Common.{◌≡◌, ℕ, sym, ap, ◌∙◌, Some}
use Rattle.insn_word.specs.declared.operations.WideOp.{WideOp}
use Rattle.insn_word.specs.declared.operations.MemoryOp.{MemoryOp}
use Rattle.insn_word.specs.declared.operations.MemoryOp.TheVariants as memory
use Rattle.insn_word.specs.declared.insn.MPart.{MPart}
use Rattle.insn_word.specs.declared.insn.APart.{APart}
use Rattle.insn_word.specs.declared.insn.CPart.{CPart}
use Rattle.insn_word.specs.declared.insn.Insn.{Insn}
use Rattle.insn_word.specs.declared.insn.Insn.TheVariants.{Wide, Normal}
use Rattle.tag_memory.specs.declared.requests.Request.{Request}
use Rattle.stream_core.specs.Streams.{StreamValue}
use Rattle.stream_core.specs.Effects.{request_by, request_of}

pub wide_asks_none : (s : StreamValue) (i : Insn) (look reg imm : ℕ) (op : WideOp) (q : Request)
    → i ≡ Wide look op reg imm → request_of s i ≡ Some q → ⊥
unfolding request_of
wide_asks_none s i look reg imm op q is e =
    let none : request_of s (Wide look op reg imm) ≡ Some q = ap (request_of s) (sym is) ∙ e in cc

pub asks_by : (s : StreamValue) (i : Insn) (look : ℕ) (m : MPart) (a : APart) (c : CPart) (q : Request)
    → i ≡ Normal look m a c → request_of s i ≡ Some q → request_by s m m.op ≡ Some q
unfolding request_of
asks_by s i look m a c q is e = ap (request_of s) (sym is) ∙ e

pub nop_asks_none : (s : StreamValue) (m : MPart) (o : MemoryOp) (q : Request) → o ≡ memory.Nop
    → request_by s m o ≡ Some q → ⊥
nop_asks_none s m o q none e =
    let it : request_by s m memory.Nop ≡ Some q = ap (request_by s m) (sym none) ∙ e in cc
