use Rattle.std.proofs.Common.{ℕ, sym, ◌∙◌, subst}
use Rattle.std.specs.Prelude.{IfSome}
use Rattle.insn_word.specs.declared.insn.Insn.{Insn}
use Rattle.stream_core.specs.Registers.{register_at}
use Rattle.stream_core.specs.Streams.{StreamValue}
use Rattle.program_flow.specs.Agreement.{registers_over}
use Rattle.touched_words.specs.TouchTables.{IsOneOf, HoldsKnown}
use Rattle.touched_words.proofs.Writing.{zero_known, wide_known, other_known}
use Rattle.touched_words.proofs.known_after.known_after.Goals as goal

pub returns-then-register-eq0 : goal.returns-then-register-eq0
returns-then-register-eq0 c =
    zero_known c.args.row.now c.known_by-before.result c.args.register c.args.insn.now c.known_by-before.ensures
    c.if-register-eq0.true

pub returns-else-destination-register-3 : goal.returns-else-destination-register-3
returns-else-destination-register-3 c =
    subst
    (λ (i : Insn). IfSome c.known_by-before.result (λ few. (s : StreamValue) (value grant : ℕ)
    → HoldsKnown c.args.row.now s.registers
    → IsOneOf few (register_at (registers_over s i value grant s.registers) c.args.register)))
    (sym c.in-Normal.is)
    (other_known c.args.row.now c.known_by-before.result c.args.register c.in-Normal.look c.in-Normal.m c.in-Normal.a
    c.in-Normal.c c.known_by-before.ensures
    (λ e. c.if-destination-register-3.false (c.destination-else-destination-register-2.ensures ∙ e))
    (λ e. c.if-destination-register-2.false (c.destination-else-destination-register.ensures ∙ e))
    (λ e. c.if-destination-register.false (c.destination.ensures ∙ e)))

pub returns-else-wide_destination-register : goal.returns-else-wide_destination-register
returns-else-wide_destination-register c =
    subst
    (λ (i : Insn). IfSome c.known_by-before.result (λ few. (s : StreamValue) (value grant : ℕ)
    → HoldsKnown c.args.row.now s.registers
    → IsOneOf few (register_at (registers_over s i value grant s.registers) c.args.register)))
    (sym c.in-Wide.is)
    (wide_known c.args.row.now c.known_by-before.result c.args.register c.in-Wide.look c.in-Wide.reg c.in-Wide.imm
    c.in-Wide.op c.known_by-before.ensures
    (λ e. c.if-wide_destination-register.false (c.wide_destination.ensures ∙ e)))
