-- Which registers of a stream hold a value that was computed from what one of its steps read: these are marked. Each
-- instruction marks what it writes by what it computes that from, all at once from the marks at entry.
use Rattle.std.specs.Prelude.{ℕ, ◌+◌, ◌==◌, Bool, true, false, not, ◌&&◌, ◌||◌, if◌then◌else◌, List, [], ◌∷◌, replicate}
use Rattle.std.specs.Prelude.{Option, Some, None, slice_index_or, slice_set, slice_get, slice_range}
use Rattle.insn_word.specs.Words.{memory_destination, arithmetic_destination, control_destination}
use Rattle.insn_word.specs.declared.operations.WideOp.{WideOp}
use Rattle.insn_word.specs.declared.operations.WideOp.TheVariants as wide
use Rattle.insn_word.specs.declared.operations.ControlOp.{ControlOp}
use Rattle.insn_word.specs.declared.operations.ControlOp.TheVariants as control
use Rattle.insn_word.specs.declared.insn.MPart.{MPart}
use Rattle.insn_word.specs.declared.insn.APart.{APart}
use Rattle.insn_word.specs.declared.insn.CPart.{CPart}
use Rattle.insn_word.specs.declared.insn.Insn.{Insn}
use Rattle.insn_word.specs.declared.insn.Insn.TheVariants.{Wide, Normal}
use Rattle.processor.specs.declared.steps.Step.{Step}
use Rattle.run_findings.specs.Actions.{is_by}
use Rattle.run_findings.specs.declared.actions.Action.{Action}
use Rattle.run_findings.specs.declared.actions.Deed.{Deed}
use Rattle.run_findings.specs.declared.actions.Deed.TheVariants as deed
use Rattle.run_findings.specs.declared.marks.Marks.{Marks}

abbrev pub no_marks : Marks
no_marks = record { registers = replicate 32 false; targets = replicate 8 false }

-- whether a register, or a target register, is marked
abbrev pub mark_at : List Bool → ℕ → Bool
mark_at marks n = slice_index_or marks n false

-- r0 is never marked
abbrev pub with_mark : List Bool → ℕ → Bool → List Bool
with_mark marks r mark = if r == 0 then marks else slice_set marks r mark

-- the result of the arithmetic operation is computed from its operands
abbrev pub arithmetic_mark : Marks → APart → Bool
arithmetic_mark marks a = mark_at marks.registers a.ra || (not a.imm && mark_at marks.registers a.rb)

-- of what the control operation writes into a register, TGET alone has a target register's value
abbrev pub control_mark : Marks → CPart → ControlOp → Bool
control_mark marks c control.Nop = false
control_mark marks c control.Jump = false
control_mark marks c control.Skip = false
control_mark marks c control.Call = false
control_mark marks c control.Exchange = false
control_mark marks c control.TargetSet = false
control_mark marks c control.TargetGet = mark_at marks.targets c.t
control_mark marks c control.TrapGet = false
control_mark marks c control.Reserve = false
control_mark marks c control.Create = false
control_mark marks c control.Quit = false
control_mark marks c control.QuitKeep = false
control_mark marks c control.Mask = false

-- the target registers: TSET has a register's value, CALL and XCHG that of the status word, which is never marked
abbrev pub target_marks : Marks → CPart → ControlOp → List Bool
target_marks marks c control.Nop = marks.targets
target_marks marks c control.Jump = marks.targets
target_marks marks c control.Skip = marks.targets
target_marks marks c control.Call = slice_set marks.targets c.u false
target_marks marks c control.Exchange = slice_set marks.targets c.t false
target_marks marks c control.TargetSet = slice_set marks.targets c.t (mark_at marks.registers c.ra)
target_marks marks c control.TargetGet = marks.targets
target_marks marks c control.TrapGet = marks.targets
target_marks marks c control.Reserve = marks.targets
target_marks marks c control.Create = marks.targets
target_marks marks c control.Quit = marks.targets
target_marks marks c control.QuitKeep = marks.targets
target_marks marks c control.Mask = marks.targets

-- the marks after a word of up to three operations, where the memory's answer is marked or not
abbrev pub marks_after_parts : Marks → MPart → APart → CPart → Bool → Marks
marks_after_parts marks m a c answer = record {
  registers = with_mark (with_mark (with_mark marks.registers
      (memory_destination m.op m.rd) answer)
      (arithmetic_destination a.op a.rd) (arithmetic_mark marks a))
      (control_destination c.op c.rd) (control_mark marks c c.op);
  targets = target_marks marks c c.op;
}

-- QUIT and QUITP leave no value
abbrev pub is_quit : ControlOp → Bool
is_quit control.Nop = false
is_quit control.Jump = false
is_quit control.Skip = false
is_quit control.Call = false
is_quit control.Exchange = false
is_quit control.TargetSet = false
is_quit control.TargetGet = false
is_quit control.TrapGet = false
is_quit control.Reserve = false
is_quit control.Create = false
is_quit control.Quit = true
is_quit control.QuitKeep = true
is_quit control.Mask = false

-- the marks after a wide word: LITH keeps half of its register
abbrev pub marks_after_wide : Marks → WideOp → ℕ → Marks
marks_after_wide marks wide.Literal reg = record marks { registers = with_mark marks.registers reg false }
marks_after_wide marks wide.LiteralHigh reg = marks
marks_after_wide marks wide.TargetLiteral reg = record marks { targets = slice_set marks.targets reg false }

abbrev pub marks_after : Marks → Insn → Bool → Marks
marks_after marks (Wide look op reg imm) answer = marks_after_wide marks op reg
marks_after marks (Normal look m a c) answer =
    if is_quit c.op then no_marks else marks_after_parts marks m a c answer

-- the marks after what a step did to its stream
abbrev pub marks_after_deed : Marks → Deed → Bool → Marks
marks_after_deed marks deed.Nothing answer = marks
marks_after_deed marks deed.Trap answer = record marks { targets = slice_set marks.targets 0 false }
marks_after_deed marks (deed.Instruction i) answer = marks_after marks i answer

-- the marks of a stream after a step of some stream
abbrev pub marks_past : Step → Marks → Action → Marks
marks_past t marks d = if is_by t d then marks_after_deed marks d.deed false else marks

-- and after more of them
abbrev pub marks_through : Step → Marks → List Action → Marks
marks_through t marks [] = marks
marks_through t marks (d ∷ ds) = marks_through t (marks_past t marks d) ds

-- the marks behind the step that reads
abbrev pub marks_of_read : Option Action → Marks
marks_of_read None = no_marks
marks_of_read (Some d) = marks_after_deed no_marks d.deed true

-- the marks of a stream before step n, of what its step r read
abbrev pub marks_before : List Action → Step → ℕ → ℕ → Marks
marks_before ds t r n = marks_through t (marks_of_read (slice_get ds r)) (slice_range ds (r + 1) n)

-- whether an instruction with STORE stores what is marked
abbrev pub stores_marked : Deed → Marks → Bool
stores_marked deed.Nothing marks = false
stores_marked deed.Trap marks = false
stores_marked (deed.Instruction (Wide look op reg imm)) marks = false
stores_marked (deed.Instruction (Normal look m a c)) marks = mark_at marks.registers m.rd

-- whether step n, which this is, stores what was computed from what its stream had read in step r
abbrev pub is_made_of : List Action → ℕ → ℕ → Action → Bool
is_made_of ds r n d = stores_marked d.deed (marks_before ds d.stream r n)
