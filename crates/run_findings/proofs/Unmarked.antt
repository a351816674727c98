-- Where nothing is marked, nothing will be.
use Rattle.std.proofs.Common.{◌≡◌, ℕ, zero, suc, ◌==◌, Bool, true, false, not, cond, List, [], ◌∷◌, get_or, set, refl}
use Rattle.std.proofs.Common.{◌&&◌, ◌||◌}
use Rattle.std.proofs.lemmas.Bool.{and_left, and_right, or_parts}
use Rattle.processor.specs.declared.steps.Step.{Step}
use Rattle.insn_word.specs.Words.{memory_destination, arithmetic_destination, control_destination}
use Rattle.insn_word.specs.declared.operations.WideOp.{WideOp}
use Rattle.insn_word.specs.declared.operations.WideOp.TheVariants as wide
use Rattle.insn_word.specs.declared.operations.ControlOp.{ControlOp}
use Rattle.insn_word.specs.declared.operations.ControlOp.TheVariants as control
use Rattle.insn_word.specs.declared.insn.MPart.{MPart}
use Rattle.insn_word.specs.declared.insn.APart.{APart}
use Rattle.insn_word.specs.declared.insn.CPart.{CPart}
use Rattle.insn_word.specs.declared.insn.Insn.{Insn}
use Rattle.insn_word.specs.declared.insn.Insn.TheVariants.{Wide, Normal}
use Rattle.run_findings.specs.Actions.{is_by}
use Rattle.run_findings.specs.Marks.{no_marks, mark_at, with_mark, arithmetic_mark, control_mark, target_marks, is_quit}
use Rattle.run_findings.specs.Marks.{marks_after_parts, marks_after_wide, marks_after, marks_after_deed, marks_past}
use Rattle.run_findings.specs.Needs.{is_any, are_any}
use Rattle.run_findings.specs.Pairs.{deed_mixes, mixes}
use Rattle.run_findings.specs.declared.actions.Action.{Action}
use Rattle.run_findings.specs.declared.actions.Deed.{Deed}
use Rattle.run_findings.specs.declared.actions.Deed.TheVariants as deed
use Rattle.run_findings.specs.declared.marks.Marks.{Marks}

abbrev None : List Bool → Type 0
None xs = (k : ℕ) → get_or xs k false ≡ false

record AreNone (m : Marks) : Type 0 where
  registers : None m.registers
  targets : None m.targets

from_any : (xs : List Bool) → is_any xs ≡ false → None xs
from_any [] none k = refl
from_any (true ∷ xs) none k = absurd cc
from_any (false ∷ xs) none zero = refl
from_any (false ∷ xs) none (suc k) = from_any xs none k

set_none : (xs : List Bool) (r : ℕ) (b : Bool) → b ≡ false → None xs → None (set xs r b)
set_none [] r b off none k = refl
set_none (x ∷ xs) zero b off none zero = off
set_none (x ∷ xs) zero b off none (suc k) = none (suc k)
set_none (x ∷ xs) (suc r) b off none zero = none zero
set_none (x ∷ xs) (suc r) b off none (suc k) = set_none xs r b off (λ j. none (suc j)) k

with_by : (t : Bool) (xs : List Bool) (r : ℕ) (b : Bool) → b ≡ false → None xs → None (cond t xs (set xs r b))
with_by true xs r b off none = none
with_by false xs r b off none = set_none xs r b off none

with_none : (xs : List Bool) (r : ℕ) (b : Bool) → b ≡ false → None xs → None (with_mark xs r b)
with_none xs r b off none = with_by (r == 0) xs r b off none

neither : (a b : Bool) → a ≡ false → b ≡ false → (a || b) ≡ false
neither true b first second = absurd cc
neither false b first second = second

arithmetic_none : (m : Marks) (a : APart) → AreNone m → arithmetic_mark m a ≡ false
arithmetic_none m a none =
    neither (mark_at m.registers a.ra) (not a.imm && mark_at m.registers a.rb) (none.registers a.ra)
    (and_right (not a.imm) (mark_at m.registers a.rb) (none.registers a.rb))

control_none : (m : Marks) (c : CPart) (op : ControlOp) → AreNone m → control_mark m c op ≡ false
control_none m c control.Nop none = refl
control_none m c control.Jump none = refl
control_none m c control.Skip none = refl
control_none m c control.Call none = refl
control_none m c control.Exchange none = refl
control_none m c control.TargetSet none = refl
control_none m c control.TargetGet none = none.targets c.t
control_none m c control.TrapGet none = refl
control_none m c control.Reserve none = refl
control_none m c control.Create none = refl
control_none m c control.Quit none = refl
control_none m c control.QuitKeep none = refl
control_none m c control.Mask none = refl

targets_none : (m : Marks) (c : CPart) (op : ControlOp) → AreNone m → None (target_marks m c op)
targets_none m c control.Nop none = none.targets
targets_none m c control.Jump none = none.targets
targets_none m c control.Skip none = none.targets
targets_none m c control.Call none = set_none m.targets c.u false refl none.targets
targets_none m c control.Exchange none = set_none m.targets c.t false refl none.targets
targets_none m c control.TargetSet none =
    set_none m.targets c.t (mark_at m.registers c.ra) (none.registers c.ra) none.targets
targets_none m c control.TargetGet none = none.targets
targets_none m c control.TrapGet none = none.targets
targets_none m c control.Reserve none = none.targets
targets_none m c control.Create none = none.targets
targets_none m c control.Quit none = none.targets
targets_none m c control.QuitKeep none = none.targets
targets_none m c control.Mask none = none.targets

parts_none : (m : Marks) (p : MPart) (a : APart) (c : CPart) → AreNone m → AreNone (marks_after_parts m p a c false)
parts_none m p a c none =
    let md = memory_destination p.op p.rd in
    let ad = arithmetic_destination a.op a.rd in
    let cd = control_destination c.op c.rd in
    let first = with_none m.registers md false refl none.registers in
    let second = with_none (with_mark m.registers md false) ad (arithmetic_mark m a) (arithmetic_none m a none) first in
    record {
      registers =
          with_none (with_mark (with_mark m.registers md false) ad (arithmetic_mark m a)) cd (control_mark m c c.op)
          (control_none m c c.op none) second;
      targets = targets_none m c c.op none;
    }

wide_none : (m : Marks) (op : WideOp) (r : ℕ) → AreNone m → AreNone (marks_after_wide m op r)
wide_none m wide.Literal r none =
    record { registers = with_none m.registers r false refl none.registers; targets = none.targets }
wide_none m wide.LiteralHigh r none = none
wide_none m wide.TargetLiteral r none =
    record { registers = none.registers; targets = set_none m.targets r false refl none.targets }

quit_none : (t : Bool) (m : Marks) → AreNone m → AreNone (cond t no_marks m)
quit_none true m none =
    record { registers = from_any no_marks.registers refl; targets = from_any no_marks.targets refl }
quit_none false m none = none

insn_none : (m : Marks) (i : Insn) → AreNone m → AreNone (marks_after m i false)
insn_none m (Wide look op reg imm) none = wide_none m op reg none
insn_none m (Normal look p a c) none =
    quit_none (is_quit c.op) (marks_after_parts m p a c false) (parts_none m p a c none)

deed_none : (m : Marks) (d : Deed) → AreNone m → AreNone (marks_after_deed m d false)
deed_none m deed.Nothing none = none
deed_none m deed.Trap none =
    record { registers = none.registers; targets = set_none m.targets 0 false refl none.targets }
deed_none m (deed.Instruction i) none = insn_none m i none

past_by : (b : Bool) (m : Marks) (d : Deed) → AreNone m → AreNone (cond b (marks_after_deed m d false) m)
past_by true m d none = deed_none m d none
past_by false m d none = none

past_none : (t : Step) (m : Marks) (d : Action) → AreNone m → AreNone (marks_past t m d)
past_none t m d none = past_by (is_by t d) m d.deed none

-- Nothing is computed from both.

mixed_one : (one other : Marks) (d : Deed) → AreNone one → deed_mixes d one other ≡ false
mixed_one one other deed.Nothing none = refl
mixed_one one other deed.Trap none = refl
mixed_one one other (deed.Instruction (Wide look op reg imm)) none = refl
mixed_one one other (deed.Instruction (Normal look m a c)) none =
    and_left (arithmetic_mark one a) (arithmetic_mark other a) (arithmetic_none one a none)

mixed_other : (one other : Marks) (d : Deed) → AreNone other → deed_mixes d one other ≡ false
mixed_other one other deed.Nothing none = refl
mixed_other one other deed.Trap none = refl
mixed_other one other (deed.Instruction (Wide look op reg imm)) none = refl
mixed_other one other (deed.Instruction (Normal look m a c)) none =
    and_right (arithmetic_mark one a) (arithmetic_mark other a) (arithmetic_none other a none)

one_none : (t : Step) (one other : Marks) (ds : List Action) → AreNone one → mixes t one other ds ≡ false
one_none t one other [] none = refl
one_none t one other (d ∷ ds) none =
    neither (is_by t d && deed_mixes d.deed one other) (mixes t (marks_past t one d) (marks_past t other d) ds)
    (and_right (is_by t d) (deed_mixes d.deed one other) (mixed_one one other d.deed none))
    (one_none t (marks_past t one d) (marks_past t other d) ds (past_none t one d none))

other_none : (t : Step) (one other : Marks) (ds : List Action) → AreNone other → mixes t one other ds ≡ false
other_none t one other [] none = refl
other_none t one other (d ∷ ds) none =
    neither (is_by t d && deed_mixes d.deed one other) (mixes t (marks_past t one d) (marks_past t other d) ds)
    (and_right (is_by t d) (deed_mixes d.deed one other) (mixed_other one other d.deed none))
    (other_none t (marks_past t one d) (marks_past t other d) ds (past_none t other d none))

all_none : (m : Marks) → (is_any m.registers || is_any m.targets) ≡ false → AreNone m
all_none m none =
    let both = or_parts (is_any m.registers) (is_any m.targets) none in
    record { registers = from_any m.registers both.0; targets = from_any m.targets both.1 }

pub one_unmarked : (t : Step) (one other : Marks) (ds : List Action) → are_any one ≡ false → mixes t one other ds ≡ false
one_unmarked t one other ds none = one_none t one other ds (all_none one none)

pub other_unmarked : (t : Step) (one other : Marks) (ds : List Action) → are_any other ≡ false
    → mixes t one other ds ≡ false
other_unmarked t one other ds none = other_none t one other ds (all_none other none)
