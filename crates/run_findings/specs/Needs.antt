-- The aid: which registers a value is computed from. They are marked too, and the value is computed from what was read
-- where one of them has that read's mark.
use Rattle.std.specs.Prelude.{◌≡◌, ℕ, ◌==◌, Bool, true, false, not, ◌&&◌, ◌||◌, List, [], ◌∷◌, length, slice_set}
use Rattle.insn_word.specs.Words.{memory_destination, arithmetic_destination, control_destination}
use Rattle.insn_word.specs.declared.insn.MPart.{MPart}
use Rattle.insn_word.specs.declared.insn.APart.{APart}
use Rattle.insn_word.specs.declared.insn.CPart.{CPart}
use Rattle.run_findings.specs.Marks.{mark_at, with_mark, target_marks}
use Rattle.run_findings.specs.declared.marks.Marks.{Marks}

-- whether one is marked among these
abbrev pub is_any : List Bool → Bool
is_any [] = false
is_any (x ∷ xs) = x || is_any xs

-- whether a register is marked
abbrev pub are_any : Marks → Bool
are_any m = is_any m.registers || is_any m.targets

-- whether one is marked among both
abbrev pub any_both : List Bool → List Bool → Bool
any_both [] ys = false
any_both (x ∷ xs) [] = false
any_both (x ∷ xs) (y ∷ ys) = (x && y) || any_both xs ys

abbrev pub are_shared : Marks → Marks → Bool
are_shared m n = any_both m.registers n.registers || any_both m.targets n.targets

-- whether what is written into a register is needed: into r0 nothing is
abbrev pub is_needed : List Bool → ℕ → Bool
is_needed marks r = not (r == 0) && mark_at marks r

abbrev pub is_control_needed : Marks → CPart → Bool
is_control_needed m c = is_needed m.registers (control_destination c.op c.rd)

-- the same of an arithmetic operation's result, over which the control operation may write
abbrev pub is_arithmetic_needed : Marks → APart → CPart → Bool
is_arithmetic_needed m a c =
    is_needed (with_mark m.registers (control_destination c.op c.rd) false) (arithmetic_destination a.op a.rd)

-- the marks without the registers that an instruction writes
abbrev pub without_written : Marks → MPart → APart → CPart → Marks
without_written marks m a c = record marks {
  registers = with_mark (with_mark (with_mark marks.registers
      (control_destination c.op c.rd) false)
      (arithmetic_destination a.op a.rd) false)
      (memory_destination m.op m.rd) false;
}

abbrev pub without_target : Marks → ℕ → Marks
without_target m t = record m { targets = slice_set m.targets t false }

-- the marks where a control operation wrote its target register alone
abbrev pub with_targets : Marks → CPart → Marks
with_targets m c = record m { targets = target_marks m c c.op }

-- of the registers that a stream has
pub record IsSized (m : Marks) : Type 0 where
  pub registers : length m.registers ≡ 32
  pub targets : length m.targets ≡ 8

-- what is marked among the first is among the second
pub record IsPart (m any : Marks) : Type 0 where
  pub sized : IsSized m
  pub all_sized : IsSized any
  pub registers : (k : ℕ) → mark_at m.registers k ≡ true → mark_at any.registers k ≡ true
  pub targets : (k : ℕ) → mark_at m.targets k ≡ true → mark_at any.targets k ≡ true
