-- Parts have their fields in range, and nothing but what their operation uses.
use Rattle.std.proofs.Common.{◌≡◌, ℕ, ◌<◌, ◌^◌, Bool, true, false, if◌then◌else◌, List, [], ◌∷◌, refl, arith, ℤ}
use Rattle.std.specs.Prelude.{IfOk}
use Rattle.insn_word.specs.Operations.{memory_number, access_number, arithmetic_number, condition_number, has_operation}
use Rattle.insn_word.specs.Fields.{IsFieldInRange, AreInRange, signed}
use Rattle.insn_word.specs.Words.{memory_fields, used_memory, arithmetic_fields, used_arithmetic, arithmetic_nop}
use Rattle.insn_word.specs.Words.{control_fields, used_control}
use Rattle.insn_word.specs.declared.operations.MemoryOp.{MemoryOp}
use Rattle.insn_word.specs.declared.operations.MemoryOp.TheVariants as memory
use Rattle.insn_word.specs.declared.operations.Access.{Access}
use Rattle.insn_word.specs.declared.operations.Access.TheVariants as access
use Rattle.insn_word.specs.declared.operations.ArithmeticOp.{ArithmeticOp}
use Rattle.insn_word.specs.declared.operations.ArithmeticOp.TheVariants as arithmetic
use Rattle.insn_word.specs.declared.operations.Condition.{Condition}
use Rattle.insn_word.specs.declared.operations.Condition.TheVariants as condition
use Rattle.insn_word.specs.declared.profiles.Profile.{Profile}
use Rattle.insn_word.specs.declared.insn.MPart.{MPart}
use Rattle.insn_word.specs.declared.insn.APart.{APart}
use Rattle.insn_word.specs.declared.insn.CPart.{CPart}
use Rattle.asm_line.specs.Faults.{both}
use Rattle.asm_line.specs.Operands.{register, displacement, source_of, is_number, source_number}
use Rattle.asm_line.specs.Parts.{memory_part, tally, of_two, arithmetic_part}
use Rattle.asm_line.proofs.OkRules.{ok_both, ok_map}
use Rattle.asm_line.proofs.NumberRanges.{register_range, displacement_range, source_range}
use Rattle.asm_line.proofs.NamedRanges.{IsWithAccess, IsArithmetic}

pub record IsGoodMemory (profile : Profile) (m : MPart) : Type 0 where
  pub ranges : AreInRange (memory_fields m)
  pub rest : used_memory m.op m ≡ m
  pub in_profile : has_operation profile m.op ≡ true

pub record IsGoodArithmetic (a : APart) : Type 0 where
  pub ranges : AreInRange (arithmetic_fields a)
  pub rest : used_arithmetic a.op a ≡ a

pub record IsGoodControl (c : CPart) : Type 0 where
  pub ranges : AreInRange (control_fields c)
  pub rest : used_control c.op c ≡ c

memory_small : (op : MemoryOp) → memory_number op < 2 ^ 3
memory_small memory.Nop = omega arith
memory_small memory.Load = omega arith
memory_small memory.Store = omega arith
memory_small memory.FetchAdd = omega arith
memory_small memory.TagGet = omega arith
memory_small memory.TagSet = omega arith
memory_small memory.Purge = omega arith

access_small : (acc : Access) → access_number acc < 2 ^ 2
access_small access.FromPointer = omega arith
access_small access.Normal = omega arith
access_small access.Future = omega arith
access_small access.Sync = omega arith

arithmetic_small : (op : ArithmeticOp) → arithmetic_number op < 2 ^ 4
arithmetic_small arithmetic.Nop = omega arith
arithmetic_small arithmetic.Add = omega arith
arithmetic_small arithmetic.Sub = omega arith
arithmetic_small arithmetic.Mul = omega arith
arithmetic_small arithmetic.And = omega arith
arithmetic_small arithmetic.Or = omega arith
arithmetic_small arithmetic.Xor = omega arith
arithmetic_small arithmetic.AndNot = omega arith
arithmetic_small arithmetic.ShiftLeft = omega arith
arithmetic_small arithmetic.ShiftRight = omega arith
arithmetic_small arithmetic.ShiftRightSigned = omega arith
arithmetic_small arithmetic.Tally = omega arith
arithmetic_small arithmetic.LessSigned = omega arith
arithmetic_small arithmetic.LessUnsigned = omega arith
arithmetic_small arithmetic.Pointer = omega arith

pub condition_small : (c : Condition) → condition_number c < 2 ^ 4
condition_small condition.Always = omega arith
condition_small condition.Equal = omega arith
condition_small condition.NotEqual = omega arith
condition_small condition.Less = omega arith
condition_small condition.GreaterEqual = omega arith
condition_small condition.LessEqual = omega arith
condition_small condition.Greater = omega arith
condition_small condition.LessUnsigned = omega arith
condition_small condition.GreaterEqualUnsigned = omega arith
condition_small condition.LessEqualUnsigned = omega arith
condition_small condition.GreaterUnsigned = omega arith
condition_small condition.Negative = omega arith
condition_small condition.Positive = omega arith
condition_small condition.Overflow = omega arith
condition_small condition.NoOverflow = omega arith

flag_small : (b : Bool) → (if b then 1 else 0) < 2 ^ 1
flag_small true = omega arith
flag_small false = omega arith

-- Memory.

used_access : (profile : Profile) (op : MemoryOp) (acc : Access) (rd base : ℕ) (disp : ℤ) → IsWithAccess profile op acc
    → (let m : MPart = record { op = op; acc = acc; rd = rd; base = base; disp = disp } in used_memory op m ≡ m)
used_access profile memory.Nop acc rd base disp h = absurd h
used_access profile memory.Load acc rd base disp h = refl
used_access profile memory.Store acc rd base disp h = refl
used_access profile memory.FetchAdd acc rd base disp h = refl
used_access profile memory.TagGet acc rd base disp h =
    λ i. record { op = memory.TagGet; acc = h i; rd = rd; base = base; disp = disp }
used_access profile memory.TagSet acc rd base disp h =
    λ i. record { op = memory.TagSet; acc = h i; rd = rd; base = base; disp = disp }
used_access profile memory.Purge acc rd base disp h =
    λ i. record { op = memory.Purge; acc = h.0 i; rd = rd; base = base; disp = disp }

profile_has : (profile : Profile) (op : MemoryOp) (acc : Access) → IsWithAccess profile op acc
    → has_operation profile op ≡ true
profile_has profile memory.Nop acc h = refl
profile_has profile memory.Load acc h = refl
profile_has profile memory.Store acc h = refl
profile_has profile memory.FetchAdd acc h = refl
profile_has profile memory.TagGet acc h = refl
profile_has profile memory.TagSet acc h = refl
profile_has profile memory.Purge acc h = h.1

pub memory_part_range : (profile : Profile) (op : MemoryOp) (acc : Access) (os : List (List ℕ))
    → IsWithAccess profile op acc
    → IfOk (memory_part op acc os) (IsGoodMemory profile)
memory_part_range profile op acc (x ∷ y ∷ z ∷ []) h =
    ok_map (λ v. record { op = op; acc = acc; rd = v.0.0; base = v.0.1; disp = v.1 })
    (λ v. ((v.0.0 < 32) × (v.0.1 < 32)) × IsFieldInRange (signed 6 v.1)) (IsGoodMemory profile)
    (both (both (register x) (register y)) (displacement z))
    (λ v r. record {
      ranges = (memory_small op, (access_small acc, (r.0.0, (r.0.1, (r.1, tt)))));
      rest = used_access profile op acc v.0.0 v.0.1 v.1 h;
      in_profile = profile_has profile op acc h;
    })
    (ok_both (λ w. (w.0 < 32) × (w.1 < 32)) (λ z. IsFieldInRange (signed 6 z)) (both (register x) (register y))
    (displacement z)
    (ok_both (λ n. n < 32) (λ n. n < 32) (register x) (register y) (register_range x) (register_range y))
    (displacement_range z))
memory_part_range profile op acc [] h = tt
memory_part_range profile op acc (x ∷ []) h = tt
memory_part_range profile op acc (x ∷ y ∷ []) h = tt
memory_part_range profile op acc (x ∷ y ∷ z ∷ w ∷ os) h = tt

-- Arithmetic.

tally_range : (test : Bool) (os : List (List ℕ)) → IfOk (tally test os) IsGoodArithmetic
tally_range test (x ∷ y ∷ []) =
    ok_map (λ v. record arithmetic_nop { op = arithmetic.Tally; test = test; rd = v.0; ra = v.1 })
    (λ v. (v.0 < 32) × (v.1 < 32)) IsGoodArithmetic
    (both (register x) (register y))
    (λ v r. record {
      ranges = (omega arith, (flag_small test, (omega arith, (r.0, (r.1, (omega arith, tt))))));
      rest = refl;
    })
    (ok_both (λ n. n < 32) (λ n. n < 32) (register x) (register y) (register_range x) (register_range y))
tally_range test [] = tt
tally_range test (x ∷ []) = tt
tally_range test (x ∷ y ∷ z ∷ os) = tt

of_two_range : (op : ArithmeticOp) (test : Bool) (os : List (List ℕ)) → ((a : APart) → used_arithmetic op a ≡ a)
    → IfOk (of_two op test os) IsGoodArithmetic
of_two_range op test (x ∷ y ∷ z ∷ []) u =
    ok_map (λ v. record { op = op; test = test; imm = is_number v.1; rd = v.0.0; ra = v.0.1; rb = source_number v.1 })
    (λ v. ((v.0.0 < 32) × (v.0.1 < 32)) × (source_number v.1 < 32)) IsGoodArithmetic
    (both (both (register x) (register y)) (source_of z))
    (λ v r. record {
      ranges = (arithmetic_small op, (flag_small test, (flag_small (is_number v.1), (r.0.0, (r.0.1, (r.1, tt))))));
      rest = u (record { op = op; test = test; imm = is_number v.1; rd = v.0.0; ra = v.0.1; rb = source_number v.1 });
    })
    (ok_both (λ w. (w.0 < 32) × (w.1 < 32)) (λ b. source_number b < 32) (both (register x) (register y)) (source_of z)
    (ok_both (λ n. n < 32) (λ n. n < 32) (register x) (register y) (register_range x) (register_range y))
    (source_range z))
of_two_range op test [] u = tt
of_two_range op test (x ∷ []) u = tt
of_two_range op test (x ∷ y ∷ []) u = tt
of_two_range op test (x ∷ y ∷ z ∷ w ∷ os) u = tt

pub arithmetic_part_range : (op : ArithmeticOp) (test : Bool) (os : List (List ℕ)) → IsArithmetic op
    → IfOk (arithmetic_part op test os) IsGoodArithmetic
arithmetic_part_range arithmetic.Nop test os h = absurd h
arithmetic_part_range arithmetic.Tally test os h = tally_range test os
arithmetic_part_range arithmetic.Add test os h = of_two_range arithmetic.Add test os (λ a. refl)
arithmetic_part_range arithmetic.Sub test os h = of_two_range arithmetic.Sub test os (λ a. refl)
arithmetic_part_range arithmetic.Mul test os h = of_two_range arithmetic.Mul test os (λ a. refl)
arithmetic_part_range arithmetic.And test os h = of_two_range arithmetic.And test os (λ a. refl)
arithmetic_part_range arithmetic.Or test os h = of_two_range arithmetic.Or test os (λ a. refl)
arithmetic_part_range arithmetic.Xor test os h = of_two_range arithmetic.Xor test os (λ a. refl)
arithmetic_part_range arithmetic.AndNot test os h = of_two_range arithmetic.AndNot test os (λ a. refl)
arithmetic_part_range arithmetic.ShiftLeft test os h = of_two_range arithmetic.ShiftLeft test os (λ a. refl)
arithmetic_part_range arithmetic.ShiftRight test os h = of_two_range arithmetic.ShiftRight test os (λ a. refl)
arithmetic_part_range arithmetic.ShiftRightSigned test os h =
    of_two_range arithmetic.ShiftRightSigned test os (λ a. refl)
arithmetic_part_range arithmetic.LessSigned test os h = of_two_range arithmetic.LessSigned test os (λ a. refl)
arithmetic_part_range arithmetic.LessUnsigned test os h = of_two_range arithmetic.LessUnsigned test os (λ a. refl)
arithmetic_part_range arithmetic.Pointer test os h = of_two_range arithmetic.Pointer test os (λ a. refl)
