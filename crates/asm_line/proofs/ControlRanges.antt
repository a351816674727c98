-- Control parts have their fields in range, and nothing but what their operation uses.
use Rattle.std.proofs.Common.{ℕ, ◌<◌, ◌≤◌, List, [], ◌∷◌, refl, arith, pos}
use Rattle.std.specs.Prelude.{IfOk, ⊤}
use Rattle.insn_word.specs.Fields.{IsFieldInRange, signed}
use Rattle.insn_word.specs.Words.{only_control}
use Rattle.insn_word.specs.declared.operations.ControlOp.{ControlOp}
use Rattle.insn_word.specs.declared.operations.ControlOp.TheVariants as control
use Rattle.asm_line.specs.Faults.{both}
use Rattle.asm_line.specs.Numbers.{number_within}
use Rattle.asm_line.specs.Operands.{Places, register, target, offset, condition}
use Rattle.asm_line.specs.Parts.{jump, skip, call, exchange, to_target, from_target, trap_get, reserve, bare, mask}
use Rattle.asm_line.specs.Parts.{control_part}
use Rattle.asm_line.proofs.OkRules.{ok_both, ok_map, ok_any}
use Rattle.asm_line.proofs.NumberRanges.{number_within_range, register_range, target_range, offset_range}
use Rattle.asm_line.proofs.PartRanges.{IsGoodControl, condition_small}

test_range : (x y : List ℕ) → IfOk (both (condition x) (number_within 3 y)) (λ v. ⊤ × (v.1 ≤ 3))
test_range x y =
    ok_both (λ _. ⊤) (λ n. n ≤ 3) (condition x) (number_within 3 y) (ok_any (condition x)) (number_within_range 3 y)

two_targets : (x y : List ℕ) → IfOk (both (target x) (target y)) (λ v. (v.0 < 8) × (v.1 < 8))
two_targets x y = ok_both (λ n. n < 8) (λ n. n < 8) (target x) (target y) (target_range x) (target_range y)

target_register : (x y : List ℕ) → IfOk (both (target x) (register y)) (λ v. (v.0 < 8) × (v.1 < 32))
target_register x y = ok_both (λ n. n < 8) (λ n. n < 32) (target x) (register y) (target_range x) (register_range y)

register_target : (x y : List ℕ) → IfOk (both (register x) (target y)) (λ v. (v.0 < 32) × (v.1 < 8))
register_target x y = ok_both (λ n. n < 32) (λ n. n < 8) (register x) (target y) (register_range x) (target_range y)

two_registers : (x y : List ℕ) → IfOk (both (register x) (register y)) (λ v. (v.0 < 32) × (v.1 < 32))
two_registers x y =
    ok_both (λ n. n < 32) (λ n. n < 32) (register x) (register y) (register_range x) (register_range y)

jump_range : (os : List (List ℕ)) → IfOk (jump os) IsGoodControl
jump_range (x ∷ y ∷ z ∷ []) =
    ok_map (λ v. record (only_control control.Jump) { cond = v.0.0; code = v.0.1; t = v.1 })
    (λ v. (⊤ × (v.0.1 ≤ 3)) × (v.1 < 8)) IsGoodControl
    (both (both (condition x) (number_within 3 y)) (target z))
    (λ v r. record {
      ranges = (omega arith, (condition_small v.0.0, (omega (arith, r.0.1), (r.1, (omega arith, tt)))));
      rest = refl;
    })
    (ok_both (λ w. ⊤ × (w.1 ≤ 3)) (λ n. n < 8) (both (condition x) (number_within 3 y)) (target z) (test_range x y)
    (target_range z))
jump_range [] = tt
jump_range (x ∷ []) = tt
jump_range (x ∷ y ∷ []) = tt
jump_range (x ∷ y ∷ z ∷ w ∷ os) = tt

skip_range : (places : Places) (here : ℕ) (os : List (List ℕ)) → IfOk (skip places here os) IsGoodControl
skip_range places here (x ∷ y ∷ z ∷ []) =
    ok_map (λ v. record (only_control control.Skip) { cond = v.0.0; code = v.0.1; n = v.1 })
    (λ v. (⊤ × (v.0.1 ≤ 3)) × IsFieldInRange (signed 8 v.1)) IsGoodControl
    (both (both (condition x) (number_within 3 y)) (offset places here z))
    (λ v r. record {
      ranges = (omega arith, (condition_small v.0.0, (omega (arith, r.0.1), (r.1, tt))));
      rest = refl;
    })
    (ok_both (λ w. ⊤ × (w.1 ≤ 3)) (λ z. IsFieldInRange (signed 8 z)) (both (condition x) (number_within 3 y))
    (offset places here z) (test_range x y) (offset_range places here z))
skip_range places here [] = tt
skip_range places here (x ∷ []) = tt
skip_range places here (x ∷ y ∷ []) = tt
skip_range places here (x ∷ y ∷ z ∷ w ∷ os) = tt

call_range : (os : List (List ℕ)) → IfOk (call os) IsGoodControl
call_range (x ∷ y ∷ []) =
    ok_map (λ v. record (only_control control.Call) { t = v.0; u = v.1 }) (λ v. (v.0 < 8) × (v.1 < 8)) IsGoodControl
    (both (target x) (target y))
    (λ v r. record {
      ranges = (omega arith, (r.0, (r.1, (omega arith, tt))));
      rest = refl;
    })
    (two_targets x y)
call_range [] = tt
call_range (x ∷ []) = tt
call_range (x ∷ y ∷ z ∷ os) = tt

exchange_range : (os : List (List ℕ)) → IfOk (exchange os) IsGoodControl
exchange_range (x ∷ []) =
    ok_map (λ t. record (only_control control.Exchange) { t = t }) (λ t. t < 8) IsGoodControl
    (target x)
    (λ t r. record {
      ranges = (omega arith, (r, (omega arith, tt)));
      rest = refl;
    })
    (target_range x)
exchange_range [] = tt
exchange_range (x ∷ y ∷ os) = tt

target_set_range : (os : List (List ℕ)) → IfOk (to_target control.TargetSet os) IsGoodControl
target_set_range (x ∷ y ∷ []) =
    ok_map (λ v. record (only_control control.TargetSet) { t = v.0; ra = v.1 }) (λ v. (v.0 < 8) × (v.1 < 32))
    IsGoodControl
    (both (target x) (register y))
    (λ v r. record {
      ranges = (omega arith, (r.0, (r.1, (omega arith, tt))));
      rest = refl;
    })
    (target_register x y)
target_set_range [] = tt
target_set_range (x ∷ []) = tt
target_set_range (x ∷ y ∷ z ∷ os) = tt

create_range : (os : List (List ℕ)) → IfOk (to_target control.Create os) IsGoodControl
create_range (x ∷ y ∷ []) =
    ok_map (λ v. record (only_control control.Create) { t = v.0; ra = v.1 })
    (λ v. (v.0 < 8) × (v.1 < 32)) IsGoodControl
    (both (target x) (register y))
    (λ v r. record {
      ranges = (omega arith, (r.0, (r.1, (omega arith, tt))));
      rest = refl;
    })
    (target_register x y)
create_range [] = tt
create_range (x ∷ []) = tt
create_range (x ∷ y ∷ z ∷ os) = tt

from_target_range : (os : List (List ℕ)) → IfOk (from_target os) IsGoodControl
from_target_range (x ∷ y ∷ []) =
    ok_map (λ v. record (only_control control.TargetGet) { rd = v.0; t = v.1 }) (λ v. (v.0 < 32) × (v.1 < 8))
    IsGoodControl
    (both (register x) (target y))
    (λ v r. record {
      ranges = (omega arith, (r.1, (r.0, (omega arith, tt))));
      rest = refl;
    })
    (register_target x y)
from_target_range [] = tt
from_target_range (x ∷ []) = tt
from_target_range (x ∷ y ∷ z ∷ os) = tt

trap_get_range : (os : List (List ℕ)) → IfOk (trap_get os) IsGoodControl
trap_get_range (x ∷ []) =
    ok_map (λ rd. record (only_control control.TrapGet) { rd = rd }) (λ rd. rd < 32) IsGoodControl
    (register x)
    (λ rd r. record {
      ranges = (omega arith, (omega arith, (r, (omega arith, tt))));
      rest = refl;
    })
    (register_range x)
trap_get_range [] = tt
trap_get_range (x ∷ y ∷ os) = tt

reserve_range : (os : List (List ℕ)) → IfOk (reserve os) IsGoodControl
reserve_range (x ∷ y ∷ []) =
    ok_map (λ v. record (only_control control.Reserve) { rd = v.0; ra = v.1 }) (λ v. (v.0 < 32) × (v.1 < 32))
    IsGoodControl
    (both (register x) (register y))
    (λ v r. record {
      ranges = (omega arith, (omega arith, (r.0, (r.1, (omega arith, tt)))));
      rest = refl;
    })
    (two_registers x y)
reserve_range [] = tt
reserve_range (x ∷ []) = tt
reserve_range (x ∷ y ∷ z ∷ os) = tt

mask_range : (os : List (List ℕ)) → IfOk (mask os) IsGoodControl
mask_range (x ∷ []) =
    ok_map (λ m. record (only_control control.Mask) { n = pos m }) (λ m. m ≤ 7) IsGoodControl
    (number_within 7 x)
    (λ m r. record {
      ranges = (omega arith, (omega (arith, r), (omega arith, tt)));
      rest = refl;
    })
    (number_within_range 7 x)
mask_range [] = tt
mask_range (x ∷ y ∷ os) = tt

quit_range : (os : List (List ℕ)) → IfOk (bare control.Quit os) IsGoodControl
quit_range [] = record { ranges = (omega arith, (omega arith, tt)); rest = refl }
quit_range (x ∷ os) = tt

quit_keep_range : (os : List (List ℕ)) → IfOk (bare control.QuitKeep os) IsGoodControl
quit_keep_range [] = record { ranges = (omega arith, (omega arith, tt)); rest = refl }
quit_keep_range (x ∷ os) = tt

pub control_part_range : (places : Places) (here : ℕ) (op : ControlOp) (os : List (List ℕ))
    → IfOk (control_part places here op os) IsGoodControl
control_part_range places here control.Nop os = tt
control_part_range places here control.Jump os = jump_range os
control_part_range places here control.Skip os = skip_range places here os
control_part_range places here control.Call os = call_range os
control_part_range places here control.Exchange os = exchange_range os
control_part_range places here control.TargetSet os = target_set_range os
control_part_range places here control.TargetGet os = from_target_range os
control_part_range places here control.TrapGet os = trap_get_range os
control_part_range places here control.Reserve os = reserve_range os
control_part_range places here control.Create os = create_range os
control_part_range places here control.Quit os = quit_range os
control_part_range places here control.QuitKeep os = quit_keep_range os
control_part_range places here control.Mask os = mask_range os
