-- Three parts whose heads are known.
use Rattle.std.proofs.Common.{◌≡◌, ℕ, List, Result, Ok, refl}
use Rattle.insn_word.specs.declared.profiles.Profile.{Profile}
use Rattle.asm_line.specs.Text.{head, behind_head, operands_of}
use Rattle.asm_line.specs.Faults.{both}
use Rattle.asm_line.specs.Heads.{operation_of}
use Rattle.asm_line.specs.Operands.{Places}
use Rattle.asm_line.specs.Instructions.{three_parts, triple}
use Rattle.asm_line.specs.declared.fault.Fault.{Fault}
use Rattle.asm_line.specs.declared.operation.Operation.{Operation}

pub three_known : (profile : Profile) (places : Places) (here : ℕ) (x y z a b c d e f : List ℕ) (o p q : Operation)
    (r s t : Result Operation Fault)
    → a ≡ head x → b ≡ head y → c ≡ head z → d ≡ behind_head x → e ≡ behind_head y → f ≡ behind_head z
    → r ≡ operation_of profile a → s ≡ operation_of profile b → t ≡ operation_of profile c
    → both (both r s) t ≡ Ok ((o, p), q)
    → triple places here o p q (operands_of d) (operands_of e) (operands_of f) ≡ three_parts profile places here x y z
three_known profile places here x y z a b c d e f o p q r s t i j k l m n u v w h =
    rw (← i, ← j, ← k, ← l, ← m, ← n, ← u, ← v, ← w, h) refl
