-- Which operations heads can name.
use Rattle.std.proofs.Common.{◌≡◌, ℕ, Bool, true, false, ◌&&◌, if◌then◌else◌, List, drop, Option, Some, None, refl}
use Rattle.std.specs.Prelude.{IfOk, IfSome, ⊤, codes}
use Rattle.std.specs.Option.{option_map, option_or}
use Rattle.std.specs.Str.{bytes_eq}
use Rattle.insn_word.specs.declared.profiles.Profile.{Profile}
use Rattle.insn_word.specs.declared.operations.MemoryOp.{MemoryOp}
use Rattle.insn_word.specs.declared.operations.MemoryOp.TheVariants as memory
use Rattle.insn_word.specs.declared.operations.Access.{Access}
use Rattle.insn_word.specs.declared.operations.Access.TheVariants as access
use Rattle.insn_word.specs.declared.operations.ArithmeticOp.{ArithmeticOp}
use Rattle.insn_word.specs.declared.operations.ArithmeticOp.TheVariants as arithmetic
use Rattle.text_parts.specs.Pieces.{text_before, text_after}
use Rattle.insn_word.specs.Operations.{memory_operations, arithmetic_operations, has_purge, has_operation}
use Rattle.asm_line.specs.Names.{memory_name, arithmetic_name}
use Rattle.asm_line.specs.Heads.{wide_named, memory_named, arithmetic_named, control_named, nop_named, plain_named}
use Rattle.asm_line.specs.Heads.{without_suffix, letter_access, access_named, test_named}
use Rattle.asm_line.specs.Heads.{memory_or_plain, arithmetic_or_other, operation_named, operation_of}
use Rattle.asm_line.specs.declared.operation.Operation.{Operation}
use Rattle.asm_line.specs.declared.operation.Operation.TheVariants as operation
use Rattle.asm_line.proofs.OkRules.{ok_known, found_in, found_passes, some_and, some_any, and_right}

-- not NOP
abbrev IsNoNop : MemoryOp → Type 0
IsNoNop memory.Nop = ⊥
IsNoNop memory.Load = ⊤
IsNoNop memory.Store = ⊤
IsNoNop memory.FetchAdd = ⊤
IsNoNop memory.TagGet = ⊤
IsNoNop memory.TagSet = ⊤
IsNoNop memory.Purge = ⊤

-- not NOP, and of the profile
abbrev IsMemory : Profile → MemoryOp → Type 0
IsMemory profile op = IsNoNop op × (has_operation profile op ≡ true)

abbrev pub IsArithmetic : ArithmeticOp → Type 0
IsArithmetic arithmetic.Nop = ⊥
IsArithmetic arithmetic.Add = ⊤
IsArithmetic arithmetic.Sub = ⊤
IsArithmetic arithmetic.Mul = ⊤
IsArithmetic arithmetic.And = ⊤
IsArithmetic arithmetic.Or = ⊤
IsArithmetic arithmetic.Xor = ⊤
IsArithmetic arithmetic.AndNot = ⊤
IsArithmetic arithmetic.ShiftLeft = ⊤
IsArithmetic arithmetic.ShiftRight = ⊤
IsArithmetic arithmetic.ShiftRightSigned = ⊤
IsArithmetic arithmetic.Tally = ⊤
IsArithmetic arithmetic.LessSigned = ⊤
IsArithmetic arithmetic.LessUnsigned = ⊤
IsArithmetic arithmetic.Pointer = ⊤

-- NOP is no memory operation, the profile has PURGE, and TAGGET, TAGSET and PURGE name no access
abbrev pub IsWithAccess : Profile → MemoryOp → Access → Type 0
IsWithAccess profile memory.Nop acc = ⊥
IsWithAccess profile memory.Load acc = ⊤
IsWithAccess profile memory.Store acc = ⊤
IsWithAccess profile memory.FetchAdd acc = ⊤
IsWithAccess profile memory.TagGet acc = access.FromPointer ≡ acc
IsWithAccess profile memory.TagSet acc = access.FromPointer ≡ acc
IsWithAccess profile memory.Purge acc = (access.FromPointer ≡ acc) × (has_purge profile ≡ true)

abbrev pub IsNamed : Profile → Operation → Type 0
IsNamed profile (operation.Memory op acc) = IsWithAccess profile op acc
IsNamed profile (operation.Arithmetic op test) = IsArithmetic op
IsNamed profile operation.Nop = ⊤
IsNamed profile (operation.Wide op) = ⊤
IsNamed profile (operation.Control op) = ⊤

memory_range : (profile : Profile) (name : List ℕ) → IfSome (memory_named profile name) (IsMemory profile)
unfolding memory_named
memory_range profile name =
    let test : MemoryOp → Bool = λ o. bytes_eq name (memory_name o) && has_operation profile o in
    some_and IsNoNop (λ o. test o ≡ true) (IsMemory profile) (memory_named profile name)
    (λ o h e. (h, and_right (bytes_eq name (memory_name o)) (has_operation profile o) e))
    (found_in test IsNoNop (drop 1 memory_operations) (tt, (tt, (tt, (tt, (tt, (tt, tt)))))))
    (found_passes test (drop 1 memory_operations))

arithmetic_range : (name : List ℕ) → IfSome (arithmetic_named name) IsArithmetic
unfolding arithmetic_named
arithmetic_range name = found_in (λ o. bytes_eq name (arithmetic_name o)) IsArithmetic (drop 1 arithmetic_operations)
    (tt, (tt, (tt, (tt, (tt, (tt, (tt, (tt, (tt, (tt, (tt, (tt, (tt, (tt, tt))))))))))))))

access_range : (profile : Profile) (op : MemoryOp) (suffix : Option (List ℕ)) → IsMemory profile op
    → IfSome (access_named op suffix) (IsWithAccess profile op)
unfolding access_named
access_range profile memory.Nop suffix h = absurd h.0
access_range profile memory.Purge None h = (refl, h.1)
access_range profile memory.Purge (Some letter) h = tt
access_range profile memory.Load None h = tt
access_range profile memory.Store None h = tt
access_range profile memory.FetchAdd None h = tt
access_range profile memory.TagGet None h = refl
access_range profile memory.TagSet None h = refl
access_range profile memory.Load (Some letter) h = any (letter_access letter)
  where
    any : (o : Option Access) → IfSome o (λ _. ⊤)
    any None = tt
    any (Some acc) = tt
access_range profile memory.Store (Some letter) h = any (letter_access letter)
  where
    any : (o : Option Access) → IfSome o (λ _. ⊤)
    any None = tt
    any (Some acc) = tt
access_range profile memory.FetchAdd (Some letter) h = any (letter_access letter)
  where
    any : (o : Option Access) → IfSome o (λ _. ⊤)
    any None = tt
    any (Some acc) = tt
access_range profile memory.TagGet (Some letter) h = tt
access_range profile memory.TagSet (Some letter) h = tt

some_map : {A B : Type 0} (f : A → B) (P : A → Type 0) (Q : B → Type 0) (o : Option A) → ((x : A) → P x → Q (f x))
    → IfSome o P → IfSome (option_map f o) Q
some_map f P Q None g h = tt
some_map f P Q (Some x) g h = g x h

some_or : {A : Type 0} (Q : A → Type 0) (o p : Option A) → IfSome o Q → IfSome p Q → IfSome (option_or o p) Q
some_or Q None p h k = k
some_or Q (Some x) p h k = h

plain_range : (profile : Profile) (name : List ℕ) → IfSome (plain_named name) (IsNamed profile)
unfolding plain_named
plain_range profile name =
    some_or (IsNamed profile) (nop_named name) _ (nop (bytes_eq name (codes "NOP")))
    (some_or (IsNamed profile) (option_map operation.Wide (wide_named name)) _
    (some_map operation.Wide (λ _. ⊤) (IsNamed profile) (wide_named name) (λ x h. tt) (some_any (wide_named name)))
    (some_map operation.Control (λ _. ⊤) (IsNamed profile) (control_named name) (λ x h. tt)
    (some_any (control_named name))))
  where
    nop : (b : Bool) → IfSome (if b then Some operation.Nop else None) (IsNamed profile)
    nop true = tt
    nop false = tt

unsuffixed_range : (profile : Profile) (suffix : Option (List ℕ)) (o : Option Operation) → IfSome o (IsNamed profile)
    → IfSome (without_suffix suffix o) (IsNamed profile)
unsuffixed_range profile None o h = h
unsuffixed_range profile (Some s) o h = tt

memory_or_plain_range : (profile : Profile) (name : List ℕ) (suffix : Option (List ℕ)) (o : Option MemoryOp)
    → IfSome o (IsMemory profile) → IfSome (memory_or_plain name suffix o) (IsNamed profile)
memory_or_plain_range profile name suffix None h =
    unsuffixed_range profile suffix (plain_named name) (plain_range profile name)
memory_or_plain_range profile name suffix (Some op) h =
    some_map (operation.Memory op) (IsWithAccess profile op) (IsNamed profile) (access_named op suffix) (λ acc k. k)
    (access_range profile op suffix h)

arithmetic_or_other_range : (profile : Profile) (name : List ℕ) (suffix : Option (List ℕ)) (o : Option ArithmeticOp)
    → IfSome o IsArithmetic → IfSome (arithmetic_or_other profile name suffix o) (IsNamed profile)
arithmetic_or_other_range profile name suffix None h =
    memory_or_plain_range profile name suffix (memory_named profile name) (memory_range profile name)
arithmetic_or_other_range profile name suffix (Some op) h =
    some_map (operation.Arithmetic op) (λ _. ⊤) (IsNamed profile) (test_named suffix) (λ test k. h)
    (some_any (test_named suffix))

pub operation_range : (profile : Profile) (head : List ℕ) → IfOk (operation_of profile head) (IsNamed profile)
unfolding operation_of operation_named
operation_range profile head =
    ok_known (operation_named profile (text_before 46 head) (text_after 46 head)) (IsNamed profile)
    (arithmetic_or_other_range profile (text_before 46 head) (text_after 46 head)
    (arithmetic_named (text_before 46 head))
    (arithmetic_range (text_before 46 head)))
