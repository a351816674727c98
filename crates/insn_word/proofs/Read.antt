-- A spelt instruction is the one that is read.
use Rattle.std.proofs.Common.{◌≡◌, ℕ, suc, ◌-◌, ◌/◌, ◌%◌, ◌^◌, ◌<◌, ◌≤◌, List, ℤ, pos, negsuc, neg_ℤ, ◌≤ℤ◌, ◌<ℤ◌}
use Rattle.std.proofs.Common.{Bool, true, false, if◌then◌else◌, ◌==◌, refl, sym, ◌∙◌, ap, subst, arith}
use Rattle.std.proofs.lemmas.Bool.{lt-ltb, le-ltb}
use Rattle.std.proofs.lemmas.Int.{ints}
use Rattle.std.proofs.Math.Nat.{mod-eq_of_lt}
use Rattle.insn_word.specs.Operations.{wide_number, memory_number, access_number, arithmetic_number, control_number}
use Rattle.insn_word.specs.Operations.{condition_number}
use Rattle.insn_word.specs.Fields.{Field, AreInRange, twos_complement, number_of_fields, total_width}
use Rattle.insn_word.specs.Words.{memory_fields, arithmetic_fields, argument_fields, control_fields, fields}
use Rattle.insn_word.specs.Words.{used_memory, used_arithmetic, used_control, only_control}
use Rattle.insn_word.specs.Parts.{IsMemoryPart, IsArithmeticPart, IsControlPart, Holds, Reads, HasArguments}
use Rattle.insn_word.specs.Reading.{wide_read, memory_read, access_read, arithmetic_read, control_read}
use Rattle.insn_word.specs.Reading.{condition_read, signed_read, memory_raw, arithmetic_raw, control_part_from, memory_part_at}
use Rattle.insn_word.specs.Reading.{arithmetic_part_at, control_part_at, register_from, wide_from, candidate}
use Rattle.insn_word.proofs.Numbers.{reads, number-lt}
use Rattle.insn_word.proofs.WordParts.{argument_width}
use Rattle.insn_word.specs.declared.operations.WideOp.{WideOp}
use Rattle.insn_word.specs.declared.operations.WideOp.TheVariants as wide
use Rattle.insn_word.specs.declared.operations.MemoryOp.{MemoryOp}
use Rattle.insn_word.specs.declared.operations.MemoryOp.TheVariants as memory
use Rattle.insn_word.specs.declared.operations.Access.{Access}
use Rattle.insn_word.specs.declared.operations.Access.TheVariants as access
use Rattle.insn_word.specs.declared.operations.ArithmeticOp.{ArithmeticOp}
use Rattle.insn_word.specs.declared.operations.ArithmeticOp.TheVariants as arithmetic
use Rattle.insn_word.specs.declared.operations.ControlOp.{ControlOp}
use Rattle.insn_word.specs.declared.operations.ControlOp.TheVariants as control
use Rattle.insn_word.specs.declared.operations.Condition.{Condition}
use Rattle.insn_word.specs.declared.operations.Condition.TheVariants as condition
use Rattle.insn_word.specs.declared.profiles.Profile.{Profile}
use Rattle.insn_word.specs.declared.insn.MPart.{MPart}
use Rattle.insn_word.specs.declared.insn.APart.{APart}
use Rattle.insn_word.specs.declared.insn.CPart.{CPart}
use Rattle.insn_word.specs.declared.insn.Insn.{Insn}
use Rattle.insn_word.specs.declared.insn.Insn.TheVariants as insn

-- Each operation stands at its number.

wide_back : (x : WideOp) → wide_read (wide_number x) ≡ x
wide_back wide.Literal = refl
wide_back wide.LiteralHigh = refl
wide_back wide.TargetLiteral = refl

memory_back : (x : MemoryOp) → memory_read (memory_number x) ≡ x
memory_back memory.Nop = refl
memory_back memory.Load = refl
memory_back memory.Store = refl
memory_back memory.FetchAdd = refl
memory_back memory.TagGet = refl
memory_back memory.TagSet = refl
memory_back memory.Purge = refl

access_back : (x : Access) → access_read (access_number x) ≡ x
access_back access.FromPointer = refl
access_back access.Normal = refl
access_back access.Future = refl
access_back access.Sync = refl

arithmetic_back : (x : ArithmeticOp) → arithmetic_read (arithmetic_number x) ≡ x
arithmetic_back arithmetic.Nop = refl
arithmetic_back arithmetic.Add = refl
arithmetic_back arithmetic.Sub = refl
arithmetic_back arithmetic.Mul = refl
arithmetic_back arithmetic.And = refl
arithmetic_back arithmetic.Or = refl
arithmetic_back arithmetic.Xor = refl
arithmetic_back arithmetic.AndNot = refl
arithmetic_back arithmetic.ShiftLeft = refl
arithmetic_back arithmetic.ShiftRight = refl
arithmetic_back arithmetic.ShiftRightSigned = refl
arithmetic_back arithmetic.Tally = refl
arithmetic_back arithmetic.LessSigned = refl
arithmetic_back arithmetic.LessUnsigned = refl
arithmetic_back arithmetic.Pointer = refl

control_back : (x : ControlOp) → control_read (control_number x) ≡ x
control_back control.Nop = refl
control_back control.Jump = refl
control_back control.Skip = refl
control_back control.Call = refl
control_back control.Exchange = refl
control_back control.TargetSet = refl
control_back control.TargetGet = refl
control_back control.TrapGet = refl
control_back control.Reserve = refl
control_back control.Create = refl
control_back control.Quit = refl
control_back control.QuitKeep = refl
control_back control.Mask = refl

condition_back : (x : Condition) → condition_read (condition_number x) ≡ x
condition_back condition.Always = refl
condition_back condition.Equal = refl
condition_back condition.NotEqual = refl
condition_back condition.Less = refl
condition_back condition.GreaterEqual = refl
condition_back condition.LessEqual = refl
condition_back condition.Greater = refl
condition_back condition.LessUnsigned = refl
condition_back condition.GreaterEqualUnsigned = refl
condition_back condition.LessEqualUnsigned = refl
condition_back condition.GreaterUnsigned = refl
condition_back condition.Negative = refl
condition_back condition.Positive = refl
condition_back condition.Overflow = refl
condition_back condition.NoOverflow = refl

signed_6_back : (z : ℤ) → neg_ℤ (pos 32) ≤ℤ z → z <ℤ pos 32 → signed_read 6 (twos_complement 6 z) ≡ z
signed_6_back (pos n) low high = let below : n < 32 = omega (arith, ints, high) in rw (lt-ltb n 32 below) refl
signed_6_back (negsuc n) low high =
    let above : n < 32 = omega (arith, ints, low) in
    let far : 32 ≤ 64 - suc n = omega arith in
    let same : 64 - 1 - (64 - suc n) ≡ n = omega arith in
    rw (le-ltb (64 - suc n) 32 far) (ap negsuc same)

signed_8_back : (z : ℤ) → neg_ℤ (pos 128) ≤ℤ z → z <ℤ pos 128 → signed_read 8 (twos_complement 8 z) ≡ z
signed_8_back (pos n) low high = let below : n < 128 = omega (arith, ints, high) in rw (lt-ltb n 128 below) refl
signed_8_back (negsuc n) low high =
    let above : n < 128 = omega (arith, ints, low) in
    let far : 128 ≤ 256 - suc n = omega arith in
    let same : 256 - 1 - (256 - suc n) ≡ n = omega arith in
    rw (le-ltb (256 - suc n) 128 far) (ap negsuc same)

flag_back : (b : Bool) (n : ℕ) → n ≡ (if b then 1 else 0) → (n == 1) ≡ b
flag_back true n e = ap (λ m. m == 1) e
flag_back false n e = ap (λ m. m == 1) e

-- fields' digits are all the digits of their number
fits : (n : ℕ) (fs : List Field) → AreInRange fs → number_of_fields fs ≡ n → n % 2 ^ total_width fs ≡ number_of_fields fs
fits n fs h e = mod-eq_of_lt (subst (λ m. m < 2 ^ total_width fs) e (number-lt fs h)) ∙ sym e

memory_reads : (bits : ℕ) (m : MPart) → IsMemoryPart bits m → memory_part_at bits ≡ m
memory_reads bits m p =
    let r = reads bits (memory_fields m) p.in_range (fits bits (memory_fields m) p.in_range p.number_is) in
    let last : bits % 2 ^ 6 ≡ twos_complement 6 m.disp = omega (arith, r.1.1.1.1.0) in
    let range = p.in_range.1.1.1.1.0 in
    let raw : memory_raw bits ≡ m = λ i. record {
      op = (ap memory_read r.0 ∙ memory_back m.op) i;
      acc = (ap access_read r.1.0 ∙ access_back m.acc) i;
      rd = r.1.1.0 i;
      base = r.1.1.1.0 i;
      disp = (ap (signed_read 6) last ∙ signed_6_back m.disp range.0 range.1) i;
    } in
    ap (λ part. used_memory part.op part) raw ∙ p.rest

arithmetic_reads : (bits : ℕ) (a : APart) → IsArithmeticPart bits a → arithmetic_part_at bits ≡ a
arithmetic_reads bits a p =
    let r = reads bits (arithmetic_fields a) p.in_range (fits bits (arithmetic_fields a) p.in_range p.number_is) in
    let last : bits % 2 ^ 5 ≡ a.rb = omega (arith, r.1.1.1.1.1.0) in
    let raw : arithmetic_raw bits ≡ a = λ i. record {
      op = (ap arithmetic_read r.0 ∙ arithmetic_back a.op) i;
      test = flag_back a.test (bits / 2 ^ 16 % 2) r.1.0 i;
      imm = flag_back a.imm (bits / 2 ^ 15 % 2) r.1.1.0 i;
      rd = r.1.1.1.0 i;
      ra = r.1.1.1.1.0 i;
      rb = last i;
    } in
    ap (λ part. used_arithmetic part.op part) raw ∙ p.rest

-- A row for each control operation: what its argument fields say is what is read.
arguments_read : (op : ControlOp) (bits : ℕ) (c : CPart) → AreInRange (argument_fields op c)
    → Reads bits (argument_fields op c) → used_control op c ≡ c → control_part_from op bits ≡ c
arguments_read control.Nop bits c h r rest = rest
arguments_read control.Jump bits c h r rest =
    (λ i. record (only_control control.Jump) {
      cond = (ap condition_read r.0 ∙ condition_back c.cond) i;
      code = r.1.0 i;
      t = r.1.1.0 i;
    }) ∙ rest
arguments_read control.Skip bits c h r rest =
    let last : bits % 2 ^ 8 ≡ twos_complement 8 c.n = omega (arith, r.1.1.0) in
    (λ i. record (only_control control.Skip) {
      cond = (ap condition_read r.0 ∙ condition_back c.cond) i;
      code = r.1.0 i;
      n = (ap (signed_read 8) last ∙ signed_8_back c.n h.1.1.0.0 h.1.1.0.1) i;
    }) ∙ rest
arguments_read control.Call bits c h r rest =
    (λ i. record (only_control control.Call) { t = r.0 i; u = r.1.0 i }) ∙ rest
arguments_read control.Exchange bits c h r rest = (λ i. record (only_control control.Exchange) { t = r.0 i }) ∙ rest
arguments_read control.TargetSet bits c h r rest =
    (λ i. record (only_control control.TargetSet) { t = r.0 i; ra = r.1.0 i }) ∙ rest
arguments_read control.TargetGet bits c h r rest =
    (λ i. record (only_control control.TargetGet) { t = r.0 i; rd = r.1.0 i }) ∙ rest
arguments_read control.TrapGet bits c h r rest = (λ i. record (only_control control.TrapGet) { rd = r.1.0 i }) ∙ rest
arguments_read control.Reserve bits c h r rest =
    (λ i. record (only_control control.Reserve) { rd = r.1.0 i; ra = r.1.1.0 i }) ∙ rest
arguments_read control.Create bits c h r rest =
    (λ i. record (only_control control.Create) { t = r.0 i; ra = r.1.0 i }) ∙ rest
arguments_read control.Quit bits c h r rest = rest
arguments_read control.QuitKeep bits c h r rest = rest
arguments_read control.Mask bits c h r rest = (λ i. record (only_control control.Mask) { n = pos (r.0 i) }) ∙ rest

-- the arguments of a part stand in its digits
pub arguments_of : (bits : ℕ) (c : CPart) → IsControlPart bits c → HasArguments bits c
arguments_of bits c p =
    let r = reads bits (control_fields c) p.in_range (fits bits (control_fields c) p.in_range p.number_is) in
    record { in_range = p.in_range.1; reads = r.1; rest = p.rest }

control_reads : (bits : ℕ) (c : CPart) → IsControlPart bits c → control_part_at bits ≡ c
control_reads bits c p =
    let r = reads bits (control_fields c) p.in_range (fits bits (control_fields c) p.in_range p.number_is) in
    let number_is : bits / 2 ^ 14 % 2 ^ 4 ≡ control_number c.op =
    subst (λ (k : ℕ). bits / 2 ^ k % 2 ^ 4 ≡ control_number c.op) (argument_width c.op c) r.0 in
    let op : control_read (bits / 2 ^ 14 % 2 ^ 4) ≡ c.op = ap control_read number_is ∙ control_back c.op in
    ap (λ x. control_part_from x bits) op ∙ arguments_read c.op bits c p.in_range.1 r.1 p.rest

pub candidate-holds : (p : Profile) (word : ℕ) (i : Insn) → Holds p word i → candidate word ≡ i
unfolding candidate
candidate-holds p word (insn.Wide look wide.Literal reg imm) h =
    let r =
    reads word (fields (insn.Wide look wide.Literal reg imm)) h.in_range
    (fits word (fields (insn.Wide look wide.Literal reg imm)) h.in_range h.number_is) in
    let above : 2 ^ 63 ≤ word = omega (arith, r.0) in
    let reg_is : register_from wide.Literal (word / 2 ^ 52 % 2 ^ 5) ≡ reg = omega (arith, r.1.1.1.0) in
    let imm_is : word % 2 ^ 32 ≡ imm = omega (arith, r.1.1.1.1.1.0) in
    rw (le-ltb word (2 ^ 63) above)
    (ap (λ n. wide_from (wide_read n) word) r.1.1.0
    ∙ (λ i. insn.Wide (r.1.0 i) wide.Literal (reg_is i) (imm_is i)))
candidate-holds p word (insn.Wide look wide.LiteralHigh reg imm) h =
    let r =
    reads word (fields (insn.Wide look wide.LiteralHigh reg imm)) h.in_range
    (fits word (fields (insn.Wide look wide.LiteralHigh reg imm)) h.in_range h.number_is) in
    let above : 2 ^ 63 ≤ word = omega (arith, r.0) in
    let reg_is : register_from wide.LiteralHigh (word / 2 ^ 52 % 2 ^ 5) ≡ reg = omega (arith, r.1.1.1.0) in
    let imm_is : word % 2 ^ 32 ≡ imm = omega (arith, r.1.1.1.1.1.0) in
    rw (le-ltb word (2 ^ 63) above)
    (ap (λ n. wide_from (wide_read n) word) r.1.1.0
    ∙ (λ i. insn.Wide (r.1.0 i) wide.LiteralHigh (reg_is i) (imm_is i)))
candidate-holds p word (insn.Wide look wide.TargetLiteral reg imm) h =
    let r =
    reads word (fields (insn.Wide look wide.TargetLiteral reg imm)) h.in_range
    (fits word (fields (insn.Wide look wide.TargetLiteral reg imm)) h.in_range h.number_is) in
    let above : 2 ^ 63 ≤ word = omega (arith, r.0) in
    let reg_is : register_from wide.TargetLiteral (word / 2 ^ 52 % 2 ^ 5) ≡ reg = omega (arith, r.1.1.1.1.0) in
    let imm_is : word % 2 ^ 32 ≡ imm = omega (arith, r.1.1.1.1.1.1.0) in
    rw (le-ltb word (2 ^ 63) above)
    (ap (λ n. wide_from (wide_read n) word) r.1.1.0
    ∙ (λ i. insn.Wide (r.1.0 i) wide.TargetLiteral (reg_is i) (imm_is i)))
candidate-holds p word (insn.Normal look m a c) h =
    let look_is : word / 2 ^ 60 % 2 ^ 3 ≡ look = omega (arith, h.in_word, h.look_is) in
    let memory_is = memory_reads _ m h.memory in
    let arithmetic_is = arithmetic_reads _ a h.arithmetic in
    let control_is = control_reads _ c h.control in
    rw (lt-ltb word (2 ^ 63) h.in_word)
    (λ i. insn.Normal (look_is i) (memory_is i) (arithmetic_is i) (control_is i))
