-- Printed operations are read as their parts.
use Rattle.std.proofs.Common.{◌≡◌, ℕ, suc, ◌<◌, ◌^◌, Bool, true, false, List, [], ◌∷◌, get_or, refl, ap, ◌∙◌, arith}
use Rattle.std.proofs.Common.{true≢false}
use Rattle.std.specs.Prelude.{ℤ, pos, negsuc, neg_ℤ, ◌≤ℤ◌, ◌<ℤ◌, ◌==◌, Ok}
use Rattle.std.specs.List.{list_all}
use Rattle.std.specs.Fmt.{decimal, signed_decimal}
use Rattle.std.proofs.lemmas.Bool.{and_from}
use Rattle.std.proofs.lemmas.Int.{ints}
use Rattle.insn_word.specs.Fields.{AreInRange}
use Rattle.insn_word.specs.Words.{memory_fields, arithmetic_fields}
use Rattle.insn_word.specs.Operations.{has_operation}
use Rattle.insn_word.specs.Words.{used_memory, used_arithmetic}
use Rattle.insn_word.specs.declared.profiles.Profile.{Profile}
use Rattle.insn_word.specs.declared.operations.WideOp.{WideOp}
use Rattle.insn_word.specs.declared.operations.WideOp.TheVariants as wide
use Rattle.insn_word.specs.declared.operations.ArithmeticOp.{ArithmeticOp}
use Rattle.insn_word.specs.declared.operations.ArithmeticOp.TheVariants as arithmetic
use Rattle.insn_word.specs.declared.operations.Condition.{Condition}
use Rattle.insn_word.specs.declared.operations.Condition.TheVariants as condition
use Rattle.insn_word.specs.declared.insn.MPart.{MPart}
use Rattle.insn_word.specs.declared.insn.APart.{APart}
use Rattle.insn_word.specs.declared.insn.Insn.TheVariants as insn
use Rattle.asm_line.specs.Text.{head, operands}
use Rattle.asm_line.specs.Names.{operation_name, condition_name}
use Rattle.asm_line.specs.Heads.{operation_of}
use Rattle.asm_line.specs.Operands.{Places}
use Rattle.asm_line.specs.Parts.{wide_word, memory_part, arithmetic_part}
use Rattle.asm_line.specs.declared.operation.Operation.{Operation}
use Rattle.asm_line.specs.declared.operation.Operation.TheVariants as operation
use Rattle.listing_line.specs.WordText.{statement_text, register_text, target_text, source_text, wide_operands}
use Rattle.listing_line.specs.WordText.{memory_operands}
use Rattle.listing_line.specs.WordText.{arithmetic_operands, memory_text, arithmetic_text}
use Rattle.listing_line.specs.WordText.{is_no_memory, is_no_arithmetic}
use Rattle.listing_line.proofs.Bytes.{IsTrimmed}
use Rattle.listing_line.proofs.Statements.{is_ink, is_term, all_terms, term-atoms, statement}
use Rattle.listing_line.proofs.Numbers.{decimal-term, immediate-decimal}
use Rattle.listing_line.proofs.Operands.{register-text, target-text, source-text, displacement-text}
use Rattle.listing_line.proofs.Heads.{IsHead, memory-head, arithmetic-head}

-- Operands are terms.

pub register-term : (n : ℕ) → n < 2 ^ 64 → is_term (register_text n) ≡ true
register-term n h = term-atoms (decimal n) (decimal-term n h)

pub target-term : (n : ℕ) → n < 2 ^ 64 → is_term (target_text n) ≡ true
target-term n h = term-atoms (decimal n) (decimal-term n h)

source-term : (b : Bool) (n : ℕ) → n < 2 ^ 64 → is_term (source_text b n) ≡ true
source-term true n h = decimal-term n h
source-term false n h = register-term n h

pub signed-term : (z : ℤ) → neg_ℤ (pos 128) ≤ℤ z → z <ℤ pos 128 → is_term (signed_decimal z) ≡ true
signed-term (pos n) low high = decimal-term n (omega (arith, ints))
signed-term (negsuc n) low high = term-atoms (decimal (suc n)) (decimal-term (suc n) (omega (arith, ints)))

pub condition-term : (c : Condition) → is_term (condition_name c) ≡ true
condition-term condition.Always = refl
condition-term _ = refl

pub one-term : (x : List ℕ) → is_term x ≡ true → all_terms (x ∷ []) ≡ true
one-term x e = and_from (is_term x) true e refl

pub two-terms : (x y : List ℕ) → is_term x ≡ true → is_term y ≡ true → all_terms (x ∷ y ∷ []) ≡ true
two-terms x y e f = and_from (is_term x) (all_terms (y ∷ [])) e (one-term y f)

pub three-terms : (x y z : List ℕ) → is_term x ≡ true → is_term y ≡ true → is_term z ≡ true
    → all_terms (x ∷ y ∷ z ∷ []) ≡ true
three-terms x y z e f g = and_from (is_term x) (all_terms (y ∷ z ∷ [])) e (two-terms y z f g)

-- An operation's text.
pub record IsText (text : List ℕ) : Type 0 where
  pub trimmed : IsTrimmed text
  pub ink : list_all is_ink text ≡ true
  pub no_at : (get_or text 0 0 == 64) ≡ false
  pub no_dot : (get_or text 0 0 == 46) ≡ false

pub record IsOperation (profile : Profile) (text : List ℕ) (o : Operation) (ops : List (List ℕ)) : Type 0 where
  pub is_text : IsText text
  pub names : operation_of profile (head text) ≡ Ok o
  pub operands_are : operands text ≡ ops

pub operation_text : (profile : Profile) (o : Operation) (ops : List (List ℕ)) → IsHead profile o → all_terms ops ≡ true
    → IsOperation profile (statement_text (operation_name o) ops) o ops
operation_text profile o ops h e =
    let s = statement (operation_name o) ops h.term e in record {
      is_text = record { trimmed = s.trimmed; ink = s.ink; no_at = rw s.first h.no_at; no_dot = rw s.first h.no_dot };
      names = rw s.head_is h.names;
      operands_are = s.operands_are;
    }

-- Wide words.

pub wide-terms : (op : WideOp) (reg imm : ℕ) → reg < 32 → imm < 2 ^ 32 → all_terms (wide_operands op reg imm) ≡ true
wide-terms wide.TargetLiteral reg imm h k =
    two-terms (target_text reg) (decimal imm) (target-term reg (omega arith)) (decimal-term imm (omega arith))
wide-terms _ reg imm h k =
    two-terms (register_text reg) (decimal imm) (register-term reg (omega arith)) (decimal-term imm (omega arith))

-- a target register has three bits
abbrev pub register_limit : WideOp → ℕ
register_limit wide.TargetLiteral = 8
register_limit _ = 32

pub wide-reads : (places : Places) (op : WideOp) (reg imm : ℕ) → reg < register_limit op → imm < 2 ^ 32
    → wide_word places op (wide_operands op reg imm) ≡ Ok (insn.Wide 0 op reg imm)
wide-reads places wide.TargetLiteral reg imm h k = rw (target-text reg h, immediate-decimal places imm k)
wide-reads places _ reg imm h k = rw (register-text reg h, immediate-decimal places imm k)

-- The memory part.

pub record IsMemoryText (profile : Profile) (m : MPart) : Type 0 where
  pub operation : IsOperation profile (memory_text m) (operation.Memory m.op m.acc) (memory_operands m)
  pub reads : memory_part m.op m.acc (memory_operands m) ≡ Ok m

pub memory-text : (profile : Profile) (m : MPart) → is_no_memory m.op ≡ false → has_operation profile m.op ≡ true
    → AreInRange (memory_fields m) → used_memory m.op m ≡ m → IsMemoryText profile m
unfolding memory_text
memory-text profile m h p r u =
    let rd = r.1.1.0 in
    let base = r.1.1.1.0 in
    let disp = r.1.1.1.1.0 in
    let terms = three-terms (register_text m.rd) (register_text m.base) (signed_decimal m.disp)
    (register-term m.rd (omega arith)) (register-term m.base (omega arith))
    (signed-term m.disp (omega (arith, ints)) (omega (arith, ints))) in record {
      operation = operation_text profile (operation.Memory m.op m.acc) (memory_operands m)
          (memory-head profile m.op m h p u) terms;
      reads = rw (register-text m.rd rd, register-text m.base base, displacement-text m.disp disp.0 disp.1);
    }

-- The arithmetic part.

arithmetic-terms : (op : ArithmeticOp) (a : APart) → a.rd < 32 → a.ra < 32 → a.rb < 32
    → all_terms (arithmetic_operands op a) ≡ true
arithmetic-terms arithmetic.Nop a d e f = refl
arithmetic-terms arithmetic.Tally a d e f =
    two-terms (register_text a.rd) (register_text a.ra) (register-term a.rd (omega arith))
    (register-term a.ra (omega arith))
arithmetic-terms _ a d e f =
    three-terms (register_text a.rd) (register_text a.ra) (source_text a.imm a.rb)
    (register-term a.rd (omega arith)) (register-term a.ra (omega arith)) (source-term a.imm a.rb (omega arith))

arithmetic-reads : (op : ArithmeticOp) (test imm : Bool) (rd ra rb : ℕ) → is_no_arithmetic op ≡ false → rd < 32
    → ra < 32 → rb < 32
    → let a : APart = record { op = op; test = test; imm = imm; rd = rd; ra = ra; rb = rb } in
    arithmetic_part op test (arithmetic_operands op a) ≡ Ok (used_arithmetic op a)
arithmetic-reads arithmetic.Nop test imm rd ra rb h d e f = absurd (true≢false h)
arithmetic-reads arithmetic.Tally test imm rd ra rb h d e f = rw (register-text rd d, register-text ra e)
arithmetic-reads _ test true rd ra rb h d e f = rw (register-text rd d, register-text ra e, source-text true rb f)
arithmetic-reads _ test false rd ra rb h d e f = rw (register-text rd d, register-text ra e, source-text false rb f)

pub record IsArithmeticText (profile : Profile) (a : APart) : Type 0 where
  pub operation : IsOperation profile (arithmetic_text a) (operation.Arithmetic a.op a.test)
      (arithmetic_operands a.op a)
  pub reads : arithmetic_part a.op a.test (arithmetic_operands a.op a) ≡ Ok a

pub arithmetic-text : (profile : Profile) (a : APart) → is_no_arithmetic a.op ≡ false → AreInRange (arithmetic_fields a)
    → used_arithmetic a.op a ≡ a
    → IsArithmeticText profile a
unfolding arithmetic_text
arithmetic-text profile a h r u =
    let d = r.1.1.1.0 in
    let e = r.1.1.1.1.0 in
    let f = r.1.1.1.1.1.0 in record {
      operation =
          operation_text profile (operation.Arithmetic a.op a.test) (arithmetic_operands a.op a)
          (arithmetic-head profile a.op a.test h) (arithmetic-terms a.op a d e f);
      reads = arithmetic-reads a.op a.test a.imm a.rd a.ra a.rb h d e f ∙ ap Ok u;
    }
