-- Printed control operations are read as their parts.
use Rattle.std.proofs.Common.{◌≡◌, ℕ, suc, ◌<◌, true, false, refl, ap, ◌∙◌, arith, true≢false}
use Rattle.std.specs.Prelude.{ℤ, pos, negsuc, unsigned_abs, Ok}
use Rattle.std.specs.Fmt.{decimal, signed_decimal}
use Rattle.insn_word.specs.Fields.{AreInRange}
use Rattle.insn_word.specs.Words.{argument_fields, control_fields, used_control}
use Rattle.insn_word.specs.declared.operations.ControlOp.{ControlOp}
use Rattle.insn_word.specs.declared.operations.ControlOp.TheVariants as control
use Rattle.insn_word.specs.declared.profiles.Profile.{Profile}
use Rattle.insn_word.specs.declared.insn.CPart.{CPart}
use Rattle.asm_line.specs.Numbers.{number_within}
use Rattle.asm_line.specs.Operands.{Places}
use Rattle.asm_line.specs.Parts.{control_part}
use Rattle.asm_line.specs.Names.{condition_name}
use Rattle.asm_line.specs.declared.operation.Operation.TheVariants as operation
use Rattle.listing_line.specs.WordText.{register_text, target_text, control_operands, control_text, is_no_control}
use Rattle.listing_line.proofs.Statements.{is_term, all_terms, term-atoms}
use Rattle.listing_line.proofs.Numbers.{decimal-term}
use Rattle.listing_line.proofs.Operands.{register-text, target-text, code-text, three_bits-text, offset-text}
use Rattle.listing_line.proofs.Operands.{condition-name}
use Rattle.listing_line.proofs.Heads.{control-head}
use Rattle.listing_line.proofs.Parts.{register-term, target-term, one-term, two-terms, three-terms, condition-term}
use Rattle.listing_line.proofs.Parts.{signed-term}
use Rattle.listing_line.proofs.Parts.{operation_text, IsOperation}

-- The mask of MASK.

mask-term : (z : ℤ) → unsigned_abs z < 8 → is_term (signed_decimal z) ≡ true
mask-term (pos n) h = decimal-term n (omega arith)
mask-term (negsuc n) h = term-atoms (decimal (suc n)) (decimal-term (suc n) (omega arith))

mask-reads : (z : ℤ) → pos (unsigned_abs z) ≡ z → unsigned_abs z < 8
    → number_within 7 (signed_decimal z) ≡ Ok (unsigned_abs z)
mask-reads (pos n) e h = three_bits-text n h
mask-reads (negsuc n) e h = absurd (cc)

-- All operations.

register : (n : ℕ) → n < 32 → is_term (register_text n) ≡ true
register n h = register-term n (omega arith)

target : (n : ℕ) → n < 8 → is_term (target_text n) ≡ true
target n h = target-term n (omega arith)

control-terms : (op : ControlOp) (c : CPart) → AreInRange (argument_fields op c)
    → all_terms (control_operands op c) ≡ true
control-terms control.Nop c r = refl
control-terms control.Jump c r =
    let code = r.1.0 in
    three-terms (condition_name c.cond) (decimal c.code) (target_text c.t)
    (condition-term c.cond) (decimal-term c.code (omega arith)) (target c.t r.1.1.0)
control-terms control.Skip c r =
    let code = r.1.0 in
    three-terms (condition_name c.cond) (decimal c.code) (signed_decimal c.n)
    (condition-term c.cond) (decimal-term c.code (omega arith)) (signed-term c.n r.1.1.0.0 r.1.1.0.1)
control-terms control.Call c r = two-terms (target_text c.t) (target_text c.u) (target c.t r.0) (target c.u r.1.0)
control-terms control.Exchange c r = one-term (target_text c.t) (target c.t r.0)
control-terms control.TargetSet c r =
    two-terms (target_text c.t) (register_text c.ra) (target c.t r.0) (register c.ra r.1.0)
control-terms control.TargetGet c r =
    two-terms (register_text c.rd) (target_text c.t) (register c.rd r.1.0) (target c.t r.0)
control-terms control.TrapGet c r = one-term (register_text c.rd) (register c.rd r.1.0)
control-terms control.Reserve c r =
    two-terms (register_text c.rd) (register_text c.ra) (register c.rd r.1.0) (register c.ra r.1.1.0)
control-terms control.Create c r =
    two-terms (target_text c.t) (register_text c.ra) (target c.t r.0) (register c.ra r.1.0)
control-terms control.Quit c r = refl
control-terms control.QuitKeep c r = refl
control-terms control.Mask c r = one-term (signed_decimal c.n) (mask-term c.n r.0)

control-reads : (places : Places) (here : ℕ) (op : ControlOp) (c : CPart) → is_no_control op ≡ false
    → AreInRange (argument_fields op c)
    → used_control op c ≡ c → control_part places here op (control_operands op c) ≡ Ok (used_control op c)
control-reads places here control.Nop c h r u = absurd (true≢false h)
control-reads places here control.Jump c h r u =
    rw (condition-name c.cond, code-text c.code r.1.0, target-text c.t r.1.1.0)
control-reads places here control.Skip c h r u =
    rw (condition-name c.cond, code-text c.code r.1.0, offset-text places here c.n r.1.1.0.0 r.1.1.0.1)
control-reads places here control.Call c h r u = rw (target-text c.t r.0, target-text c.u r.1.0)
control-reads places here control.Exchange c h r u = rw (target-text c.t r.0)
control-reads places here control.TargetSet c h r u = rw (target-text c.t r.0, register-text c.ra r.1.0)
control-reads places here control.TargetGet c h r u = rw (register-text c.rd r.1.0, target-text c.t r.0)
control-reads places here control.TrapGet c h r u = rw (register-text c.rd r.1.0)
control-reads places here control.Reserve c h r u = rw (register-text c.rd r.1.0, register-text c.ra r.1.1.0)
control-reads places here control.Create c h r u = rw (target-text c.t r.0, register-text c.ra r.1.0)
control-reads places here control.Quit c h r u = refl
control-reads places here control.QuitKeep c h r u = refl
control-reads places here control.Mask c h r u =
    let n : pos (unsigned_abs c.n) ≡ c.n = ap (λ (p : CPart). p.n) u in rw (mask-reads c.n n r.0)

pub record IsControlText (profile : Profile) (places : Places) (here : ℕ) (c : CPart) : Type 0 where
  pub operation : IsOperation profile (control_text c) (operation.Control c.op) (control_operands c.op c)
  pub reads : control_part places here c.op (control_operands c.op c) ≡ Ok c

pub control-text : (profile : Profile) (places : Places) (here : ℕ) (c : CPart) → is_no_control c.op ≡ false
    → AreInRange (control_fields c)
    → used_control c.op c ≡ c → IsControlText profile places here c
unfolding control_text
control-text profile places here c h r u = record {
  operation =
      operation_text profile (operation.Control c.op) (control_operands c.op c) (control-head profile c.op h)
      (control-terms c.op c r.1);
  reads = control-reads places here c.op c h r.1 u ∙ ap Ok u;
}
