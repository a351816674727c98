use Rattle.std.proofs.Common.{◌≡◌, ◌∙◌, sym, ap, subst}
use Rattle.insn_word.specs.Words.{control_fields}
use Rattle.insn_word.specs.Fields.{number_of_fields}
use Rattle.insn_word.specs.Parts.{IsControlPart}
use Rattle.insn_word.proofs.WordParts.{control_is}
use Rattle.insn_word.proofs.Read.{arguments_of}
use Rattle.insn_word.proofs.insn.CPart.from_bits.Goals as goal

pub returns-then-bits : goal.returns-then-bits
returns-then-bits c other =
    let kind = c.in_ok-part.ensures.kind in
    let number_is : number_of_fields (control_fields c.in_ok-part.part) ≡ c.args.bits =
    sym (c.bits.ensures kind.0) ∙ c.if-bits.true in
    let read : IsControlPart c.args.bits c.in_ok-part.part =
    record { in_range = kind.0; number_is = number_is; rest = kind.1 } in (
      λ e. let same : c.in_ok-part.part ≡ other = cc in subst (IsControlPart c.args.bits) same read,
      λ p.
          let named = c.in_ok-from_number.ensures.found ∙ c.field.ensures in
          c.in_ok-part.ensures.only other (control_is c.args.bits c.in_ok-from_number.field-0 other p named)
          (arguments_of c.args.bits other p),
    )

pub returns-else-bits : goal.returns-else-bits
returns-else-bits c other = (
  λ e. cc,
  λ p.
      let named = c.in_ok-from_number.ensures.found ∙ c.field.ensures in
      let op_is = control_is c.args.bits c.in_ok-from_number.field-0 other p named in
      let found = c.in_ok-part.ensures.only other op_is (arguments_of c.args.bits other p) in
      let same : c.in_ok-part.part ≡ other = cc in
      let number_is = ap (λ part. number_of_fields (control_fields part)) same ∙ p.number_is in
      absurd (c.if-bits.false (c.bits.ensures c.in_ok-part.ensures.kind.0 ∙ number_is)),
)
