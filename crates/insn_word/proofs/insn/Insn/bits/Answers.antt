use Rattle.std.proofs.Common.{◌≡◌, ◌+◌, ◌*◌, ◌^◌, ◌<◌, ◌∙◌, sym, ap, subst, arith}
use Rattle.insn_word.specs.Words.{fields, memory_fields, arithmetic_fields, control_fields}
use Rattle.insn_word.specs.Fields.{AreInRange, number_of_fields}
use Rattle.insn_word.proofs.Numbers.{number-lt}
use Rattle.insn_word.proofs.WordParts.{normal_parts, number-normal, control_number-lt}
use Rattle.insn_word.proofs.insn.Insn.bits.Goals as goal

pub returns-in-Normal : goal.returns-in-Normal
returns-in-Normal c h =
    let look = c.in-Normal.look in let m = c.in-Normal.m in let a = c.in-Normal.a in let p = c.in-Normal.c in
    let parts = normal_parts look m a p (subst (λ i. AreInRange (fields i)) c.in-Normal.is h) in
    let look_lt : look < 8 = parts.0 in
    let m_lt : number_of_fields (memory_fields m) < 2 ^ 21 = number-lt (memory_fields m) parts.1 in
    let a_lt : number_of_fields (arithmetic_fields a) < 2 ^ 21 = number-lt (arithmetic_fields a) parts.2 in
    let p_lt : number_of_fields (control_fields p) < 2 ^ 18 = control_number-lt p parts.3 in
    let m_is : c.bits.result ≡ number_of_fields (memory_fields m) = c.bits.ensures parts.1 in
    let a_is : c.bits-in-Normal.result ≡ number_of_fields (arithmetic_fields a) = c.bits-in-Normal.ensures parts.2 in
    let p_is : c.bits-in-Normal-2.result ≡ number_of_fields (control_fields p) = c.bits-in-Normal-2.ensures parts.3 in
    let one = c.with_field-bits-in-Normal.ensures (omega arith) (omega arith) in
    let two = c.with_field-bits-in-Normal-2.ensures (omega arith) (omega arith) in
    let three = c.with_field-in-Normal.ensures (omega arith) (omega arith) in
    let sum : c.with_field-in-Normal.result
    ≡ look * 2 ^ 60 + number_of_fields (memory_fields m) * 2 ^ 39 + number_of_fields (arithmetic_fields a) * 2 ^ 18
    + number_of_fields (control_fields p) = omega arith in
    sum ∙ sym (number-normal look m a p) ∙ ap (λ i. number_of_fields (fields i)) (sym c.in-Normal.is)
