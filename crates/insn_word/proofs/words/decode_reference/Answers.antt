use Rattle.std.proofs.Common.{◌≡◌, ◌<◌, ◌/◌, ◌%◌, ◌^◌, subst, arith}
use Rattle.insn_word.specs.ShortInsns.{reference_part, short_control_part}
use Rattle.insn_word.specs.Parts.{IsMemoryPart, IsControlPart}
use Rattle.insn_word.proofs.ShortParts.{reference_spelt}
use Rattle.insn_word.proofs.words.decode_reference.Goals as goal

pub returns : goal.returns
returns c p =
    let word = c.args.word in
    let below : word < 2 ^ 63 = omega arith in
    let none : word / 2 ^ 18 % 2 ^ 21 ≡ 0 = omega arith in
    let digits : c.field-3.result ≡ word % 2 ^ 18 = omega arith in
    reference_spelt p word c.small_field.result c.in_ok-m.m c.in_ok-c.c below none c.small_field.ensures
    (subst (λ bits. IsMemoryPart bits (reference_part c.in_ok-m.m)) c.field-2.ensures c.in_ok-m.ensures)
    (subst (λ bits. IsControlPart bits (short_control_part c.in_ok-c.c)) digits c.in_ok-c.ensures)
