use Rattle.std.proofs.Common.{◌≡◌, ◌<◌, ◌/◌, ◌%◌, ◌^◌, subst, arith}
use Rattle.insn_word.specs.ShortInsns.{short_control_part}
use Rattle.insn_word.specs.Parts.{IsArithmeticPart, IsControlPart}
use Rattle.insn_word.proofs.ShortParts.{short_spelt}
use Rattle.insn_word.proofs.words.decode_short.Goals as goal

pub returns : goal.returns
returns c p =
    let word = c.args.word in
    let below : word < 2 ^ 63 = omega arith in
    let none : word / 2 ^ 39 % 2 ^ 21 ≡ 0 = omega arith in
    let arithmetic = (c.read.ensures c.in_ok-a.a).0 c.in_ok-a.was in
    let digits : c.field-3.result ≡ word % 2 ^ 18 = omega arith in
    short_spelt p word c.small_field.result c.in_ok-a.a c.in_ok-c.c below none c.small_field.ensures
    (subst (λ bits. IsArithmeticPart bits c.in_ok-a.a) c.field-2.ensures arithmetic)
    (subst (λ bits. IsControlPart bits (short_control_part c.in_ok-c.c)) digits c.in_ok-c.ensures)
