use Rattle.std.proofs.Common.{◌≡◌, ◌++◌, ap, arith, length, get_or, ◌∙◌, sym}
use Rattle.std.proofs.lemmas.Option.{slice_get-get_or}
use Rattle.world_keys.specs.StreamNumbers.{all_halves}
use Rattle.world_keys.proofs.Digits.{one_more, no_more}
use Rattle.world_keys.proofs.stream_numbers.push_registers.Goals as goal

pub loop-register-preserved : goal.loop-register-preserved
loop-register-preserved c =
    let registers = c.registers-registers.result in
    let room : length registers ≡ 32 = omega arith in
    one_more (c.args.numbers.now.items ++ all_halves registers) c.loop-register.numbers.items
    c.push_halves.new.numbers.items registers c.loop-register.register (get_or registers c.loop-register.register 0) c.loop-register.invariant
    (slice_get-get_or registers c.loop-register.register 0 (omega (arith, room))) c.in_ok-push_halves.ensures

pub returns-clause-is : goal.returns-clause-is
returns-clause-is c =
    let registers = c.registers-registers.result in
    let room : length registers ≡ 32 = omega arith in
    no_more (c.args.numbers.now.items ++ all_halves registers) c.loop-register.numbers.items registers
    c.loop-register.register c.loop-register.invariant (omega (arith, room))
    ∙ ap (λ xs. c.args.numbers.now.items ++ all_halves xs) c.registers-registers.ensures

pub returns-clause-all : goal.returns-clause-all
returns-clause-all c =
    let room : length c.registers-registers.result ≡ 32 = omega arith in
    ap length (sym c.registers-registers.ensures) ∙ room
