use Rattle.std.proofs.Common.{sym, rules}
use Rattle.seed_verdicts.proofs.Worst.{deadlock_at, missed_at, flawless_end}
use Rattle.seed_verdicts.proofs.end_flaws.standing_flaw.Goals as goal

pub returns-then-not-are_waits_expected : goal.returns-then-not-are_waits_expected
returns-then-not-are_waits_expected g c = λ ends traps ts claims at.
    deadlock_at c.args.machine.now.image c.args.machine.now.world c.args.expected.now traps ends
    (λ waits.
    let yes = c.are_waits_expected.ensures.1 waits in
    let no = c.if-not-are_waits_expected.true in
    search rules)
    ts claims at

pub returns-in-Some : goal.returns-in-Some
returns-in-Some g c = λ ends traps ts claims at.
    missed_at c.args.machine.now.image c.args.machine.now.world c.args.expected.now c.in-Some.expectation traps
    (c.are_waits_expected.ensures.0 (search rules)) ends (sym c.in-Some.ensures) ts claims at

pub returns-in-None : goal.returns-in-None
returns-in-None g c = λ ends traps.
    flawless_end c.args.machine.now.image c.args.machine.now.world c.args.expected.now traps
    (c.are_waits_expected.ensures.0 (search rules)) (sym c.in-None.ensures)
