use Rattle.schedule_makers.proofs.Rules.{first-own}
use Rattle.schedule_makers.proofs.fair_choice.next_of.Goals as goal

pub returns : goal.returns
returns c =
    let first = first-own c.args.p c.args.running.now in
    cc (c.or.ensures, c.next_own.ensures, c.first_own.ensures)
