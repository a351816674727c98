use Rattle.std.proofs.Common.{◌≡◌, ◌*◌, ◌∙◌, sym}
use Rattle.trace_text.proofs.Counting.{rounds-none, rounds-more}
use Rattle.trace_text.proofs.rounds.round_schedule.Goals as goal

pub returns-then-round-eq0 : goal.returns-then-round-eq0
returns-then-round-eq0 c =
    let none : c.args.processors * c.args.streams ≡ 0 =
    rw (← c.from.ensures, ← c.from-2.ensures) c.if-round-eq0.true in
    c.in_ok-steps.ensures.items ∙ sym (rounds-none c.args.processors c.args.streams c.args.count none)

pub loop-turn-preserved : goal.loop-turn-preserved
loop-turn-preserved c =
    rounds-more c.args.processors c.args.streams c.loop-turn._turn c.loop-turn.steps.items
    c.append_round.new.steps.items c.loop-turn.invariant c.in_ok-append_round.ensures
