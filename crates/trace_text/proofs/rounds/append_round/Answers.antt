use Rattle.trace_text.proofs.Counting.{round-more}
use Rattle.trace_text.proofs.rounds.append_round.Goals as goal

pub loop-p-preserved : goal.loop-p-preserved
loop-p-preserved c =
    round-more c.loop-p.p c.args.streams c.args.steps.now.items c.loop-p.steps.items c.append_turns.new.steps.items
    c.loop-p.invariant c.in_ok-append_turns.ensures
