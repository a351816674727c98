use Rattle.trace_text.proofs.Counting.{turns-more}
use Rattle.trace_text.proofs.rounds.append_turns.Goals as goal

pub loop-s-preserved : goal.loop-s-preserved
loop-s-preserved c =
    turns-more c.args.p c.loop-s.s c.args.steps.now.items c.loop-s.steps.items c.push.new.self.items
    c.loop-s.invariant c.in_ok-push.ensures.items
