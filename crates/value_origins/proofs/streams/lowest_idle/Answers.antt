use Rattle.std.proofs.Common.{sym, ◌∙◌, arith}
use Rattle.value_origins.specs.Tables.{used_in}
use Rattle.value_origins.proofs.Idle.{lowest_one, lowest_none}
use Rattle.value_origins.proofs.streams.lowest_idle.Goals as goal

pub returns-then-not-is_in_use-clause-is : goal.returns-then-not-is_in_use-clause-is
returns-then-not-is_in_use-clause-is c s s_in =
    lowest_one (used_in c.args.moved.now c.args.p) c.loop-s.s c.loop-s.invariant
    (sym c.is_in_use.ensures ∙ c.if-not-is_in_use.true) s

pub returns-clause-is : goal.returns-clause-is
returns-clause-is c s s_in =
    lowest_none (used_in c.args.moved.now c.args.p) c.loop-s.s c.loop-s.invariant s (omega (arith, s_in))
