use Rattle.std.proofs.Common.{rules}
use Rattle.machine.proofs.Loading.{opened, all_opened, at_start}
use Rattle.machine.proofs.machines.Machine.load.Goals as goal

pub invariant_of-result : goal.invariant_of-result
invariant_of-result g c =
    opened g.row.S c.args.image.now c.loop-number.processors.items c.in_ok-memory.memory (search rules)
    (all_opened c.args.image.now c.loop-number.processors.items c.loop-number.number c.loop-number.invariant
    (search rules))

pub returns-clause-is : goal.returns-clause-is
returns-clause-is g c =
    at_start c.args.image.now c.loop-number.processors.items c.in_ok-memory.memory c.cells.result.now
    c.chain_limit.result
    (all_opened c.args.image.now c.loop-number.processors.items c.loop-number.number c.loop-number.invariant
    (search rules))
    c.in_ok-memory.ensures c.cells.ensures.is c.chain_limit.ensures.is
