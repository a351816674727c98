use Rattle.tag_memory.proofs.Ends.{trap_ends, reach_ends}
use Rattle.tag_memory.proofs.storage.Memory.end.Goals as goal

pub returns-in-Trap : goal.returns-in-Trap
returns-in-Trap c =
    let q = c.args.request.now in
    trap_ends c.args.self.now q _ q.pointer _ _ c.in-Trap.ensures c.address.ensures

pub returns-in-Reach : goal.returns-in-Reach
returns-in-Reach c =
    let q = c.args.request.now in
    reach_ends c.args.self.now q _ q.pointer _ c.in-Reach.ensures
