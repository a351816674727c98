use Rattle.std.proofs.Common.{rules}
use Rattle.machine.proofs.Worlds.{absent, present}
use Rattle.machine.proofs.machines.Machine.step.Goals as goal

pub returns-then-place-len-clause-world : goal.returns-then-place-len-clause-world
returns-then-place-len-clause-world g c =
    absent c.args.self.now c.self.inside.image.now c.self.inside.processors.items c.self.inside.memory
    (record { p = c.args.p; s = c.args.s }) c.self.view_is (search rules)

pub returns-clause-world : goal.returns-clause-world
returns-clause-world g c =
    present c.args.self.now c.self.inside.image.now c.self.inside.processors.items c.self.inside.memory
    c.step.new.memory (record { p = c.args.p; s = c.args.s }) c.len.result c.index_mut.result.now c.step.new.self
    c.step.result c.self.view_is (search rules) (search rules) c.index_mut.ensures.value c.step.ensures.row
