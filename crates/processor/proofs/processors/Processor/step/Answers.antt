use Rattle.processor.proofs.Counting.{counted_over}
use Rattle.processor.proofs.OtherStreams.{kept_over}
use Rattle.processor.proofs.processors.Processor.step.Goals as goal

pub invariant_of-self : goal.invariant_of-self
invariant_of-self g c =
    counted_over c.args.image.now c.args.self.now c.self.inside.streams c.step_over.new.self c.args.s
    c.args.memory.now c.step_over.new.memory c.step_over.result c.self.view_is c.requires.slim c.self.invariant
    c.step_over.ensures

pub returns-clause-others : goal.returns-clause-others
returns-clause-others g c =
    kept_over c.args.image.now c.args.self.now c.self.inside.streams c.step_over.new.self c.args.s
    c.args.memory.now c.step_over.new.memory c.step_over.result c.self.view_is c.step_over.ensures
