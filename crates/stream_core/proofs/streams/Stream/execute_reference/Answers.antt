use Rattle.stream_core.proofs.ShortSteps.{reference_made}
use Rattle.stream_core.proofs.streams.Stream.execute_reference.Goals as goal

pub returns : goal.returns
returns c =
    reference_made c.args.self.now _ c.args.reference.now c.pc_after-self-inside.result c.args.value
    c.destination.result c.set.new.self c.self.view_is c.pc_after-self-inside.ensures c.destination.ensures
    c.set.ensures
