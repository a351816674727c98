use Rattle.std.proofs.Common.{◌∙◌}
use Rattle.stream_core.proofs.ShortSteps.{short_made}
use Rattle.stream_core.proofs.streams.Stream.execute_short.Goals as goal

pub returns : goal.returns
returns c =
    short_made c.args.self.now _ c.args.short.now c.pc_after-pc.result c.compute-made.result c.destination.result
    c.set.new.self (c.self.view_is ∙ c.compute-made.ensures.codes) c.pc_after-pc.ensures c.compute-made.ensures.value
    c.destination.ensures c.set.ensures
