use Rattle.std.proofs.Common.{rules, ◌≡◌}
use Rattle.stream_core.specs.Effects.{displaced_pointer}
use Rattle.stream_core.proofs.ShortSteps.{request_made}
use Rattle.stream_core.proofs.streams.Stream.request_reference.Goals as goal

pub returns : goal.returns
returns c =
    let pointer : c.displaced_pointer.result ≡ displaced_pointer c.register.result c.args.reference.now.m.disp = search rules in
    request_made c.args.self.now _ c.args.reference.now c.operation_of.result c.register.result c.displaced_pointer.result
    c.acc_of.result c.asked_value.result c.self.view_is c.operation_of.ensures c.register.ensures pointer
    c.acc_of.ensures c.asked_value.ensures
