-- A stream that is not there has the pc of an idle one.
use Rattle.std.proofs.Common.{None, ap}
use Rattle.stream_core.specs.Streams.{StreamValue}
use Rattle.replay_debugger.proofs.StreamsSeen.{stream_seen_is}
use Rattle.mta_engines.proofs.run.pc.Goals as goal

pub returns-in_default : goal.returns-in_default
returns-in_default g c =
    ap (λ (s : StreamValue). s.ssw.pc)
    (stream_seen_is g.row.S c.args.machine.now c.args.step None c.image.ensures.kept c.in_default.ensures)
