use Rattle.std.proofs.Common.{◌&&◌, Bool, sym, ap, ◌∙◌, None}
use Rattle.stream_core.specs.Streams.{StreamValue}
use Rattle.processor.specs.Records.{is_running}
use Rattle.replay_debugger.specs.Stops.{is_met}
use Rattle.replay_debugger.specs.StopFinders.{has_place}
use Rattle.replay_debugger.proofs.StreamsSeen.{stream_seen_is}
use Rattle.replay_debugger.proofs.breakpoints.Breakpoints.are_met.Goals as goal

-- a stream past the machine's room is idle
pub returns-in_default-stream : goal.returns-in_default-stream
returns-in_default-stream g c =
    let idle = stream_seen_is g.row.S c.args.machine.now c.in-Some.step None c.image.ensures.kept
    c.in_default-stream.ensures in
    let test : StreamValue → Bool = λ s.
    is_running s && has_place c.args.self.now c.in-Some.step.p s.ssw.pc in
    ap test idle
    ∙ sym (ap (λ n. is_met (has_place c.args.self.now) c.args.machine.now.world n) c.in-Some.is)
