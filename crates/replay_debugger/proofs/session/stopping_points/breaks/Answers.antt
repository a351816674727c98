use Rattle.std.proofs.Common.{◌==◌, ◌&&◌, Bool, sym, ap, ◌∙◌, None}
use Rattle.stream_core.specs.Streams.{StreamValue}
use Rattle.processor.specs.Records.{is_running}
use Rattle.replay_debugger.specs.Stops.{is_met}
use Rattle.replay_debugger.proofs.StreamsSeen.{stream_seen_is}
use Rattle.replay_debugger.proofs.session.stopping_points.breaks.Goals as goal

-- a stream past the machine's room is idle
pub returns-in_default-stream : goal.returns-in_default-stream
returns-in_default-stream g c =
    let idle = stream_seen_is g.row.S c.args.machine.now c.in-Some.step None c.image.ensures.kept
    c.in_default-stream.ensures in
    let test : StreamValue → Bool = λ s.
    is_running s && ((c.in-Some.step.p == c.args.p) && (s.ssw.pc == c.args.pc)) in
    ap test idle
    ∙ sym (ap (λ n. is_met (λ q at. (q == c.args.p) && (at == c.args.pc)) c.args.machine.now.world n) c.in-Some.is)
