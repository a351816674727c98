use Rattle.std.proofs.Common.{◌+◌, ◌*◌, get_or, arith}
use Rattle.std.proofs.lemmas.Option.{slice_get-get_or, get_or_from_slice_get}
use Rattle.processor.specs.Processors.{stream_at}
use Rattle.schedule_space.proofs.KeyStreams.{busy_at, runs_within, marked_place, known_busy}
use Rattle.schedule_space.proofs.key_streams.running_by_mark.Goals as goal
use Rattle.schedule_space.proofs.key_streams.running_by_mark.Goals.{else-s-from-via-then-s-from+else-is_running_at, else-s-from-via-else-s-from}

pub returns-clause-runs : goal.returns-clause-runs
returns-clause-runs c = λ proc held read s is runs.
    let t = c.args.contents.now in
    let marks = c.args.marks.now in
    let k = c.args.mark in
    let within = runs_within proc.streams s runs in
    elim c.else-s-from.branch [
      | else-s-from-via-then-s-from+else-is_running_at w ↦
          let has = known_busy t (stream_at proc.streams s) (busy_at proc.streams s runs) (held.streams s within) in
          let place =
          marked_place t proc marks s k (get_or marks (2 * k + 2) 0) read is (slice_get-get_or marks (2 * k + 2) 0 c.requires) in
          let on = w.is_running_at.ensures (stream_at proc.streams s) place has.0 has.1 runs in
          absurd cc
      | else-s-from-via-else-s-from w ↦ absurd (omega (arith, within, held.slim, get_or_from_slice_get marks (2 * k + 1) s 0 is, w.if-s-from.false))
    ]
