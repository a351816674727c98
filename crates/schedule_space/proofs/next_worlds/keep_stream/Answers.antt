use Rattle.std.proofs.Common.{rules}
use Rattle.schedule_space.specs.declared.known_steps.Places.{Places}
use Rattle.schedule_space.proofs.AlikeSteps.{told_in}
use Rattle.schedule_space.proofs.StreamSteps.{left_more, stream_now}
use Rattle.schedule_space.proofs.next_worlds.keep_stream.Goals as goal

pub returns : goal.returns
returns g c = λ l all asked at.
    let m = c.args.machine.now in
    let left : Places = record { content = c.in-Some.mark.content; memory = c.args.left.memory } in
    left_more m.image l c.args.contents.now c.args.steps.now c.keep.new.self c.args.asked.now left c.keep.ensures all
    (stream_now m.image l c.args.contents.now m.world c.args.step c.args.asked.now c.args.left c.in-Some.mark
    c.requires.there asked (told_in m.image m.world c.args.step.p c.requires.there c.requires.told c.args.step.s)
    (c.is_plain.ensures (search rules)) at c.in-Some.ensures)
