use Rattle.whole_runs.specs.PlaceLists.{target_place}
use Rattle.whole_runs.proofs.Noting.{each_more, each_end}
use Rattle.whole_runs.proofs.differences.note_targets.Goals as goal

pub loop-number-preserved : goal.loop-number-preserved
loop-number-preserved g c = λ new rest.
    c.loop-number.invariant new
    (each_more c.args.one.now.world c.args.other.now.world (target_place c.args.p c.args.s) 8 c.loop-number.number
    c.loop-number.found.items c.note_part.new.found.items new c.loop-number-test.true c.in_ok-note_part.ensures rest)

pub returns : goal.returns
returns g c =
    c.loop-number.invariant c.loop-number.found.items
    (each_end c.args.one.now.world c.args.other.now.world (target_place c.args.p c.args.s) 8 c.loop-number.number
    c.loop-number.found.items c.loop-number-test.false)
