use Rattle.std.proofs.Common.{◌++◌, ap, ◌∙◌, arith}
use Rattle.image_file.specs.ImageValue.{ImageValue}
use Rattle.whole_runs.specs.PlaceLists.{each, state_places, register_place, target_place, stream_places}
use Rattle.whole_runs.proofs.Noting.{told_join, each_more, each_end}
use Rattle.whole_runs.proofs.differences.note_streams.Goals as goal

pub loop-s-preserved : goal.loop-s-preserved
loop-s-preserved g c = λ new rest.
    let w = c.args.one.now.world in
    let v = c.args.other.now.world in
    let p = c.args.p in
    let s = c.loop-s.s in
    let end = c.slim-s-end.ensures.is ∙ ap (λ (i : ImageValue). i.slim) c.image.ensures.is in
    let states = state_places p s in
    let registers = each 32 0 (register_place p s) in
    let old = c.loop-s.found.items in
    let last = c.note_targets.new.found.items in
    let told =
    told_join w v (states ++ registers) (each 8 0 (target_place p s)) old c.note_registers.new.found.items last
    (told_join w v states registers old c.note_states.new.found.items c.note_registers.new.found.items
    c.in_ok-note_states.ensures c.in_ok-note_registers.ensures) c.in_ok-note_targets.ensures in
    c.loop-s.invariant new
    (each_more w v (stream_places p) c.args.one.now.image.slim s old last new
    (omega (arith, end, c.loop-s-test.true)) told rest)

pub returns : goal.returns
returns g c =
    let end = c.slim-s-end.ensures.is ∙ ap (λ (i : ImageValue). i.slim) c.image.ensures.is in
    c.loop-s.invariant c.loop-s.found.items
    (each_end c.args.one.now.world c.args.other.now.world (stream_places c.args.p) c.args.one.now.image.slim
    c.loop-s.s c.loop-s.found.items (omega (arith, end, c.loop-s-test.false)))
