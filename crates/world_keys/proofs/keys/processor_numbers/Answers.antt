use Rattle.std.proofs.Common.{◌≤◌, length, ◌∷◌, ◌++◌, [], ap, sym, ◌∙◌, arith, option_copied}
use Rattle.std.proofs.lemmas.List.{take_all}
use Rattle.image_file.specs.ImageValue.{ImageValue}
use Rattle.dead_registers.specs.Clearing.{cleared_stream, cleared}
use Rattle.world_keys.specs.WorldKeys.{processor_in, stream_mark, stream_marks}
use Rattle.world_keys.proofs.Places.{extends_refl, extends_trans}
use Rattle.world_keys.proofs.Marks.{known_more, marks_more}
use Rattle.world_keys.proofs.Readings.{slims, seen, reserved, counted, held}
use Rattle.world_keys.proofs.keys.processor_numbers.Goals as goal

pub loop-s-init : goal.loop-s-init
unfolding stream_marks
loop-s-init g c =
    let first =
    reserved c.args.live.now c.args.machine.now.world c.args.p c.unwrap-sres.result c.requires
    (sym c.counts.ensures.is ∙ c.unwrap-sres.ensures) in
    record {
      grown = extends_refl c.args.contents.now;
      known = λ k below. absurd (omega arith);
      numbers = c.in_ok-push.ensures.items ∙ (λ i. c.new-numbers.ensures.items i ++ (c.from.ensures ∙ first) i ∷ []);
    }

pub loop-s-preserved : goal.loop-s-preserved
loop-s-preserved g c =
    let m = c.args.machine.now in
    let old = c.loop-s.contents in
    let new = c.push_mark.new.contents in
    let numbers = c.loop-s.numbers.items in
    let s = c.loop-s.s in
    let l = c.args.live.now in
    let stream = cleared_stream l c.unwrap-stream.result.now in
    let proc = processor_in (cleared l m.world) c.args.p in
    let grown = c.in_ok-push_mark.ensures.grown in
    let known = c.loop-s.invariant.known in
    let many = slims l g.row.S m c.args.p c.image.ensures.kept c.requires in
    let end = c.slim-s-end.ensures.is ∙ ap (λ (i : ImageValue). i.slim) c.image.ensures.is in
    let at =
    seen l g.row.S m c.args.p s c.unwrap-stream.result.now c.image.ensures.kept c.requires (omega (arith, end, c.loop-s-test.true))
    (sym c.stream.ensures ∙ ap option_copied c.unwrap-stream.ensures) in
    record {
      grown = extends_trans c.args.contents.now old new c.loop-s.invariant.grown grown;
      known = known_more old new proc.streams s stream grown known at c.in_ok-push_mark.ensures.known;
      numbers =
          marks_more old new proc.streams s proc.sres stream numbers c.push_mark.new.numbers.items grown
          (omega (arith, end, many, c.loop-s-test.true)) known at c.loop-s.invariant.numbers
          (c.in_ok-push_mark.ensures.is
          ∙ ap (λ k. numbers ++ stream_mark new k stream) c.from-in-loop-s.ensures);
    }

pub returns-clause-is : goal.returns-clause-is
returns-clause-is g c =
    let m = c.args.machine.now in
    let proc = processor_in (cleared c.args.live.now m.world) c.args.p in
    let end = c.slim-s-end.ensures.is ∙ ap (λ (i : ImageValue). i.slim) c.image.ensures.is in
    let many = slims c.args.live.now g.row.S m c.args.p c.image.ensures.kept c.requires in
    let past : length proc.streams ≤ c.loop-s.s = omega (arith, end, many, c.loop-s-test.false) in
    c.loop-s.invariant.numbers
    ∙ ap (λ ss. proc.sres ∷ stream_marks c.loop-s.contents 0 ss) (take_all c.loop-s.s proc.streams past)

pub returns-clause-held : goal.returns-clause-held
returns-clause-held g c =
    let end = c.slim-s-end.ensures.is ∙ ap (λ (i : ImageValue). i.slim) c.image.ensures.is in
    held c.args.live.now g.row.S c.args.machine.now c.args.p c.loop-s.s c.loop-s.contents c.image.ensures.kept c.requires
    (counted c.args.live.now c.args.machine.now.world c.args.p c.requires c.counts.ensures.counts)
    (omega (arith, end, c.loop-s-test.false)) c.loop-s.invariant.known
