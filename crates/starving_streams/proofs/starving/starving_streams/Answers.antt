use Rattle.std.proofs.Common.{◌≡◌, ◌<◌, rules, subst, length, slice_index_or}
use Rattle.std.proofs.lemmas.List.{get_or_read}
use Rattle.processor.specs.declared.steps.Step.{Step}
use Rattle.starving_streams.specs.Graphs.{IsStreamAnswer, IsAdded}
use Rattle.starving_streams.proofs.Telling.{tells_none, tells_more, tells_all}
use Rattle.starving_streams.proofs.starving.starving_streams.Goals as goal

pub loop-number-init : goal.loop-number-init
loop-number-init g c = λ plain.
    tells_none c.args.space.now.image c.args.space.now.begin c.args.rests.now c.in_ok-graph.graph.streams.items _ (search rules)

pub loop-number-preserved : goal.loop-number-preserved
loop-number-preserved g c = λ plain.
    let v = c.args.space.now in
    let rests = c.args.rests.now in
    let streams = c.in_ok-graph.graph.streams.items in
    let n = c.loop-number.number in
    let none : Step = record { p = 0; s = 0 } in
    let answer = c.in_ok-answer.answer in
    let below : n < length streams = search rules in
    let here : c.index-who.result.now ≡ slice_index_or streams n none =
    get_or_read streams n c.index-who.result.now below c.index-who.ensures none in
    let is : IsStreamAnswer v.image v.begin rests (slice_index_or streams n none) answer =
    subst (λ (u : Step). IsStreamAnswer v.image v.begin rests u answer) here
    (c.in_ok-answer.ensures plain rests (c.in_ok-graph.ensures.is plain)) in
    let added : IsAdded (slice_index_or streams n none) answer c.loop-number.report c.add_answer.new.report =
    subst (λ (u : Step). IsAdded u answer c.loop-number.report c.add_answer.new.report) here
    c.in_ok-add_answer.ensures in
    tells_more v.image v.begin rests streams c.loop-number.report c.add_answer.new.report n none answer below
    (c.loop-number.invariant plain) is added

pub returns-clause-tells : goal.returns-clause-tells
returns-clause-tells g c = λ plain.
    tells_all c.args.space.now c.args.rests.now c.in_ok-graph.graph c.loop-number.number c.loop-number.report plain
    (c.in_ok-graph.ensures.is plain) (search rules) (c.loop-number.invariant plain)
