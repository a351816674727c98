use Rattle.std.proofs.Common.{◌≡◌, ◌<◌, ◌+◌, ◌++◌, ◌∙◌, rules, subst, sym, arith, [], ◌∷◌, length, slice_index_or}
use Rattle.starving_streams.specs.ClaimsTypes.RunCondition.{RunCondition}
use Rattle.run_answers.specs.Answers.{IsAnswer}
use Rattle.run_answers.proofs.Pushing.{AreFirstAnswers, more_answers}
use Rattle.run_answers.proofs.deciding.answers_of.Goals as goal

pub loop-number-preserved : goal.loop-number-preserved
loop-number-preserved g c = λ plain.
    let v = c.args.space.now in
    let rests = c.args.rests.now in
    let asked = c.args.asked.now in
    let n = c.loop-number.number in
    let old = c.loop-number.answers.items in
    let answer = c.in_ok-answer_of.field-0 in
    let below : n < length asked = search rules in
    let same : c.push.new.self.items ≡ old ++ answer ∷ [] = search rules in
    let one = c.index-asked-number.result in
    let here : one ≡ slice_index_or asked n one = search rules in
    let is : IsAnswer v.image v.begin rests (slice_index_or asked n one) answer =
    subst (λ (q : RunCondition). IsAnswer v.image v.begin rests q answer)
    here
    (c.in_ok-answer_of.ensures.is plain rests (c.in_ok-graph.ensures.is plain)) in
    subst (AreFirstAnswers v.image v.begin rests asked (n + 1)) (sym same)
    (more_answers v.image v.begin rests asked n old one answer below is (c.loop-number.invariant plain))

pub returns-clause-are : goal.returns-clause-are
returns-clause-are g c = λ plain.
    let first = c.loop-number.invariant plain in
    let all : c.loop-number.number ≡ length c.args.asked.now = search rules in
    record {
      many = first.many ∙ all;
      each = λ k l a below. first.each k l a (omega (arith, below, all));
    }
