use Rattle.std.proofs.Common.{◌≡◌, ◌∙◌, ap, subst, rules, arith, length, refl}
use Rattle.std.proofs.lemmas.Option.{slice_get_read, slice_get_within}
use Rattle.end_kinds.specs.declared.statuses.Status.TheVariants as status
use Rattle.program_searches.specs.Statuses.{worst}
use Rattle.judgements.specs.Statuses.{statuses_of}
use Rattle.judgements.specs.Verdicts.{AreCasesJudged, IsWorst, IsKindAt}
use Rattle.judgements.proofs.CaseFaults.{fault_at_case}
use Rattle.judgements.proofs.Pushed.{one_more}
use Rattle.judgements.proofs.Right.{all_right, all_done}
use Rattle.judgements.proofs.submissions.judged_submission.Goals as goal

pub loop-place-preserved : goal.loop-place-preserved
loop-place-preserved g c =
    let cases = c.args.cases.now in
    let place = c.loop-place.place in
    let case = c.index-cases-place.result in
    let before = c.loop-place.invariant in
    let there = slice_get_read cases (length cases) place case refl c.loop-place-test.true c.index-cases-place.is in
    rw c.in_ok-push-in-Ok.ensures.items (one_more c.args.asked c.args.submission.image.now c.args.submission.text.now
    cases c.loop-place.judged.items place case c.in-Ok.judgement before.0 before.1 there c.in-Ok.ensures.known)

pub kind_at-kind-requires : goal.kind_at-kind-requires
kind_at-kind-requires g c =
    let most : IsWorst c.loop-place.judged.items c.worst_of-worst.result =
    subst (λ x. IsWorst x c.worst_of-worst.result) c.deref.ensures.value c.worst_of-worst.ensures in
    rw c.deref-2.ensures.value (slice_get_within c.loop-place.judged.items c.worst_of-worst.result most.worst most.there)

pub returns : goal.returns
returns g c =
    let asked = c.args.asked in
    let image = c.args.submission.image.now in
    let text = c.args.submission.text.now in
    let cases = c.args.cases.now in
    let js = c.loop-place.judged.items in
    let place = c.worst_of-worst.result in
    let before = c.loop-place.invariant in
    let judged : AreCasesJudged asked image text cases js = record {
      some = search rules;
      count = search rules;
      each = λ k case j read found.
          let within = slice_get_within cases k case read in
          before.1 k case j (omega (arith, within, c.loop-place-test.false)) read found;
    } in
    let most : IsWorst js place = subst (λ x. IsWorst x place) c.deref.ensures.value c.worst_of-worst.ensures in
    let kind : IsKindAt js place c.kind_at-kind.result =
    subst (λ x. IsKindAt x place c.kind_at-kind.result) c.deref-2.ensures.value c.kind_at-kind.ensures in
    let is : c.status_of-status.result ≡ worst status.Done (statuses_of js) =
    c.status_of-status.ensures ∙ ap (λ x. worst status.Done (statuses_of x)) c.deref-3.ensures.value in
    record {
      cases = judged;
      worst = most;
      kind = kind;
      status = is;
      right = λ right. all_right asked image text cases js place judged most c.kind_at-kind.result kind right;
      done = λ done. all_done asked image text cases js place judged most c.status_of-status.result is done;
      no_case = tt {0};
      fault = tt {0};
    }

pub returns-in-Err-clause-fault : goal.returns-in-Err-clause-fault
returns-in-Err-clause-fault g c =
    let cases = c.args.cases.now in
    let place = c.loop-place.place in
    let case = c.index-cases-place.result in
    fault_at_case c.args.asked c.args.submission.image.now c.args.submission.text.now cases place case c.in-Err.fault
    c.of_case.result (slice_get_read cases (length cases) place case refl c.loop-place-test.true c.index-cases-place.is)
    c.in-Err.ensures.fault c.of_case.ensures
