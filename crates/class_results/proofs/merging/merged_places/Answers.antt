use Rattle.std.proofs.Common.{◌≡◌, ◌<◌, ◌≤◌, ℕ, length, get_or, None, Some, arith, subst, sym, ◌∙◌, length-set}
use Rattle.std.proofs.lemmas.Bool.{cases_eq}
use Rattle.class_results.specs.Merging.{IsFoundAt, AreAlike}
use Rattle.class_results.proofs.Places.{past_end, put_in, left_out, alike_more, alike_beyond, they_differ, same_default}
use Rattle.class_results.proofs.merging.merged_places.Goals as goal
use Rattle.class_results.proofs.merging.merged_places.Goals.{then-place-len+in_default, else-place-len}

pub loop-index-preserved : goal.loop-index-preserved
loop-index-preserved c =
    elim c.if-place-len.branch [
      | then-place-len+in_default w ↦
          let kept = c.args.kept.now in
          let found = c.loop-index.found.items in
          let index = c.loop-index.index in
          let place = (get_or kept index past_end).place in
          let below : place < c.args.count = omega (arith, w.if-place-len.true, c.len.ensures, c.loop-index.invariant.0) in
          let within : place < length found = omega (arith, below, c.loop-index.invariant.0) in
          let known : w.index.result.now ≡ get_or found place None = w.index.ensures ∙ same_default found place _ None within in
          rw w.found-is (
            length-set c.loop-index.found.items _ _ ∙ c.loop-index.invariant.0,
            λ p below. put_in c.args.kept.now c.loop-index.found.items c.loop-index.index c.args.count past_end c.loop-index-test.true c.loop-index.invariant.0 c.loop-index.invariant.1 p below (cases_eq _ p),
            alike_more kept index c.args.count past_end w.index.result.now
                (subst (λ o. IsFoundAt kept index place o) (sym known) (c.loop-index.invariant.1 place below))
                w.in_default.ensures.none c.loop-index.invariant.2,
          )
      | else-place-len w ↦
          let le : c.args.count ≤ (get_or c.args.kept.now c.loop-index.index past_end).place = omega (arith, w.if-place-len.false, c.len.ensures, c.loop-index.invariant.0) in
          rw w.found-is (
            c.loop-index.invariant.0,
            left_out c.args.kept.now c.loop-index.found.items c.loop-index.index c.args.count past_end le c.loop-index.invariant.1,
            alike_beyond c.args.kept.now c.loop-index.index c.args.count past_end le c.loop-index.invariant.2,
          )
    ]

pub returns-clause-found : goal.returns-clause-found
returns-clause-found c =
    let end : length c.args.kept.now ≡ c.loop-index.index = omega (arith, c.loop-index-test.false, c.loop-index.auto.index-end) in
    subst (λ m. (p : ℕ) → p < c.args.count → IsFoundAt c.args.kept.now m p (get_or c.loop-index.found.items p None)) (sym end) c.loop-index.invariant.1

pub returns-clause-alike : goal.returns-clause-alike
returns-clause-alike c =
    let end : length c.args.kept.now ≡ c.loop-index.index = omega (arith, c.loop-index-test.false, c.loop-index.auto.index-end) in
    subst (λ m. AreAlike c.args.kept.now m c.args.count) (sym end) c.loop-index.invariant.2

pub returns-in-Some-clause-differ : goal.returns-in-Some-clause-differ
returns-in-Some-clause-differ c =
    let kept = c.args.kept.now in
    let found = c.loop-index.found.items in
    let index = c.loop-index.index in
    let place = (get_or kept index past_end).place in
    let below : place < c.args.count = omega (arith, c.if-place-len.true, c.len.ensures, c.loop-index.invariant.0) in
    let within : place < length found = omega (arith, below, c.loop-index.invariant.0) in
    let known : get_or found place None ≡ Some c.in-Some.known = sym (c.index.ensures ∙ same_default found place _ None within) ∙ c.in-Some.ensures.known in
    they_differ kept index c.args.count c.in-Some.known past_end c.loop-index-test.true below
    (subst (λ o. IsFoundAt kept index place o) known (c.loop-index.invariant.1 place below)) c.in-Some.ensures.differs
