use Rattle.std.proofs.Common.{◌≡◌, ◌<◌, refl, sym, ap, ◌∙◌, subst, arith, Some, List, length}
use Rattle.std.specs.Prelude.{slice_get}
use Rattle.std.proofs.lemmas.Option.{same_Some, slice_get_read}
use Rattle.seed_outcomes.specs.Outcomes.{AreOfOneLine}
use Rattle.seed_outcomes.specs.Adding.{to_known}
use Rattle.seed_outcomes.specs.declared.outcomes.SeedOutcome.{SeedOutcome}
use Rattle.seed_outcomes.proofs.adding.add_outcome.Goals as goal

pub returns-in-Some : goal.returns-in-Some
returns-in-Some c =
    let known = c.args.outcomes.now.items in
    let place = c.in-Some.place in
    let old = c.index_mut.result.now in
    let found = c.in-Some.ensures.known in
    let within : place < length known =
    subst (λ (os : List SeedOutcome). place < length os) c.deref.ensures.value c.in-Some.ensures.within in
    let there : slice_get known place ≡ Some old =
    slice_get_read known _ place old refl within c.index_mut.ensures.value in
    let read : slice_get known place ≡ Some c.index.result.now =
    slice_get_read known _ place c.index.result.now refl within c.index.ensures in
    let at : slice_get known place ≡ Some found.0 =
    ap (λ (os : List SeedOutcome). slice_get os place) (sym c.deref.ensures.value) ∙ found.1 in
    let runs : c.index.result.now.runs ≡ old.runs =
    ap (λ (o : SeedOutcome). o.runs) (same_Some c.index.result.now old (sym read ∙ there)) in
    let most = c.saturating_add.ensures in
    to_known (record {
      place = place;
      old = old;
      runs = c.saturating_add.result;
      there = there;
      line = subst (λ (o : SeedOutcome). AreOfOneLine o c.args.outcome) (same_Some found.0 old (sym at ∙ there)) found.2;
      sum = λ room. omega (arith, runs, most, room);
      is = refl;
    })
