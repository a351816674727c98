-- A run that a search shows first evades a condition, as it is shown.
use Rattle.std.specs.Prelude.{IfSome, Option, None, Some, false}
use Rattle.std.specs.List.{list_any}
use Rattle.std.proofs.Common.{◌≡◌, ◌∙◌, ◌++◌, ◌≤◌, ◌<◌, ◌+◌, ℕ, suc, List, [], ◌∷◌, length, refl, sym, ap, subst, arith, slice_index_or, drop}
use Rattle.std.proofs.lemmas.List.{at_drop_more, at_drop_all}
use Rattle.std.proofs.lemmas.Option.{slice_get-get_or}
use Rattle.image_file.specs.ImageValue.{ImageValue}
use Rattle.processor.specs.World.{run}
use Rattle.processor.specs.declared.steps.Step.{Step}
use Rattle.claims.specs.declared.claim.ClaimForm.TheVariants as form
use Rattle.claims.specs.declared.claim.WordTest.TheVariants as test
use Rattle.expectation_files.specs.declared.requirements.Requirements.{Requirements}
use Rattle.program_searches.specs.Kept.{is_evaded}
use Rattle.program_searches.specs.RunAnswers.Kept.{IsSoOfKept}
use Rattle.program_searches.specs.RunAnswersTypes.Rest.{Rest}
use Rattle.program_searches.specs.RunAnswers.Leading.{Evades}
use Rattle.program_searches.specs.RunAnswers.Overtaking.{IsOvertaken}
use Rattle.program_searches.specs.RunAnswers.Answers.{round_of, IsEvadedBy, IsShown, IsAnswer}
use Rattle.program_searches.specs.RunAnswersTypes.EvadingRun.{EvadingRun}
use Rattle.program_searches.specs.RunAnswersTypes.RunCondition.{RunCondition}
use Rattle.program_searches.specs.RunAnswersTypes.RunCondition.TheVariants as condition
use Rattle.program_searches.specs.RunAnswersTypes.Fairness.TheVariants as fairness
use Rattle.program_searches.specs.RunAnswersTypes.RunAnswer.{RunAnswer}
use Rattle.program_searches.specs.RunAnswersTypes.RunAnswer.TheVariants as answer
use Rattle.program_searches.specs.RunAnswersTypes.KeptConditions.{KeptConditions}
use Rattle.program_searches.specs.RunAnswersTypes.KeptConditions.TheVariants as kept
use Rattle.program_searches.specs.declared.explored.Explored.{Explored}
use Rattle.judgements.specs.Shown.{SearchLimits, IsFound, IsEvadedBySchedules}
use Rattle.judgements.specs.Evaded.{IsSameRun, IsFirstEvasion, answers_in}
use Rattle.judgements.specs.declared.evaded.Evasion.{Evasion}
use Rattle.judgements.specs.declared.verdict_kinds.VerdictKind.TheVariants as verdict

-- Going through answers.

-- the first run of answers that are left is the first of all, and some of those has one where some of all do
pub record IsLeft (answers : List RunAnswer) (n : ℕ) : Type 0 where
  pub first : (e : Evasion) → IsFirstEvasion n (drop n answers) e → IsFirstEvasion 0 answers e
  pub some : list_any is_evaded answers ≡ list_any is_evaded (drop n answers)

pub all_left : (answers : List RunAnswer) → IsLeft answers 0
all_left answers = record { first = λ e is. is; some = refl }

passed : (a : RunAnswer) (more : List RunAnswer) (n : ℕ) (e : Evasion) → is_evaded a ≡ false
    → IsFirstEvasion (n + 1) more e → IsFirstEvasion n (a ∷ more) e
passed (answer.Evaded r) more n e none is = absurd cc
passed answer.Kept more n e none is = is
passed answer.Undecided more n e none is = is

none_passed : (a : RunAnswer) (more : List RunAnswer) → is_evaded a ≡ false
    → list_any is_evaded (a ∷ more) ≡ list_any is_evaded more
none_passed (answer.Evaded r) more none = absurd cc
none_passed answer.Kept more none = refl
none_passed answer.Undecided more none = refl

-- without one that has no run
pub left_more : (answers : List RunAnswer) (n : ℕ) (d : RunAnswer) → n < length answers
    → is_evaded (slice_index_or answers n d) ≡ false → IsLeft answers n → IsLeft answers (n + 1)
left_more answers n d below none left = record {
  first = λ e is.
      left.first e
      (subst (λ (more : List RunAnswer). IsFirstEvasion n more e) (sym (at_drop_more (λ (more : List RunAnswer). more) answers n d below))
      (passed (slice_index_or answers n d) (drop (n + 1) answers) n e none is));
  some =
      left.some
      ∙ at_drop_more (list_any is_evaded) answers n d below
      ∙ none_passed (slice_index_or answers n d) (drop (n + 1) answers) none;
}

-- one that has a run is the first
pub left_first : (answers : List RunAnswer) (n : ℕ) (r : EvadingRun) (e : Evasion) → n < length answers
    → slice_index_or answers n (answer.Evaded r) ≡ answer.Evaded r → e.place ≡ n → IsSameRun r e.run → IsLeft answers n
    → IsFirstEvasion 0 answers e
left_first answers n r e below is at same left =
    left.first e
    (subst (λ (more : List RunAnswer). IsFirstEvasion n more e)
    (sym (at_drop_more (λ (more : List RunAnswer). more) answers n (answer.Evaded r) below))
    (subst (λ (a : RunAnswer). IsFirstEvasion n (a ∷ drop (n + 1) answers) e) (sym is) (at, same)))

pub none_left : (answers : List RunAnswer) (n : ℕ) → length answers ≤ n → IsLeft answers n
    → list_any is_evaded answers ≡ false
none_left answers n all left = left.some ∙ at_drop_all (list_any is_evaded) answers n all

-- What is shown.

-- a copy evades the same condition
copied_evasion : (image : ImageValue) (rests : List Rest) (asked : RunCondition) (x y : EvadingRun) → IsSameRun x y → IsEvadedBy image rests x asked
    → IsEvadedBy image rests y asked
copied_evasion image rests (condition.Leads l f) x y same is = record {
  evades =
      subst (λ (o : Option (List Step)). Evades image rests f l y.stem.items y.way.items o) (sym same.end.round)
      (subst (λ (ts : List Step). Evades image rests f l y.stem.items ts (round_of x.end)) (sym same.way)
      (subst (λ (ts : List Step). Evades image rests f l ts x.way.items (round_of x.end)) (sym same.stem) is.evades));
  ends = same.end.anything ∙ is.ends;
}
copied_evasion image rests (condition.Overtaken o) x y same is = record {
  overtaken = (
    is.overtaken.0,
    same.way ∙ is.overtaken.1,
    subst (λ (ts : List Step). IsOvertaken image o ts is.overtaken.0) (sym same.stem) is.overtaken.2,
  );
  anything = same.end.anything ∙ is.anything;
}

-- what is shown of a run is so of a copy
copied : (image : ImageValue) (begin : List Step) (rests : List Rest) (asked : RunCondition) (x y : EvadingRun) → IsSameRun x y
    → IsShown image begin rests asked x → IsShown image begin rests asked y
copied image begin rests asked x y same shown = record {
  stem = record {
    begins = (shown.stem.begins.0, same.stem ∙ shown.stem.begins.1);
    shortest = λ ts leads.
        subst (λ (us : List Step). length us ≤ length (begin ++ ts)) (sym same.stem)
        (shown.stem.shortest ts (leads ∙ ap (run image) same.stem));
  };
  evaded = copied_evasion image rests asked x y same shown.evaded;
}

module _ (image : ImageValue) (begin : List Step) (rests : List Rest) (asked : List RunCondition) (l : RunCondition) (e : Evasion) where
  -- the first run of answers of which the first is that of the question of this number
  first_of : (n : ℕ) (answers : List RunAnswer)
      → ((k j : ℕ) (a : RunAnswer) → k < length answers → j ≡ n + k
      → IsAnswer image begin rests (slice_index_or asked j l) (slice_index_or answers k a)) → length answers + n ≡ length asked
      → IsFirstEvasion n answers e
      → (e.place < length asked) × IsShown image begin rests (slice_index_or asked e.place l) e.run
  first_of n [] each many first = absurd first
  first_of n (answer.Evaded r ∷ more) each many (at, same) = (
    omega (arith, at, many),
    copied image begin rests (slice_index_or asked e.place l) r e.run same
        (each 0 e.place (answer.Evaded r) (omega arith) (omega (arith, at))),
  )
  first_of n (answer.Kept ∷ more) each many first =
      first_of (n + 1) more (λ k j a below at. each (suc k) j a (omega (arith, below)) (omega (arith, at)))
      (omega (arith, many)) first
  first_of n (answer.Undecided ∷ more) each many first =
      first_of (n + 1) more (λ k j a below at. each (suc k) j a (omega (arith, below)) (omega (arith, at)))
      (omega (arith, many)) first

  shown_by : (o : Option KeptConditions) → IfSome o (IsSoOfKept image begin rests asked) → IsFirstEvasion 0 (answers_in o) e
      → (e.place < length asked) × IsShown image begin rests (slice_index_or asked e.place l) e.run
  shown_by None so first = absurd first
  shown_by (Some (kept.Answered answers)) so first =
      let many = so.tells.many in
      first_of 0 answers.items (λ k j a below at.
      subst (λ (i : ℕ). IsAnswer image begin rests (slice_index_or asked i l) (slice_index_or answers.items k a))
      (let same : k ≡ j = omega (arith, at) in same) (so.tells.each k l a (omega (arith, below, many)))) (omega (arith, many)) first
  shown_by (Some (kept.Unanswered u)) so first = absurd first

-- some condition
some_condition : RunCondition
some_condition = condition.Leads (record { from = form.Word 0 test.Full; to = form.Word 0 test.Full }) fairness.ByWords

-- a search shows a run that evades a condition that is required
pub evaded : (limits : Option SearchLimits) (image : ImageValue) (required : Requirements) (found : Explored) (e : Evasion)
    → IsFound limits image required found → IsFirstEvasion 0 (answers_in found.kept) e
    → IsEvadedBySchedules limits image required verdict.Wrong e
evaded None image required found e search first = absurd search
evaded (Some limits) image required found e search first = record {
  found = found;
  search = search;
  first = first;
  asked = slice_index_or required.run_conditions.items e.place some_condition;
  which = slice_get-get_or required.run_conditions.items e.place some_condition here.0;
  shown = here.1;
  verdict = refl;
} where
  here : (e.place < length required.run_conditions.items)
      × IsShown image [] required.rests.items (slice_index_or required.run_conditions.items e.place some_condition) e.run
  here =
      subst (λ (begin : List Step). (e.place < length required.run_conditions.items)
      × IsShown image begin required.rests.items (slice_index_or required.run_conditions.items e.place some_condition) e.run) search.begin
      (subst (λ (r : Requirements). (e.place < length r.run_conditions.items)
      × IsShown image search.search.begin.now r.rests.items (slice_index_or r.run_conditions.items e.place some_condition) e.run) search.asked
      (shown_by image search.search.begin.now search.search.required.now.rests.items search.search.required.now.run_conditions.items some_condition e found.kept
      search.explored.conditions.so first))
