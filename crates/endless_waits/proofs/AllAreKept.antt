-- What answers say of all conditions.
use Rattle.std.proofs.Common.{◌≡◌, ℕ, zero, suc, ◌<◌, subst, arith, true, List, [], ◌∷◌, length, slice_index_or}
use Rattle.std.specs.Prelude.{IsTrue}
use Rattle.std.specs.List.{list_all}
use Rattle.std.proofs.lemmas.Bool.{and_parts}
use Rattle.image_file.specs.ImageValue.{ImageValue}
use Rattle.processor.specs.declared.steps.Step.{Step}
use Rattle.run_answers.specs.ConditionsTypes.RunCondition.{RunCondition}
use Rattle.run_answers.specs.ConditionsTypes.Rest.{Rest}
use Rattle.run_answers.specs.Answers.{IsAnswer, IsKept}
use Rattle.run_answers.specs.declared.answers.RunAnswer.{RunAnswer}
use Rattle.run_answers.specs.declared.answers.RunAnswer.TheVariants as answer
use Rattle.endless_waits.specs.Kept.{is_kept, are_all_kept, TellsWhatIsKept, AllKept}
use Rattle.endless_waits.specs.declared.kept.KeptConditions.{KeptConditions}
use Rattle.endless_waits.specs.declared.kept.KeptConditions.TheVariants as kept

all_at : (answers : List RunAnswer) → list_all is_kept answers ≡ true → (k : ℕ) → k < length answers
    → is_kept (slice_index_or answers k answer.Kept) ≡ true
all_at [] all k below = absurd (omega (arith, below))
all_at (a ∷ more) all zero below = (and_parts (is_kept a) (list_all is_kept more) all).0
all_at (a ∷ more) all (suc k) below = all_at more (and_parts (is_kept a) (list_all is_kept more) all).1 k (omega (arith, below))

kept_by : (image : ImageValue) (begin : List Step) (rests : List Rest) (l : RunCondition) (a : RunAnswer) → IsAnswer image begin rests l a
    → is_kept a ≡ true → IsKept image begin rests l
kept_by image begin rests l (answer.Evaded r) is all = let off : ⊥ = cc in absurd off
kept_by image begin rests l answer.Kept is all = is
kept_by image begin rests l answer.Undecided is all = let off : ⊥ = cc in absurd off

-- if each answer is that all runs keep a condition, they keep all
pub all_kept_by : (image : ImageValue) (begin : List Step) (rests : List Rest) (asked : List RunCondition) (l : KeptConditions)
    → TellsWhatIsKept image begin rests asked l → IsTrue (are_all_kept l) → AllKept image begin rests asked
all_kept_by image begin rests asked (kept.Answered answers) tells all = λ l there.
    let below = there.1 in
    let many = tells.many in
    subst (IsKept image begin rests) there.2
    (kept_by image begin rests (slice_index_or asked there.0 l) (slice_index_or answers.items there.0 answer.Kept)
    (tells.each there.0 l answer.Kept below) (all_at answers.items all there.0 (omega (arith, below, many))))
all_kept_by image begin rests asked (kept.Unanswered u) tells all = let off : ⊥ = cc in absurd off
