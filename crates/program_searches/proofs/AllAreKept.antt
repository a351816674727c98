-- What a search says of conditions on runs.
use Rattle.std.specs.Prelude.{IsTrue, IfSome, Option, None, Some, ◌||◌, ◌==◌}
use Rattle.std.proofs.Common.{◌≡◌, inl, inr, eqb-true, List, [], ◌∷◌, length, subst, arith}
use Rattle.std.proofs.lemmas.Bool.{or_cases}
use Rattle.image_file.specs.ImageValue.{ImageValue}
use Rattle.processor.specs.declared.steps.Step.{Step}
use Rattle.endless_waits.specs.RunAnswersTypes.RunCondition.{RunCondition}
use Rattle.endless_waits.specs.RunAnswersTypes.Rest.{Rest}
use Rattle.space_ends.specs.ScheduleSpace.Spaces.{SpaceValue}
use Rattle.endless_waits.specs.Kept.{AllKept, IsSoOfKept}
use Rattle.endless_waits.specs.declared.kept.KeptConditions.{KeptConditions}
use Rattle.program_searches.specs.Kept.{says_all_kept}

-- what is said of a space is so of the program whose space it is
pub kept_of_program : (image : ImageValue) (begin : List Step) (rests : List Rest) (v : SpaceValue) (asked : List RunCondition)
    (l : Option KeptConditions) → v.image ≡ image → v.begin ≡ begin → IfSome l (IsSoOfKept v.image v.begin rests asked)
    → IfSome l (IsSoOfKept image begin rests asked)
kept_of_program image begin rests v asked l image_is begin_is so =
    subst (λ (i : ImageValue). IfSome l (IsSoOfKept i begin rests asked)) image_is
    (subst (λ (ts : List Step). IfSome l (IsSoOfKept v.image ts rests asked)) begin_is so)

all_said : (image : ImageValue) (begin : List Step) (rests : List Rest) (asked : List RunCondition) (l : Option KeptConditions)
    → IfSome l (IsSoOfKept image begin rests asked) → IsTrue (says_all_kept l) → AllKept image begin rests asked
all_said image begin rests asked None so is = let off : ⊥ = cc in absurd off
all_said image begin rests asked (Some l) so is = so.all is

-- if it is said where it is required, all runs keep each condition
pub all_kept : (image : ImageValue) (begin : List Step) (rests : List Rest) (asked : List RunCondition) (l : Option KeptConditions)
    → IfSome l (IsSoOfKept image begin rests asked) → IsTrue (length asked == 0 || says_all_kept l)
    → AllKept image begin rests asked
all_kept image begin rests [] l so is = λ x there. absurd (let below = there.1 in omega (arith, below))
all_kept image begin rests (a ∷ more) l so is = elim (or_cases (length (a ∷ more) == 0) (says_all_kept l) is) [
  | inl none ↦ absurd (let zero : length (a ∷ more) ≡ 0 = eqb-true (length (a ∷ more)) 0 none in omega (arith, zero))
  | inr said ↦ all_said image begin rests (a ∷ more) l so said
]
