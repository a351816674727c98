-- A stream that a search shows first can wait forever, as it is shown.
use Rattle.std.specs.Prelude.{IsSome, IfSome, Option, None, Some, is_some, Contains}
use Rattle.std.proofs.Common.{◌≡◌, ◌∙◌, ◌++◌, ◌≤◌, true, List, [], ◌∷◌, length, refl, sym, ap, subst, arith}
use Rattle.image_file.specs.ImageValue.{ImageValue}
use Rattle.processor.specs.World.{run}
use Rattle.processor.specs.declared.steps.Step.{Step}
use Rattle.expectation_files.specs.declared.requirements.Requirements.{Requirements}
use Rattle.program_searches.specs.EndlessWaits.Waits.{IsSoOfWaits}
use Rattle.program_searches.specs.EndlessWaitsTypes.EndlessWaits.{EndlessWaits}
use Rattle.program_searches.specs.EndlessWaitsTypes.EndlessWaits.TheVariants as waits
use Rattle.program_searches.specs.StarvingStreams.Reports.{IsShown}
use Rattle.program_searches.specs.StarvingStreams.Starving.{Starves}
use Rattle.program_searches.specs.StarvingStreamsTypes.Starving.{Starving}
use Rattle.program_searches.specs.RunAnswersTypes.Rest.{Rest}
use Rattle.program_searches.specs.Waits.{starving_in}
use Rattle.program_searches.specs.declared.explored.Explored.{Explored}
use Rattle.judgements.specs.Shown.{SearchLimits, IsFound, IsStarvedBySchedules}
use Rattle.judgements.specs.Starved.{IsSameStarving, IsFirstStarving}
use Rattle.judgements.specs.declared.verdict_kinds.VerdictKind.TheVariants as verdict

head_in : (x : Starving) (xs : List Starving) → Contains (x ∷ xs) x
head_in x xs = (0, omega arith, refl)

-- what is shown of one is so of a copy
copied : (image : ImageValue) (begin : List Step) (rests : List Rest) (x y : Starving) → IsSameStarving x y → IsShown image begin rests x
    → IsShown image begin rests y
copied image begin rests x y same shown = record {
  begins = (shown.begins.0, same.stem ∙ shown.begins.1);
  starves =
      subst (λ (ts : List Step). Starves image rests (run image y.stem.items) y.stream ts) (sym same.round)
      (subst (λ (t : Step). Starves image rests (run image y.stem.items) t x.round.items) (sym same.stream)
      (subst (λ (ts : List Step). Starves image rests (run image ts) x.stream x.round.items) (sym same.stem) shown.starves));
  shortest = λ ts leads.
      subst (λ (us : List Step). length us ≤ length (begin ++ ts)) (sym same.stem)
      (shown.shortest ts (leads ∙ ap (run image) same.stem));
}

-- the first of those that an answer shows
first_of : (image : ImageValue) (begin : List Step) (rests : List Rest) (xs : List Starving) (y : Starving)
    → ((x : Starving) → Contains xs x → IsShown image begin rests x) → IsFirstStarving xs y → IsShown image begin rests y
first_of image begin rests [] y shown first = absurd first
first_of image begin rests (x ∷ xs) y shown first = copied image begin rests x y first (shown x (head_in x xs))

shown_by : (image : ImageValue) (begin : List Step) (rests : List Rest) (w : Option EndlessWaits) (y : Starving)
    → IfSome w (IsSoOfWaits image begin rests) → IsFirstStarving (starving_in w) y → IsShown image begin rests y
shown_by image begin rests None y so first = absurd first
shown_by image begin rests (Some (waits.Answered r)) y so first =
    first_of image begin rests r.starving.items y so.tells.shown first
shown_by image begin rests (Some (waits.Unanswered u)) y so first = absurd first

is_asked : (w : Option EndlessWaits) (y : Starving) → IsFirstStarving (starving_in w) y → is_some w ≡ true
is_asked None y first = absurd first
is_asked (Some w) y first = refl

-- a search shows a stream that can wait forever, where it is required that none can
pub starved : (limits : Option SearchLimits) (image : ImageValue) (required : Requirements) (found : Explored) (y : Starving)
    → IsFound limits image required found → IsFirstStarving (starving_in found.waits) y
    → IsStarvedBySchedules limits image required verdict.Wrong y
starved None image required found y search first = absurd search
starved (Some limits) image required found y search first = record {
  found = found;
  search = search;
  first = first;
  asked =
      subst (λ (r : Requirements). IsSome r.never_starved) search.asked
      (sym search.explored.waits.required ∙ is_asked found.waits y first);
  shown =
      subst (λ (begin : List Step). IsShown image begin required.rests.items y) search.begin
      (subst (λ (r : Requirements). IsShown image search.search.begin.now r.rests.items y) search.asked
      (shown_by image search.search.begin.now search.search.required.now.rests.items found.waits y search.explored.waits.so first));
  verdict = refl;
}
