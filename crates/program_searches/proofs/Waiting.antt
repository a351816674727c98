-- What a search says of who can wait forever.
use Rattle.std.specs.Prelude.{IsTrue, IsSome, IfSome, Option, None, Some, is_some, not, ◌||◌}
use Rattle.std.proofs.Common.{◌≡◌, ℕ, Bool, true, false, List, refl, sym, subst}
use Rattle.image_file.specs.ImageValue.{ImageValue}
use Rattle.processor.specs.declared.steps.Step.{Step}
use Rattle.endless_waits.specs.RunAnswersTypes.Rest.{Rest}
use Rattle.space_ends.specs.ScheduleSpace.Spaces.{SpaceValue}
use Rattle.endless_waits.specs.StarvingStreams.Starving.{NobodyWaits}
use Rattle.endless_waits.specs.Waits.{HasExtent, IsSoOfWaits}
use Rattle.endless_waits.specs.declared.waits.EndlessWaits.{EndlessWaits}
use Rattle.program_searches.specs.Searches.{takes_all, IsSearched}
use Rattle.program_searches.specs.Waits.{extent_by, says_nobody}
use Rattle.program_searches.specs.declared.bounds.SearchBound.{SearchBound}
use Rattle.program_searches.specs.declared.searches.ProgramSearch.{ProgramSearch}

-- a space has what its extent says
pub has_extent : (asked : ProgramSearch) (v : SpaceValue) (b : Option SearchBound) → IsSearched asked v b
    → (all done : Bool) → all ≡ takes_all asked → (IsTrue done → b ≡ None) → HasExtent (extent_by all done) v
has_extent asked v b s true true is none =
    let worlds = s.worlds (none refl) (sym is) in
    record {
      complete = worlds.complete;
      edges = worlds.edges;
      distinct = worlds.distinct;
      shortest = s.shortest (sym is);
    }
has_extent asked v b s true false is none = tt
has_extent asked v b s false true is none = tt
has_extent asked v b s false false is none = tt

-- what is said of a space is so of the program whose space it is
pub so_of_program : (image : ImageValue) (begin : List Step) (rests : List Rest) (v : SpaceValue) (w : Option EndlessWaits) → v.image ≡ image
    → v.begin ≡ begin → IfSome w (IsSoOfWaits v.image v.begin rests) → IfSome w (IsSoOfWaits image begin rests)
so_of_program image begin rests v w image_is begin_is so =
    subst (λ (i : ImageValue). IfSome w (IsSoOfWaits i begin rests)) image_is
    (subst (λ (ts : List Step). IfSome w (IsSoOfWaits v.image ts rests)) begin_is so)

-- if it is required that nobody can wait, it is said
pub nobody_said : (asks : Option ℕ) (w : Option EndlessWaits) → IsSome asks
    → IsTrue (not (is_some asks) || says_nobody w) → IsTrue (says_nobody w)
nobody_said None w some is = cc
nobody_said (Some k) w some is = is

-- and if that is said, nobody can
pub nobody_waits : (image : ImageValue) (begin : List Step) (rests : List Rest) (w : Option EndlessWaits)
    → IfSome w (IsSoOfWaits image begin rests) → IsTrue (says_nobody w) → NobodyWaits image begin rests
nobody_waits image begin rests None so is = cc
nobody_waits image begin rests (Some w) so is = so.nobody is
