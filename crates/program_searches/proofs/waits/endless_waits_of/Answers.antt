use Rattle.std.proofs.Common.{◌≡◌, List, sym, subst}
use Rattle.image_file.specs.ImageValue.{ImageValue}
use Rattle.processor.specs.declared.steps.Step.{Step}
use Rattle.endless_waits.specs.StarvingStreams.Starving.{NobodyWaits}
use Rattle.endless_waits.specs.Waits.{HasExtent, TellsWhoWaits}
use Rattle.endless_waits.specs.declared.extents.SearchExtent.{SearchExtent}
use Rattle.program_searches.specs.Searches.{IsExplored}
use Rattle.program_searches.specs.Waits.{extent_of}
use Rattle.program_searches.specs.declared.explored.Explored.{Explored}
use Rattle.program_searches.specs.declared.searches.ProgramSearch.{ProgramSearch}
use Rattle.program_searches.proofs.Waiting.{has_extent}
use Rattle.program_searches.proofs.waits.endless_waits_of.Goals as goal

-- what a search says of its space is so
extent_is : (image : ImageValue) (asked : ProgramSearch) (e : Explored) (x : SearchExtent) → IsExplored image asked e
    → x ≡ extent_of e → HasExtent x e.space
extent_is image asked e x explored is =
    subst (λ (y : SearchExtent). HasExtent y e.space) (sym is)
    (has_extent asked e.space e.bound explored.searched e.is_of_all_worlds e.is_complete explored.all_worlds explored.bound.1)

pub returns-clause-tells : goal.returns-clause-tells
returns-clause-tells c = λ image asked explored.
    let e = c.args.found.now in
    let rests = c.args.rests.now in
    let w = c.in_ok-waits.waits in
    subst (λ (ts : List Step). TellsWhoWaits image ts rests w) explored.begin
    (subst (λ (i : ImageValue). TellsWhoWaits i e.space.begin rests w) explored.image
    (c.in_ok-waits.ensures.tells (extent_is image asked e c.extent.result explored c.extent.ensures)))

pub returns-clause-nobody : goal.returns-clause-nobody
returns-clause-nobody c = λ image asked explored is.
    let e = c.args.found.now in
    let rests = c.args.rests.now in
    subst (λ (ts : List Step). NobodyWaits image ts rests) explored.begin
    (subst (λ (i : ImageValue). NobodyWaits i e.space.begin rests) explored.image
    (c.in_ok-waits.ensures.nobody (extent_is image asked e c.extent.result explored c.extent.ensures) is))
