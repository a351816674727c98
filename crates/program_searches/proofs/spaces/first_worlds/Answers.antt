use Rattle.std.proofs.Common.{subst}
use Rattle.program_searches.specs.Searches.{IsSearched}
use Rattle.program_searches.specs.declared.searches.ProgramSearch.{ProgramSearch}
use Rattle.program_searches.proofs.Knowing.{of_first}
use Rattle.program_searches.proofs.spaces.first_worlds.Goals as goal

pub returns-clause-searched : goal.returns-clause-searched
returns-clause-searched g c =
    of_first c.args.asked.now c.args.most c.in_ok-space.space c.in_ok-space._bound
    (subst (λ (f : ProgramSearch). IsSearched f c.in_ok-space.space c.in_ok-space._bound) c.for_first-first.ensures
    c.in_ok-space.ensures.searched)
