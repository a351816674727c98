use Rattle.program_searches.proofs.Knowing.{of_worlds}
use Rattle.program_searches.proofs.spaces.all_worlds.Goals as goal

pub returns-in-Ok-clause-searched : goal.returns-in-Ok-clause-searched
returns-in-Ok-clause-searched g c =
    of_worlds c.args.asked.now c.most_worlds.result c.in-Ok.exploration c.ended_by.result.0 c.ended_by.result.1
    c.ended_by.ensures.space c.ended_by.ensures.bound c.most_worlds.ensures.is c.in-Ok.ensures.within c.in-Ok.ensures.full
    c.requires c.in-Ok.ensures.complete c.in-Ok.ensures.edges c.in-Ok.ensures.distinct c.in-Ok.ensures.alone
    c.in-Ok.ensures.shortest c.in-Ok.ensures.missing
