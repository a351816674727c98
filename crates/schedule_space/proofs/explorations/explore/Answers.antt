use Rattle.std.proofs.Common.{true, replicate}
use Rattle.schedule_space.specs.declared.expanding.Wanted.TheVariants as wanted
use Rattle.schedule_space.proofs.Explored.{all_named, complete_if, edges_if, distinct_if, missing_if, alone_in}
use Rattle.schedule_space.proofs.explorations.explore.Goals as goal

pub returns-clause-complete : goal.returns-clause-complete
returns-clause-complete g c =
    complete_if (replicate 32 true) wanted.Worlds c.search.result all_named c.search.ensures.names c.search.ensures.alone
    c.search.ensures.live c.search.ensures.expanded

pub returns-clause-edges : goal.returns-clause-edges
returns-clause-edges g c =
    edges_if (replicate 32 true) wanted.Worlds c.search.result all_named c.search.ensures.names c.search.ensures.alone
    c.search.ensures.expanded c.search.ensures.distinct c.search.ensures.edges

pub returns-clause-distinct : goal.returns-clause-distinct
returns-clause-distinct g c = distinct_if c.search.result c.search.ensures.distinct

pub returns-clause-alone : goal.returns-clause-alone
returns-clause-alone g c =
    alone_in (replicate 32 true) c.search.result all_named c.search.ensures.names c.search.ensures.alone

pub returns-clause-missing : goal.returns-clause-missing
returns-clause-missing g c = missing_if c.args.most c.search.result c.search.ensures.full
