-- as many entries as are left can be made from the places of this level
use Rattle.fair_rounds.proofs.Entering.{IsLevel}
use Rattle.fair_rounds.proofs.entries.find_entries.Given as goal

abbrev pub invariant-loop-level : goal.invariant-loop-level
invariant-loop-level l =
    IsLevel l.ways.edges.now l.ways.within.now l.ways.begins.now l.inside l.most l.level l.begins.items
