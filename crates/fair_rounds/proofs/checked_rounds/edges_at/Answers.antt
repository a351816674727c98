use Rattle.std.proofs.Common.{◌≡◌, ◌<◌, ◌++◌, rules, subst, sym, arith, [], ◌∷◌, length, slice_index_or, Contains}
use Rattle.std.specs.List.{All}
use Rattle.std.proofs.lemmas.List.Elements.{All-push, Contains-get_or}
use Rattle.fair_rounds.proofs.Checks.{no_edge}
use Rattle.fair_rounds.proofs.checked_rounds.edges_at.Goals as goal

pub loop-index-preserved : goal.loop-index-preserved
loop-index-preserved c =
    let edges = c.args.edges.now in
    let number = slice_index_or c.args.numbers.now c.loop-index.index 0 in
    let edge = slice_index_or edges number no_edge in
    let found = c.loop-index.found.items in
    let is : c.push.new.self.items ≡ found ++ edge ∷ [] = search rules in
    let below : number < length edges = omega arith in
    subst (All (Contains edges)) (sym is)
    (All-push (Contains edges) found edge c.loop-index.invariant (Contains-get_or edges number no_edge below))
