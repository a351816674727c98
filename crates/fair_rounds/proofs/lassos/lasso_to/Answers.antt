use Rattle.std.proofs.Common.{◌≡◌, rules, refl, true, Contains}
use Rattle.std.specs.List.{All}
use Rattle.fair_rounds.specs.Rounds.{IsIn}
use Rattle.fair_rounds.specs.Checks.{walks}
use Rattle.fair_rounds.proofs.Checks.{walk_by}
use Rattle.fair_rounds.proofs.lassos.lasso_to.Goals as goal

pub returns : goal.returns
returns c =
    let edges = c.args.ways.edges.now in
    let within = c.args.ways.within.now in
    let begin = c.begin_of-begin.result in
    let way = c.in_ok-way.way.items in
    let all : All (Contains edges) way = search rules in
    let is : walks within begin way c.args.place ≡ true = search rules in
    let here : IsIn c.args.ways.begins.now begin = search rules in
    (here, walk_by edges within way begin c.args.place all is, refl, refl)
