use Rattle.std.proofs.Common.{◌≡◌, ◌<◌, rules, true, Contains}
use Rattle.std.specs.List.{All}
use Rattle.fair_rounds.specs.Rounds.{IsIn}
use Rattle.fair_rounds.specs.Checks.{walks}
use Rattle.fair_rounds.specs.Entries.{entries}
use Rattle.fair_rounds.proofs.Checks.{walk_by}
use Rattle.fair_rounds.proofs.entries.way_by.Goals as goal

pub returns : goal.returns
returns c =
    let edges = c.args.ways.edges.now in
    let within = c.args.ways.within.now in
    let begin = c.begin_of-begin.result in
    let way = c.in_ok-edges.edges.items in
    let place = c.end_of-place.result in
    let all : All (Contains edges) way = search rules in
    let is : walks within begin way place ≡ true = search rules in
    let here : IsIn c.args.ways.begins.now begin = search rules in
    let many : c.args.most < entries c.args.inside.now way = search rules in
    record { begins_at = here; walk = walk_by edges within way begin place all is; more = many }
