use Rattle.std.proofs.Common.{◌≡◌, ◌<◌, rules, map, true, length, Contains}
use Rattle.std.specs.List.{All}
use Rattle.fair_rounds.specs.Checks.{walks, from_of, MeetsAll}
use Rattle.fair_rounds.specs.Classes.{AreMarksAt}
use Rattle.fair_rounds.proofs.Checks.{shown_by}
use Rattle.fair_rounds.proofs.checked_rounds.checked_round.Goals as goal

pub returns : goal.returns
returns c =
    let edges = c.args.edges.now in
    let set = c.args.set.now in
    let place = c.args.place in
    let round = c.in_ok-round.round.items in
    let marks = c.in_ok-passed.passed.items in
    let all : All (Contains edges) round = search rules in
    let some : 0 < length round = search rules in
    let is : walks set place round place ≡ true = search rules in
    let are : AreMarksAt (length set) (map from_of round) marks = search rules in
    let meets : MeetsAll round c.args.standings.now marks = search rules in
    shown_by edges c.args.standings.now set marks place round all some is are meets
