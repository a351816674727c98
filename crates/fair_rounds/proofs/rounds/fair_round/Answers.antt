use Rattle.std.proofs.Common.{rules}
use Rattle.fair_rounds.specs.Classes.{KeepsRounds, IsEmpty}
use Rattle.fair_rounds.proofs.Removal.{none_by}
use Rattle.fair_rounds.proofs.rounds.fair_round.Goals as goal

pub returns-in_default : goal.returns-in_default
returns-in_default c =
    let edges = c.args.edges.now in
    let standings = c.args.standings.now in
    let within = c.args.within.now in
    let set = c.in_ok-set.set.items in
    let keeps : KeepsRounds edges standings within set = search rules in
    let none : IsEmpty set = search rules in
    none_by edges standings within set keeps none
