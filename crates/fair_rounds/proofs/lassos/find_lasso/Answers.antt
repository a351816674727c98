use Rattle.std.proofs.Common.{rules, map, length}
use Rattle.std.specs.Result.{IfOk}
use Rattle.std.proofs.lemmas.Result.{IfOk-weaker}
use Rattle.fair_rounds.specs.declared.graphs.Answer.TheVariants.{Found, Absent}
use Rattle.fair_rounds.specs.declared.lassos.Tail.TheVariants as tail
use Rattle.fair_rounds.specs.Rounds.{IsIn, IsAnswer, IsFairByWords}
use Rattle.fair_rounds.specs.Classes.{AreMarksAt, place_of}
use Rattle.fair_rounds.specs.Lassos.{IsLassoAnswer, IsShownWay, AreAmong, IsClosed}
use Rattle.fair_rounds.proofs.Ways.{stop_at, round_wider, absent_by, shown_way}
use Rattle.fair_rounds.proofs.lassos.find_lasso.Goals as goal

pub returns-in-Some : goal.returns-in-Some
returns-in-Some c =
    let edges = c.args.ways.edges.now in
    let standings = c.args.standings.now in
    let within = c.args.ways.within.now in
    let begins = c.args.ways.begins.now in
    let marks = c.in_ok-reached.reached.marks.items in
    let stands = c.in_ok-stands.stands.items in
    let stop = c.in-Some.stop in
    let closed : IsClosed edges within begins marks = search rules in
    let are : AreMarksAt (length within) (map place_of standings) stands = search rules in
    let here : IsIn marks stop × ¬ (IsIn stands stop) = search rules in
    let shown : IfOk c.lasso_to.result (λ a. IsShownWay edges within begins stop tail.Stop a) = search rules in
    IfOk-weaker c.lasso_to.result (λ a. IsShownWay edges within begins stop tail.Stop a)
    (λ a. IsLassoAnswer edges standings within begins a)
    (shown_way edges standings within begins stop tail.Stop
    (stop_at edges within marks begins closed standings stands are stop here.0 here.1)) shown

pub returns-in-Found : goal.returns-in-Found
returns-in-Found c =
    let edges = c.args.ways.edges.now in
    let standings = c.args.standings.now in
    let within = c.args.ways.within.now in
    let begins = c.args.ways.begins.now in
    let marks = c.in_ok-reached.reached.marks.items in
    let round = c.in-Found.round in
    let closed : IsClosed edges within begins marks = search rules in
    let found : IsAnswer edges marks (λ es. IsFairByWords standings es) (Found round) = search rules in
    let shown : IfOk c.lasso_to-in-Found.result (λ a. IsShownWay edges within begins round.place (tail.Round round.edges) a) =
    search rules in
    IfOk-weaker c.lasso_to-in-Found.result (λ a. IsShownWay edges within begins round.place (tail.Round round.edges) a)
    (λ a. IsLassoAnswer edges standings within begins a)
    (shown_way edges standings within begins round.place (tail.Round round.edges)
    (round_wider edges within marks round.edges.items round.place closed.within found.0, found.1)) shown

pub returns-in-Absent : goal.returns-in-Absent
returns-in-Absent c =
    let edges = c.args.ways.edges.now in
    let standings = c.args.standings.now in
    let within = c.args.ways.within.now in
    let begins = c.args.ways.begins.now in
    let marks = c.in_ok-reached.reached.marks.items in
    let stands = c.in_ok-stands.stands.items in
    let closed : IsClosed edges within begins marks = search rules in
    let are : AreMarksAt (length within) (map place_of standings) stands = search rules in
    let among : AreAmong marks stands = search rules in
    let none : IsAnswer edges marks (λ es. IsFairByWords standings es) Absent = search rules in
    absent_by edges within marks begins closed standings stands are among none
