use Rattle.std.proofs.Common.{◌≡◌, rules, subst, sym, List, map, IfOk}
use Rattle.fair_rounds.specs.declared.graphs.Standing.{Standing}
use Rattle.fair_rounds.specs.Lassos.{IsLassoAnswer}
use Rattle.fair_rounds.specs.Starving.{at_rest}
use Rattle.starving_streams.specs.ClaimsTypes.Fairness.{Fairness}
use Rattle.run_answers.specs.Marks.{standings_for}
use Rattle.run_answers.proofs.deciding.fair_lasso.Goals as goal

pub returns-in-ByWords : goal.returns-in-ByWords
returns-in-ByWords c =
    let ways = c.args.ways in
    let given : IfOk c.find_lasso.result (λ a. IsLassoAnswer ways.edges.now c.args.standings.now ways.within.now ways.begins.now a) =
    search rules in
    subst (λ (f : Fairness). IfOk c.find_lasso.result (λ a.
    IsLassoAnswer ways.edges.now (standings_for f c.args.standings.now) ways.within.now ways.begins.now a)) (sym c.in-ByWords.is) given

pub returns-in_ok-resting-in-BySteps : goal.returns-in_ok-resting-in-BySteps
returns-in_ok-resting-in-BySteps c =
    let ways = c.args.ways in
    let resting = c.in_ok-resting-in-BySteps.resting.items in
    let same : resting ≡ map at_rest c.args.standings.now = search rules in
    let given : IfOk c.find_lasso-in-BySteps.result (λ a.
    IsLassoAnswer ways.edges.now resting ways.within.now ways.begins.now a) = search rules in
    subst (λ (f : Fairness). IfOk c.find_lasso-in-BySteps.result (λ a.
    IsLassoAnswer ways.edges.now (standings_for f c.args.standings.now) ways.within.now ways.begins.now a)) (sym c.in-BySteps.is)
    (subst (λ (ss : List Standing). IfOk c.find_lasso-in-BySteps.result (λ a.
    IsLassoAnswer ways.edges.now ss ways.within.now ways.begins.now a)) same given)
