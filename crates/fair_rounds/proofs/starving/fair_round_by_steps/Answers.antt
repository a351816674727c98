use Rattle.std.proofs.Common.{rules, map}
use Rattle.std.specs.Result.{IfOk}
use Rattle.std.proofs.lemmas.Result.{IfOk-weaker}
use Rattle.fair_rounds.specs.Rounds.{IsAnswer, IsFairByWords, IsFairBySteps}
use Rattle.fair_rounds.specs.Starving.{at_rest}
use Rattle.fair_rounds.proofs.Starved.{by_steps}
use Rattle.fair_rounds.proofs.starving.fair_round_by_steps.Goals as goal

pub returns : goal.returns
returns c =
    let edges = c.args.edges.now in
    let resting = map at_rest c.args.standings.now in
    let set = c.args.within.now in
    let given : IfOk c.fair_round.result (λ a. IsAnswer edges set (IsFairByWords resting) a) = search rules in
    IfOk-weaker c.fair_round.result (λ a. IsAnswer edges set (IsFairByWords resting) a)
    (λ a. IsAnswer edges set (IsFairBySteps c.args.standings.now) a)
    (λ a is. by_steps edges c.args.standings.now set a is) given
