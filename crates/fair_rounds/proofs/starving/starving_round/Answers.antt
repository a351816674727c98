use Rattle.std.proofs.Common.{rules, filter}
use Rattle.std.specs.Result.{IfOk}
use Rattle.std.proofs.lemmas.Result.{IfOk-weaker}
use Rattle.fair_rounds.specs.Rounds.{IsAnswer, IsStarvingAnswer, IsFairByWords}
use Rattle.fair_rounds.specs.Starving.{is_left}
use Rattle.fair_rounds.proofs.Starved.{starving_by}
use Rattle.fair_rounds.proofs.starving.starving_round.Goals as goal

pub returns : goal.returns
returns c =
    let left = filter (is_left c.args.who) c.args.edges.now in
    let standings = c.args.standings.now in
    let set = c.args.within.now in
    let given : IfOk c.fair_round.result (λ a. IsAnswer left set (IsFairByWords standings) a) = search rules in
    IfOk-weaker c.fair_round.result (λ a. IsAnswer left set (IsFairByWords standings) a)
    (λ a. IsStarvingAnswer c.args.edges.now standings set c.args.who a)
    (λ a is. starving_by c.args.edges.now standings set c.args.who a is) given
