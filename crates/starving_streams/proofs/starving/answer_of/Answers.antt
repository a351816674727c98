use Rattle.std.proofs.Common.{rules, List}
use Rattle.claims.specs.declared.run_conditions.Rest.{Rest}
use Rattle.std.specs.Result.{IfOk}
use Rattle.std.proofs.lemmas.Result.{IfOk-weaker}
use Rattle.schedule_space.specs.Spaces.{count}
use Rattle.fair_rounds.specs.declared.graphs.Answer.TheVariants.{Found, Absent}
use Rattle.fair_rounds.specs.Rounds.{IsStarvingAnswer}
use Rattle.starving_streams.specs.Reports.{HasAllStates}
use Rattle.starving_streams.specs.Graphs.{IsGraph, IsShownAs, IsStreamAnswer, AreMarksBy}
use Rattle.starving_streams.proofs.Telling.{never_by, shown_by}
use Rattle.starving_streams.proofs.starving.answer_of.Goals as goal

pub returns-in-Absent : goal.returns-in-Absent
returns-in-Absent c = λ plain rests is.
    let v = c.args.space.now in
    let g = c.args.graph.now in
    let who = c.args.who in
    let marks = c.in_ok-within.within.items in
    let by : AreMarksBy g.dues.items (count v) who marks = search rules in
    let none : IsStarvingAnswer g.edges.items g.dues.items marks who Absent = search rules in
    never_by v g who marks plain rests is by none

pub returns-in-Found : goal.returns-in-Found
returns-in-Found c =
    let v = c.args.space.now in
    let g = c.args.graph.now in
    let who = c.args.who in
    let marks = c.in_ok-within.within.items in
    let r = c.in-Found.round in
    let by : AreMarksBy g.dues.items (count v) who marks = search rules in
    let found : IsStarvingAnswer g.edges.items g.dues.items marks who (Found r) = search rules in
    let given : IfOk c.starving_in.result (λ a. IsShownAs v who r a) = search rules in
    IfOk-weaker c.starving_in.result (λ a. IsShownAs v who r a)
    (λ a. HasAllStates v → (rests : List Rest) → IsGraph v rests g → IsStreamAnswer v.image v.begin rests who a)
    (λ a shown plain rests is. shown_by v g who marks plain rests is by r found a shown) given
