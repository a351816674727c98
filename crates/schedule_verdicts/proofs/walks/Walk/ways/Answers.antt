use Rattle.std.proofs.Common.{◌≡◌, ◌<◌, ◌∙◌, ap, sym, subst, rules, length, get_or}
use Rattle.std.proofs.lemmas.List.Elements.{All-push}
use Rattle.busy_streams.specs.ScheduleSpaceTypes.Edge.{Edge}
use Rattle.schedule_verdicts.specs.Walking.{WalkValue, IsWay, AreWays}
use Rattle.schedule_verdicts.proofs.LeadingOn.{way_among}
use Rattle.schedule_verdicts.proofs.walks.Walk.ways.Goals as goal
use Rattle.schedule_verdicts.proofs.walks.Walk.ways.Goals.{then-has+in_ok-push, else-has}

pub loop-number-preserved : goal.loop-number-preserved
loop-number-preserved g c =
    let v = c.args.self.now.space in
    let place = c.args.self.now.place in
    let es = c.edges-edges.result.now in
    let n = c.loop-number.number in
    let none : Edge = record { from = 0; step = record { p = 0; s = 0 }; to = 0 } in
    let edge = get_or es n none in
    let below : n < length es = search rules in
    let from : edge.from ≡ c.self.inside.place = search rules in
    let way : IsWay v place edge =
    subst (λ (x : WalkValue). IsWay x.space x.place edge) c.self.view_is
    (way_among c.self.inside.space.now c.edges-edges.ensures.live c.edges-edges.ensures.each es
    c.edges-edges.ensures.edges n none c.self.inside.place below from) in
    elim c.if-has.branch [
      | then-has+in_ok-push w ↦
          subst (AreWays v place) (sym (ap (λ p. p.items) w.ways-is ∙ w.in_ok-push.ensures.items))
          (All-push (IsWay v place) c.loop-number.ways.items edge c.loop-number.invariant way)
      | else-has w ↦ subst (AreWays v place) (sym (ap (λ p. p.items) w.ways-is)) c.loop-number.invariant
    ]
