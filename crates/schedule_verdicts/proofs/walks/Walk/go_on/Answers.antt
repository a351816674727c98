use Rattle.std.proofs.Common.{rules, sym, subst}
use Rattle.schedule_verdicts.specs.Walking.{WalkValue, IsWay}
use Rattle.schedule_verdicts.proofs.LeadingOn.{way_at}
use Rattle.schedule_verdicts.proofs.walks.Walk.go_on.Goals as goal

pub wait_along-requires : goal.wait_along-requires
wait_along-requires g c =
    let w = c.args.self.now in
    let way = c.index.result.now in
    let on =
    subst (λ (u : WalkValue). IsWay u.space u.place way) (sym c.loop-number.invariant)
    (way_at w.space w.place c.in_ok-ways.ways.items c.loop-number.number way c.in_ok-ways.ensures (search rules)
    c.index.ensures) in
    (search rules, on)

pub step_along-requires : goal.step_along-requires
step_along-requires g c =
    let w = c.args.self.now in
    let way = c.index-2.result.now in
    let on =
    subst (λ (u : WalkValue). IsWay u.space u.place way) (sym c.loop-number.invariant)
    (way_at w.space w.place c.in_ok-ways.ways.items 0 way c.in_ok-ways.ensures (search rules) c.index-2.ensures) in
    (search rules, on)
