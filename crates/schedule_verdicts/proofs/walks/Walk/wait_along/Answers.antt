use Rattle.std.proofs.Common.{rules, refl, sym, subst}
use Rattle.schedule_verdicts.specs.Walking.{WalkValue, IsAt, machine_next}
use Rattle.schedule_verdicts.proofs.LeadingOn.{step_at, with_machine, without_machine}
use Rattle.schedule_verdicts.proofs.walks.Walk.wait_along.Goals as goal

pub wait_at-requires : goal.wait_at-requires
wait_at-requires g c =
    let u = c.args.self.now in
    let w : WalkValue = record {
      space = c.self.inside.space.now;
      place = c.self.inside.place;
      machine = c.self.inside.machine;
    } in
    let way = c.args.way in
    let next = machine_next w.machine way.step in
    let at : IsAt u.space way.to next =
    subst (λ (x : WalkValue). IsAt x.space way.to next) c.self.view_is
    (step_at w u way next c.self.view_is c.requires c.self.invariant.0 refl) in
    (search rules, (search rules, without_machine u.space way.to at.there))

pub wait_at-requires-2 : goal.wait_at-requires-2
wait_at-requires-2 g c =
    let u = c.args.self.now in
    let w : WalkValue = record {
      space = c.self.inside.space.now;
      place = c.self.inside.place;
      machine = c.self.inside.machine;
    } in
    let way = c.args.way in
    let next = machine_next w.machine way.step in
    let at : IsAt u.space way.to next =
    subst (λ (x : WalkValue). IsAt x.space way.to next) c.self.view_is
    (step_at w u way next c.self.view_is c.requires c.self.invariant.0 refl) in (
      search rules,
      (
        search rules,
        with_machine u.space way.to c.in_ok-copy.copy
            (subst (IsAt u.space way.to) (sym c.in_ok-copy.ensures) at),
      ),
    )
