use Rattle.std.proofs.Common.{◌≡◌, Option, subst, rules}
use Rattle.std.specs.Prelude.{IfSome}
use Rattle.schedule_space.specs.declared.known_steps.Places.{Places}
use Rattle.schedule_space.specs.Before.{IsBehind}
use Rattle.schedule_space.proofs.Before.{before_kept, places_stay}
use Rattle.schedule_space.proofs.key_streams.is_moving.Goals as goal

pub returns-clause-moves : goal.returns-clause-moves
returns-clause-moves c = λ live m before on stays.
    let seen = c.args.seen.now in
    let new = c.left_if_known.new.seen in
    let key = c.args.key.now in
    let later =
    before_kept live seen.contents new.contents seen.steps new.steps m key c.left_if_known.ensures.grown
    (c.left_if_known.ensures.steps live m before) before in
    let behind : IsBehind live new.contents m c.args.step c.in-Some.left =
    subst (λ (o : Option Places). IfSome o (IsBehind live new.contents m c.args.step)) c.in-Some.is
    (c.in_ok-left.ensures.left live m before) in
    let same : c.in-Some.left ≡ c.places_in.result =
    places_stay live new.contents new.steps m key c.args.step c.places_in.result c.in-Some.left later (search rules)
    c.places_in.ensures.content c.places_in.ensures.memory behind stays in
    search rules
