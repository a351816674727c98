use Rattle.std.proofs.Common.{arith}
use Rattle.std.proofs.lemmas.Grind.{common_steps}
use Rattle.reachable_places.proofs.Searches.{step_smaller, step_all, all_followed}
use Rattle.reachable_places.proofs.search.found_places.Goals as goal

pub loop-place-smaller : goal.loop-place-smaller
loop-place-smaller c =
    step_smaller c.loop-place.search.places.items c.follow.new.self.places.items c.loop-place.search.left.items
    c.pop.new.self.items c.follow.new.self.left.items c.in-Some.place c.successors_at-successors.result
    c.in-Some.ensures.items c.in_ok-follow.ensures.places c.in_ok-follow.ensures.left

pub loop-place-preserved : goal.loop-place-preserved
loop-place-preserved c =
    step_all c.args.image.now c.loop-place.search.places.items c.follow.new.self.places.items c.loop-place.search.left.items
    c.pop.new.self.items c.follow.new.self.left.items c.in-Some.place c.successors_at-successors.result
    c.in-Some.ensures.items (grind (arith, common_steps)) c.in_ok-follow.ensures.places c.in_ok-follow.ensures.left
    c.loop-place.invariant

pub returns : goal.returns
returns c =
    all_followed c.args.image.now c.loop-place.search.places.items c.loop-place.search.left.items
    (grind (arith, common_steps)) c.loop-place.invariant.1 c.loop-place.invariant.0
