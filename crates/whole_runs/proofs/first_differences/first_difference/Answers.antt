use Rattle.std.proofs.Common.{◌≡◌, ℕ, ◌+◌, ap, sym, ◌∙◌, subst, arith, true, false}
use Rattle.processor.specs.World.{World}
use Rattle.machine.specs.MachineValue.{MachineValue}
use Rattle.step_views.specs.Changes.{AreChanges}
use Rattle.whole_runs.specs.FirstDifferences.{world_at}
use Rattle.whole_runs.proofs.Positions.{IsAt, at_next, of_one_image, alike_shared, alike_next}
use Rattle.whole_runs.proofs.first_differences.first_difference.Goals as goal

pub loop-place-init : goal.loop-place-init
loop-place-init g c = record {
  image_is = ap (λ (m : MachineValue). m.image) c.in_ok-first.ensures.is;
  world = ap (λ (m : MachineValue). m.world) c.in_ok-first.ensures.is;
}

pub loop-place-preserved : goal.loop-place-preserved
loop-place-preserved g c =
    at_next c.args.image.now c.args.one.now c.loop-place.place c.loop-place.first c.take_step_at.new.machine
    c.loop-place.invariant c.take_step_at.ensures

pub loop-index-init : goal.loop-index-init
loop-index-init g c =
    let image = c.args.image.now in
    let one = c.args.one.now in
    let other = c.args.other.now in
    let same = c.shared_steps-same.result in
    let stop : c.loop-place.place ≡ same = omega (arith, c.loop-place-test.false, c.loop-place.auto.place-end) in
    let first : IsAt image one same c.loop-place.first =
    subst (λ (k : ℕ). IsAt image one k c.loop-place.first) stop c.loop-place.invariant in
    let alike = alike_shared image one other same c.shared_steps-same.ensures.same in
    record {
      first = first;
      second = record {
        image_is = ap (λ (m : MachineValue). m.image) c.in_ok-second.ensures ∙ first.image_is;
        world =
            ap (λ (m : MachineValue). m.world) c.in_ok-second.ensures ∙ first.world ∙ alike same (omega arith);
      };
      alike = alike;
    }

pub is_same_world-requires : goal.is_same_world-requires
is_same_world-requires g c =
    let image = c.args.image.now in
    let index = c.loop-index.index in
    let first = c.take_both.new.first in
    let second = c.take_both.new.second in
    let at =
    at_next image c.args.one.now index c.loop-index.first first c.loop-index.invariant.first c.take_both.ensures.one in
    let to =
    at_next image c.args.other.now index c.loop-index.second second c.loop-index.invariant.second
    c.take_both.ensures.other in
    (omega arith, (omega arith, of_one_image image c.args.one.now c.args.other.now (index + 1) first second at to))

pub world_differences-requires : goal.world_differences-requires
world_differences-requires g c =
    let image = c.args.image.now in
    let index = c.loop-index.index in
    let first = c.take_both.new.first in
    let second = c.take_both.new.second in
    let at =
    at_next image c.args.one.now index c.loop-index.first first c.loop-index.invariant.first c.take_both.ensures.one in
    let to =
    at_next image c.args.other.now index c.loop-index.second second c.loop-index.invariant.second
    c.take_both.ensures.other in
    (omega arith, (omega arith, of_one_image image c.args.one.now c.args.other.now (index + 1) first second at to))

pub returns-then-not-is_same_world-clause-is : goal.returns-then-not-is_same_world-clause-is
returns-then-not-is_same_world-clause-is g c =
    let image = c.args.image.now in
    let one = c.args.one.now in
    let other = c.args.other.now in
    let index = c.loop-index.index in
    let first = c.take_both.new.first in
    let second = c.take_both.new.second in
    let found = c.in_ok-places.places.items in
    let at = at_next image one index c.loop-index.first first c.loop-index.invariant.first c.take_both.ensures.one in
    let to =
    at_next image other index c.loop-index.second second c.loop-index.invariant.second c.take_both.ensures.other in
    record {
      differs = λ same.
          let f : true ≡ false =
          sym (c.is_same_world.ensures.1 (at.world ∙ same ∙ sym to.world)) ∙ c.if-not-is_same_world.true in
          let z : ⊥ = cc in z;
      first = λ k below. c.loop-index.invariant.alike k (omega (arith, below));
      places =
          subst (λ (w : World). AreChanges w (world_at image other (index + 1)) found) at.world
          (subst (λ (w : World). AreChanges first.world w found) to.world c.in_ok-places.ensures.changes);
    }

pub loop-index-preserved : goal.loop-index-preserved
loop-index-preserved g c =
    let image = c.args.image.now in
    let one = c.args.one.now in
    let other = c.args.other.now in
    let index = c.loop-index.index in
    let first = c.take_both.new.first in
    let second = c.take_both.new.second in
    let at = at_next image one index c.loop-index.first first c.loop-index.invariant.first c.take_both.ensures.one in
    let to =
    at_next image other index c.loop-index.second second c.loop-index.invariant.second c.take_both.ensures.other in
    record {
      first = at;
      second = to;
      alike = alike_next image one other index c.loop-index.invariant.alike
          (sym at.world ∙ c.is_same_world.ensures.0 c.if-not-is_same_world.false ∙ to.world);
    }
