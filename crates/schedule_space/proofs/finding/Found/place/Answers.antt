use Rattle.std.proofs.Common.{◌≡◌, ◌+◌, ◌<◌, ◌∙◌, refl, sym, ap, subst, arith, rules, length, Some, slice_get}
use Rattle.std.proofs.Common.{option_copied}
use Rattle.std.specs.Prelude.{IfSome}
use Rattle.image_file.specs.ImageValue.{ImageValue}
use Rattle.machine.specs.MachineValue.{MachineValue}
use Rattle.processor.specs.World.{after}
use Rattle.world_keys.specs.DeadRegisters.Clearing.{cleared}
use Rattle.world_keys.specs.Tables.{place_in, Has}
use Rattle.world_keys.specs.WorldKeys.{key_of, IsKnown}
use Rattle.schedule_space.specs.Spaces.{SpaceValue, count, schedule_of, machine_after, machine_by, StandsFor}
use Rattle.schedule_space.specs.Fates.{IsFate}
use Rattle.schedule_space.specs.Kept.{machine_at, machine_next, IsAtHand, AreKeptAt}
use Rattle.schedule_space.specs.Before.{IsBefore}
use Rattle.schedule_space.specs.Finding.{space_of}
use Rattle.schedule_space.proofs.Growing.{grown_to, count-link}
use Rattle.schedule_space.proofs.Placing.{known_at, key_of_at, live_at, told_at, steps_at, steps_back, next_image, next_world}
use Rattle.schedule_space.proofs.Making.{making_later, before_behind}
use Rattle.schedule_space.proofs.Placing.{has_key, found_at, placed, placed_view, placed_grown, placed_there, placed_stands}
use Rattle.schedule_space.proofs.Placing.{placed_expanding, full_at, kept, kept_view, stays_at, stays_expanding}
use Rattle.schedule_space.proofs.Kept.{by_route, first_by, route_there, at_hand_same, new_machine, placed_at_hand}
use Rattle.schedule_space.proofs.KeyStreams.{key_entries}
use Rattle.world_keys.proofs.Places.{extends_trans}
use Rattle.schedule_space.proofs.Before.{before_kept}
use Rattle.schedule_space.proofs.finding.Found.place.Goals as goal

pub unwrap-before-requires : goal.unwrap-before-requires
unwrap-before-requires g c =
    let w = space_of c.self.inside.image.now c.self.inside.live c.self.inside.begin.items c.self.inside.links.items c.self.inside.edges.items in
    has_key w c.args.self.now c.self.inside.seen.contents c.self.inside.keys c.args.link.from c.list.result
    c.self.invariant.found.keyed c.self.view_is c.requires.expanding.there c.list.ensures

pub key_after-requires : goal.key_after-requires
key_after-requires g c =
    let v = c.args.self.now in
    let w = space_of c.self.inside.image.now c.self.inside.live c.self.inside.begin.items c.self.inside.links.items c.self.inside.edges.items in
    let r = c.route_to-route.result in
    let m = machine_by c.args.machines.now.first.image r.begin.now r.links.now r.place in
    let at_m : m ≡ machine_after v.image (schedule_of v c.args.link.from) =
    by_route v w c.args.machines.now c.args.link.from r.begin.now r.links.now r.place c.self.view_is c.requires.machines.kept
    c.route_to-route.ensures.begin c.route_to-route.ensures.links c.route_to-route.ensures.place in
    let at : Some c.unwrap-before.result.now ≡ slice_get c.self.inside.keys c.args.link.from =
    sym (ap option_copied c.unwrap-before.ensures) ∙ c.list.ensures in (
      omega arith,
      (
        route_there w v r.links.now r.place c.args.link.from c.self.view_is c.self.invariant.found.space.earlier
            c.route_to-route.ensures.links c.route_to-route.ensures.place c.requires.expanding.there,
        (
          first_by v c.args.machines.now r.begin.now c.requires.machines.kept
              (c.route_to-route.ensures.begin ∙ ap (λ (x : SpaceValue). x.begin) c.self.view_is),
          (
            subst (λ (x : MachineValue). IsAtHand x c.args.machines.now.here) (sym at_m) c.requires.machines.here,
            record {
              is_live =
                  live_at w v c.self.inside.fates.items c.self.inside.seen.contents c.self.inside.keys c.args.link.from m
                  c.self.invariant.found c.self.view_is at_m;
              told = told_at v c.args.link.from m at_m;
              known =
                  known_at w v c.self.inside.fates.items c.self.inside.seen.contents c.self.inside.keys c.args.link.from m
                  c.self.invariant.found c.self.view_is c.requires.expanding.there at_m;
              is_key =
                  key_of_at w v c.self.inside.fates.items c.self.inside.seen.contents c.self.inside.keys
                  c.unwrap-before.result.now c.args.link.from m c.self.invariant.found c.self.view_is
                  c.requires.expanding.there at_m at;
              left =
                  steps_at w v c.self.inside.seen.contents c.self.inside.seen.steps c.args.link.from m
                  c.self.invariant.left c.self.view_is at_m;
            },
          ),
        ),
      ),
    )

pub invariant_of-self : goal.invariant_of-self
invariant_of-self g c =
    let v = c.args.self.now in
    let w = space_of c.self.inside.image.now c.self.inside.live c.self.inside.begin.items c.self.inside.links.items c.self.inside.edges.items in
    let r = c.route_to-route.result in
    let at = c.route_to-route.ensures in
    making_later v w c.self.inside.fates.items c.self.inside.seen.contents c.key_after.new.seen.contents c.self.inside.keys
    c.self.inside.seen.steps c.key_after.new.seen.steps c.args.machines.now c.args.link.from r.place r.begin.now r.links.now
    c.self.view_is c.requires.machines.kept at.begin at.links at.place c.self.invariant c.key_after.ensures.grown
    c.key_after.ensures.steps

pub invariant_of-self-in_default : goal.invariant_of-self-in_default
invariant_of-self-in_default g c =
    let v = c.args.self.now in
    let w = space_of c.self.inside.image.now c.self.inside.live c.self.inside.begin.items c.self.inside.links.items c.self.inside.edges.items in
    let r = c.route_to-route.result in
    let at = c.route_to-route.ensures in
    making_later v w c.self.inside.fates.items c.self.inside.seen.contents c.key_after.new.seen.contents c.self.inside.keys
    c.self.inside.seen.steps c.key_after.new.seen.steps c.args.machines.now c.args.link.from r.place r.begin.now r.links.now
    c.self.view_is c.requires.machines.kept at.begin at.links at.place c.self.invariant c.key_after.ensures.grown
    c.key_after.ensures.steps

pub invariant_of-self-in-Some-find : goal.invariant_of-self-in-Some-find
invariant_of-self-in-Some-find g c =
    let v = c.args.self.now in
    let w = space_of c.self.inside.image.now c.self.inside.live c.self.inside.begin.items c.self.inside.links.items c.self.inside.edges.items in
    let r = c.route_to-route.result in
    let at = c.route_to-route.ensures in
    making_later v w c.self.inside.fates.items c.self.inside.seen.contents c.key_after.new.seen.contents c.self.inside.keys
    c.self.inside.seen.steps c.key_after.new.seen.steps c.args.machines.now c.args.link.from r.place r.begin.now r.links.now
    c.self.view_is c.requires.machines.kept at.begin at.links at.place c.self.invariant c.key_after.ensures.grown
    c.key_after.ensures.steps

pub invariant_of-self-then-place-most : goal.invariant_of-self-then-place-most
invariant_of-self-then-place-most g c =
    let v = c.args.self.now in
    let w = space_of c.self.inside.image.now c.self.inside.live c.self.inside.begin.items c.self.inside.links.items c.self.inside.edges.items in
    let r = c.route_to-route.result in
    let at = c.route_to-route.ensures in
    making_later v w c.self.inside.fates.items c.self.inside.seen.contents c.key_after.new.seen.contents c.self.inside.keys
    c.self.inside.seen.steps c.key_after.new.seen.steps c.args.machines.now c.args.link.from r.place r.begin.now r.links.now
    c.self.view_is c.requires.machines.kept at.begin at.links at.place c.self.invariant c.key_after.ensures.grown
    c.key_after.ensures.steps

pub invariant_of-self-in_err-known : goal.invariant_of-self-in_err-known
invariant_of-self-in_err-known g c =
    let v = c.args.self.now in
    let w = space_of c.self.inside.image.now c.self.inside.live c.self.inside.begin.items c.self.inside.links.items c.self.inside.edges.items in
    let r = c.route_to-route.result in
    let m = machine_by c.args.machines.now.first.image r.begin.now r.links.now r.place in
    let at_m : m ≡ machine_after v.image (schedule_of v c.args.link.from) =
    by_route v w c.args.machines.now c.args.link.from r.begin.now r.links.now r.place c.self.view_is c.requires.machines.kept
    c.route_to-route.ensures.begin c.route_to-route.ensures.links c.route_to-route.ensures.place in
    let n = machine_next m c.args.link.step in
    let at = c.route_to-route.ensures in
    let known : IsKnown c.key_after.new.seen.contents n.image (cleared c.self.inside.live n.world) = search rules in
    let key_is : c.in-Some.key.items ≡ key_of c.key_after.new.seen.contents n.image (cleared c.self.inside.live n.world) =
    search rules in
    let before : IsBefore c.self.inside.live c.key_after.new.seen.contents c.key_after.new.seen.steps n c.deref-2.result.now =
    before_behind v w c.self.inside.fates.items c.self.inside.seen.contents c.key_after.new.seen.contents c.self.inside.keys
    c.self.inside.seen.steps c.key_after.new.seen.steps c.args.machines.now c.args.link.from r.place r.begin.now r.links.now
    c.self.view_is c.requires.machines.kept at.begin at.links at.place c.self.invariant c.args.link.step
    c.deref-2.result.now known (c.deref-2.ensures.value ∙ key_is) c.key_after.ensures.steps in
    making_later v w c.self.inside.fates.items c.self.inside.seen.contents c.known_fate.new.seen.contents c.self.inside.keys
    c.self.inside.seen.steps c.known_fate.new.seen.steps c.args.machines.now c.args.link.from r.place r.begin.now r.links.now
    c.self.view_is c.requires.machines.kept at.begin at.links at.place c.self.invariant
    (extends_trans c.self.inside.seen.contents c.key_after.new.seen.contents c.known_fate.new.seen.contents
    c.key_after.ensures.grown c.known_fate.ensures.grown)
    (c.known_fate.ensures.steps c.self.inside.live n before)

pub invariant_of-self-in_err-next : goal.invariant_of-self-in_err-next
invariant_of-self-in_err-next g c =
    let v = c.args.self.now in
    let w = space_of c.self.inside.image.now c.self.inside.live c.self.inside.begin.items c.self.inside.links.items c.self.inside.edges.items in
    let r = c.route_to-route.result in
    let m = machine_by c.args.machines.now.first.image r.begin.now r.links.now r.place in
    let at_m : m ≡ machine_after v.image (schedule_of v c.args.link.from) =
    by_route v w c.args.machines.now c.args.link.from r.begin.now r.links.now r.place c.self.view_is c.requires.machines.kept
    c.route_to-route.ensures.begin c.route_to-route.ensures.links c.route_to-route.ensures.place in
    let n = machine_next m c.args.link.step in
    let at = c.route_to-route.ensures in
    let known : IsKnown c.key_after.new.seen.contents n.image (cleared c.self.inside.live n.world) = search rules in
    let key_is : c.in-Some.key.items ≡ key_of c.key_after.new.seen.contents n.image (cleared c.self.inside.live n.world) =
    search rules in
    let before : IsBefore c.self.inside.live c.key_after.new.seen.contents c.key_after.new.seen.steps n c.deref-2.result.now =
    before_behind v w c.self.inside.fates.items c.self.inside.seen.contents c.key_after.new.seen.contents c.self.inside.keys
    c.self.inside.seen.steps c.key_after.new.seen.steps c.args.machines.now c.args.link.from r.place r.begin.now r.links.now
    c.self.view_is c.requires.machines.kept at.begin at.links at.place c.self.invariant c.args.link.step
    c.deref-2.result.now known (c.deref-2.ensures.value ∙ key_is) c.key_after.ensures.steps in
    making_later v w c.self.inside.fates.items c.self.inside.seen.contents c.known_fate.new.seen.contents c.self.inside.keys
    c.self.inside.seen.steps c.known_fate.new.seen.steps c.args.machines.now c.args.link.from r.place r.begin.now r.links.now
    c.self.view_is c.requires.machines.kept at.begin at.links at.place c.self.invariant
    (extends_trans c.self.inside.seen.contents c.key_after.new.seen.contents c.known_fate.new.seen.contents
    c.key_after.ensures.grown c.known_fate.ensures.grown)
    (c.known_fate.ensures.steps c.self.inside.live n before)

pub invariant_of-self-in_err-push_world : goal.invariant_of-self-in_err-push_world
invariant_of-self-in_err-push_world g c =
    let v = c.args.self.now in
    let w = space_of c.self.inside.image.now c.self.inside.live c.self.inside.begin.items c.self.inside.links.items c.self.inside.edges.items in
    let r = c.route_to-route.result in
    let m = machine_by c.args.machines.now.first.image r.begin.now r.links.now r.place in
    let at_m : m ≡ machine_after v.image (schedule_of v c.args.link.from) =
    by_route v w c.args.machines.now c.args.link.from r.begin.now r.links.now r.place c.self.view_is c.requires.machines.kept
    c.route_to-route.ensures.begin c.route_to-route.ensures.links c.route_to-route.ensures.place in
    let n = machine_next m c.args.link.step in
    let at = c.route_to-route.ensures in
    let known : IsKnown c.key_after.new.seen.contents n.image (cleared c.self.inside.live n.world) = search rules in
    let key_is : c.in-Some.key.items ≡ key_of c.key_after.new.seen.contents n.image (cleared c.self.inside.live n.world) =
    search rules in
    let before : IsBefore c.self.inside.live c.key_after.new.seen.contents c.key_after.new.seen.steps n c.deref-2.result.now =
    before_behind v w c.self.inside.fates.items c.self.inside.seen.contents c.key_after.new.seen.contents c.self.inside.keys
    c.self.inside.seen.steps c.key_after.new.seen.steps c.args.machines.now c.args.link.from r.place r.begin.now r.links.now
    c.self.view_is c.requires.machines.kept at.begin at.links at.place c.self.invariant c.args.link.step
    c.deref-2.result.now known (c.deref-2.ensures.value ∙ key_is) c.key_after.ensures.steps in
    record {
      found =
          kept c.self.inside.image.now c.self.inside.live c.self.inside.begin.items c.self.inside.links.items c.push_world.new.links.items c.self.inside.edges.items
          c.self.inside.fates.items c.push_world.new.fates.items c.self.inside.seen.contents c.known_fate.new.seen.contents
          c.self.inside.keys c.push_world.new.keys c.self.invariant.found (extends_trans c.self.inside.seen.contents c.key_after.new.seen.contents c.known_fate.new.seen.contents c.key_after.ensures.grown c.known_fate.ensures.grown)
          c.in_err-push_world.ensures.links c.in_err-push_world.ensures.fates c.in_err-push_world.ensures.keys;
      left =
          steps_back w v c.known_fate.new.seen.contents c.known_fate.new.seen.steps c.args.link.from m
          (c.known_fate.ensures.steps c.self.inside.live n before) c.self.view_is at_m;
    }

pub invariant_of-self-2 : goal.invariant_of-self-2
invariant_of-self-2 g c =
    let v = c.args.self.now in
    let w = space_of c.self.inside.image.now c.self.inside.live c.self.inside.begin.items c.self.inside.links.items c.self.inside.edges.items in
    let r = c.route_to-route.result in
    let m = machine_by c.args.machines.now.first.image r.begin.now r.links.now r.place in
    let at_m : m ≡ machine_after v.image (schedule_of v c.args.link.from) =
    by_route v w c.args.machines.now c.args.link.from r.begin.now r.links.now r.place c.self.view_is c.requires.machines.kept
    c.route_to-route.ensures.begin c.route_to-route.ensures.links c.route_to-route.ensures.place in
    let n = machine_next m c.args.link.step in
    let at = c.route_to-route.ensures in
    let known : IsKnown c.key_after.new.seen.contents n.image (cleared c.self.inside.live n.world) = search rules in
    let key_is : c.in-Some.key.items ≡ key_of c.key_after.new.seen.contents n.image (cleared c.self.inside.live n.world) =
    search rules in
    let before : IsBefore c.self.inside.live c.key_after.new.seen.contents c.key_after.new.seen.steps n c.deref-2.result.now =
    before_behind v w c.self.inside.fates.items c.self.inside.seen.contents c.key_after.new.seen.contents c.self.inside.keys
    c.self.inside.seen.steps c.key_after.new.seen.steps c.args.machines.now c.args.link.from r.place r.begin.now r.links.now
    c.self.view_is c.requires.machines.kept at.begin at.links at.place c.self.invariant c.args.link.step
    c.deref-2.result.now known (c.deref-2.ensures.value ∙ key_is) c.key_after.ensures.steps in
    let later =
    before_kept c.self.inside.live c.key_after.new.seen.contents c.known_fate.new.seen.contents c.key_after.new.seen.steps
    c.known_fate.new.seen.steps n c.deref-2.result.now c.known_fate.ensures.grown
    (c.known_fate.ensures.steps c.self.inside.live n before) before in
    let one : AreKeptAt v c.key_after.new.machines c.args.link.from =
    at_hand_same v c.args.machines.now c.key_after.new.machines c.args.link.from c.key_after.ensures.kept
    (subst (λ (x : MachineValue). IsAtHand x c.key_after.new.machines.here) at_m c.key_after.ensures.here) c.requires.machines.kept in
    let at_one : machine_by c.key_after.new.machines.first.image r.begin.now r.links.now r.place ≡ machine_at v c.args.link.from =
    by_route v w c.key_after.new.machines c.args.link.from r.begin.now r.links.now r.place c.self.view_is one.kept
    c.route_to-route.ensures.begin c.route_to-route.ensures.links c.route_to-route.ensures.place in
    let same : machine_by c.key_after.new.machines.first.image r.begin.now r.links.now r.place ≡ m = at_one ∙ sym at_m in
    let fate : IsFate n.image n.world c.in_ok-next.next.fate =
    subst (λ (x : MachineValue). IsFate x.image (after x.image x.world c.args.link.step) c.in_ok-next.next.fate) same
    c.in_ok-next.ensures.fate in
    record {
      found =
          placed c.self.inside.image.now c.self.inside.live c.self.inside.begin.items c.self.inside.links.items c.push_world.new.links.items c.self.inside.edges.items
          v c.self.inside.fates.items c.push_world.new.fates.items c.self.inside.seen.contents
          c.known_fate.new.seen.contents c.self.inside.keys c.push_world.new.keys c.in-Some.key.items c.args.link
          c.in_ok-next.next.fate n c.self.invariant.found c.self.view_is (extends_trans c.self.inside.seen.contents c.key_after.new.seen.contents c.known_fate.new.seen.contents c.key_after.ensures.grown c.known_fate.ensures.grown)
          c.requires.expanding.there c.requires.expanding.breadth (next_image v c.args.link.from m n c.args.link.step at_m refl)
          (next_world v c.args.link.from m n c.args.link.step at_m refl) fate later.known (sym c.deref-2.ensures.value ∙ later.is_key)
          (λ has.
          let e = c.in_default-find.ensures.there.1 (subst (Has c.self.inside.keys) (sym c.deref.ensures.value) has) in absurd cc)
          c.in_ok-push_world.ensures.link c.in_ok-push_world.ensures.fate c.in_ok-push_world.ensures.key;
      left =
          steps_back w v c.known_fate.new.seen.contents c.known_fate.new.seen.steps c.args.link.from m
          (c.known_fate.ensures.steps c.self.inside.live n before) c.self.view_is at_m;
    }

pub known_fate-requires : goal.known_fate-requires
known_fate-requires g c =
    let v = c.args.self.now in
    let w = space_of c.self.inside.image.now c.self.inside.live c.self.inside.begin.items c.self.inside.links.items c.self.inside.edges.items in
    let r = c.route_to-route.result in
    let m = machine_by c.args.machines.now.first.image r.begin.now r.links.now r.place in
    let at_m : m ≡ machine_after v.image (schedule_of v c.args.link.from) =
    by_route v w c.args.machines.now c.args.link.from r.begin.now r.links.now r.place c.self.view_is c.requires.machines.kept
    c.route_to-route.ensures.begin c.route_to-route.ensures.links c.route_to-route.ensures.place in
    let n = machine_next m c.args.link.step in
    let at = c.route_to-route.ensures in
    let known : IsKnown c.key_after.new.seen.contents n.image (cleared c.self.inside.live n.world) = search rules in
    let key_is : c.in-Some.key.items ≡ key_of c.key_after.new.seen.contents n.image (cleared c.self.inside.live n.world) =
    search rules in
    let before : IsBefore c.self.inside.live c.key_after.new.seen.contents c.key_after.new.seen.steps n c.deref-2.result.now =
    before_behind v w c.self.inside.fates.items c.self.inside.seen.contents c.key_after.new.seen.contents c.self.inside.keys
    c.self.inside.seen.steps c.key_after.new.seen.steps c.args.machines.now c.args.link.from r.place r.begin.now r.links.now
    c.self.view_is c.requires.machines.kept at.begin at.links at.place c.self.invariant c.args.link.step
    c.deref-2.result.now known (c.deref-2.ensures.value ∙ key_is) c.key_after.ensures.steps in
    let many : length c.in-Some.key.items ≡ length n.image.entries + 1 =
    key_entries n.image c.self.inside.live c.key_after.new.seen.contents n.world c.in-Some.key.items known key_is in
    let image : n.image ≡ c.self.inside.image.now =
    ap (λ (x : MachineValue). x.image) at_m ∙ ap (λ (x : SpaceValue). x.image) (sym c.self.view_is) in
    omega (arith, many, ap (λ (i : ImageValue). length i.entries) image, ap length c.deref-2.ensures.value)

pub next_world-requires : goal.next_world-requires
next_world-requires g c =
    let v = c.args.self.now in
    let w = space_of c.self.inside.image.now c.self.inside.live c.self.inside.begin.items c.self.inside.links.items c.self.inside.edges.items in
    let r = c.route_to-route.result in
    let m = machine_by c.args.machines.now.first.image r.begin.now r.links.now r.place in
    let at_m : m ≡ machine_after v.image (schedule_of v c.args.link.from) =
    by_route v w c.args.machines.now c.args.link.from r.begin.now r.links.now r.place c.self.view_is c.requires.machines.kept
    c.route_to-route.ensures.begin c.route_to-route.ensures.links c.route_to-route.ensures.place in
    let n = machine_next m c.args.link.step in
    let at = c.route_to-route.ensures in
    let known : IsKnown c.key_after.new.seen.contents n.image (cleared c.self.inside.live n.world) = search rules in
    let key_is : c.in-Some.key.items ≡ key_of c.key_after.new.seen.contents n.image (cleared c.self.inside.live n.world) =
    search rules in
    let before : IsBefore c.self.inside.live c.key_after.new.seen.contents c.key_after.new.seen.steps n c.deref-2.result.now =
    before_behind v w c.self.inside.fates.items c.self.inside.seen.contents c.key_after.new.seen.contents c.self.inside.keys
    c.self.inside.seen.steps c.key_after.new.seen.steps c.args.machines.now c.args.link.from r.place r.begin.now r.links.now
    c.self.view_is c.requires.machines.kept at.begin at.links at.place c.self.invariant c.args.link.step
    c.deref-2.result.now known (c.deref-2.ensures.value ∙ key_is) c.key_after.ensures.steps in
    let one : AreKeptAt v c.key_after.new.machines c.args.link.from =
    at_hand_same v c.args.machines.now c.key_after.new.machines c.args.link.from c.key_after.ensures.kept
    (subst (λ (x : MachineValue). IsAtHand x c.key_after.new.machines.here) at_m c.key_after.ensures.here) c.requires.machines.kept in
    let at_one : machine_by c.key_after.new.machines.first.image r.begin.now r.links.now r.place ≡ machine_at v c.args.link.from =
    by_route v w c.key_after.new.machines c.args.link.from r.begin.now r.links.now r.place c.self.view_is one.kept
    c.route_to-route.ensures.begin c.route_to-route.ensures.links c.route_to-route.ensures.place in
    let same : m ≡ machine_by c.key_after.new.machines.first.image r.begin.now r.links.now r.place = at_m ∙ sym at_one in
    let image : n.image ≡ c.self.inside.image.now =
    ap (λ (x : MachineValue). x.image) at_m ∙ ap (λ (x : SpaceValue). x.image) (sym c.self.view_is) in (
      omega arith,
      (
        omega arith,
        (
          route_there w v r.links.now r.place c.args.link.from c.self.view_is c.self.invariant.found.space.earlier
              c.route_to-route.ensures.links c.route_to-route.ensures.place c.requires.expanding.there,
          (
            first_by v c.key_after.new.machines r.begin.now one.kept
                (c.route_to-route.ensures.begin ∙ ap (λ (x : SpaceValue). x.begin) c.self.view_is),
            (
              subst (λ (x : MachineValue). IsAtHand x c.key_after.new.machines.here) (sym at_one) one.here,
              subst (λ (x : MachineValue). IfSome c.in_ok-known.known (IsFate x.image (after x.image x.world c.args.link.step)))
                  same (c.in_ok-known.ensures.fate c.self.inside.live n image before),
            ),
          ),
        ),
      ),
    )

pub overflow_cast-result : goal.overflow_cast-result
overflow_cast-result g c =
    let v = c.args.self.now in
    let w = space_of c.self.inside.image.now c.self.inside.live c.self.inside.begin.items c.self.inside.links.items c.self.inside.edges.items in
    let r = c.route_to-route.result in
    let m = machine_by c.args.machines.now.first.image r.begin.now r.links.now r.place in
    let at_m : m ≡ machine_after v.image (schedule_of v c.args.link.from) =
    by_route v w c.args.machines.now c.args.link.from r.begin.now r.links.now r.place c.self.view_is c.requires.machines.kept
    c.route_to-route.ensures.begin c.route_to-route.ensures.links c.route_to-route.ensures.place in
    let keys = c.self.inside.keys in
    let key = c.in-Some.key.items in
    let at : c.in-Some-find.place ≡ place_in keys key = search rules in
    let has : Has keys key = search rules in
    let n = machine_next m c.args.link.step in
    let known : IsKnown c.key_after.new.seen.contents n.image (cleared c.self.inside.live n.world) = search rules in
    let key_is : key ≡ key_of c.key_after.new.seen.contents n.image (cleared c.self.inside.live n.world) = search rules in
    let here =
    found_at w v c.self.inside.fates.items c.self.inside.seen.contents c.key_after.new.seen.contents keys key n
    c.in-Some-find.place c.self.invariant.found c.self.view_is c.key_after.ensures.grown known key_is
    (ap (λ (x : MachineValue). x.image) at_m) at has in
    omega (arith, here.0, c.requires.expanding.within)

pub returns-in_err-key-clause-grown : goal.returns-in_err-key-clause-grown
returns-in_err-key-clause-grown g c = grown_to c.args.self.now (space_of c.self.inside.image.now c.self.inside.live c.self.inside.begin.items c.self.inside.links.items c.self.inside.edges.items) c.self.view_is

pub returns-in_err-key-clause-edges : goal.returns-in_err-key-clause-edges
returns-in_err-key-clause-edges g c = ap (λ (x : SpaceValue). x.edges) c.self.view_is

pub returns-in_err-key-clause-expanding : goal.returns-in_err-key-clause-expanding
returns-in_err-key-clause-expanding g c =
    stays_expanding c.args.self.now (space_of c.self.inside.image.now c.self.inside.live c.self.inside.begin.items c.self.inside.links.items c.self.inside.edges.items)
    c.args.link.from c.args.most c.self.view_is c.requires.expanding

pub returns-in_err-known-clause-grown : goal.returns-in_err-known-clause-grown
returns-in_err-known-clause-grown g c = grown_to c.args.self.now (space_of c.self.inside.image.now c.self.inside.live c.self.inside.begin.items c.self.inside.links.items c.self.inside.edges.items) c.self.view_is

pub returns-in_err-known-clause-edges : goal.returns-in_err-known-clause-edges
returns-in_err-known-clause-edges g c = ap (λ (x : SpaceValue). x.edges) c.self.view_is

pub returns-in_err-known-clause-expanding : goal.returns-in_err-known-clause-expanding
returns-in_err-known-clause-expanding g c =
    stays_expanding c.args.self.now (space_of c.self.inside.image.now c.self.inside.live c.self.inside.begin.items c.self.inside.links.items c.self.inside.edges.items)
    c.args.link.from c.args.most c.self.view_is c.requires.expanding

pub returns-in_err-next-clause-grown : goal.returns-in_err-next-clause-grown
returns-in_err-next-clause-grown g c = grown_to c.args.self.now (space_of c.self.inside.image.now c.self.inside.live c.self.inside.begin.items c.self.inside.links.items c.self.inside.edges.items) c.self.view_is

pub returns-in_err-next-clause-edges : goal.returns-in_err-next-clause-edges
returns-in_err-next-clause-edges g c = ap (λ (x : SpaceValue). x.edges) c.self.view_is

pub returns-in_err-next-clause-expanding : goal.returns-in_err-next-clause-expanding
returns-in_err-next-clause-expanding g c =
    stays_expanding c.args.self.now (space_of c.self.inside.image.now c.self.inside.live c.self.inside.begin.items c.self.inside.links.items c.self.inside.edges.items)
    c.args.link.from c.args.most c.self.view_is c.requires.expanding

pub returns-then-place-most : goal.returns-then-place-most
returns-then-place-most g c =
    let v = c.args.self.now in
    let w = space_of c.self.inside.image.now c.self.inside.live c.self.inside.begin.items c.self.inside.links.items c.self.inside.edges.items in
    let r = c.route_to-route.result in
    let m = machine_by c.args.machines.now.first.image r.begin.now r.links.now r.place in
    let at_m : m ≡ machine_after v.image (schedule_of v c.args.link.from) =
    by_route v w c.args.machines.now c.args.link.from r.begin.now r.links.now r.place c.self.view_is c.requires.machines.kept
    c.route_to-route.ensures.begin c.route_to-route.ensures.links c.route_to-route.ensures.place in
    let n = machine_next m c.args.link.step in
    let key_is : c.in-Some.key.items ≡ key_of c.key_after.new.seen.contents n.image (cleared c.self.inside.live n.world) =
    search rules in
    let many : c.len-place.result ≡ length c.self.inside.links.items = search rules in
    record {
      grown = grown_to v w c.self.view_is;
      edges = ap (λ (x : SpaceValue). x.edges) c.self.view_is;
      expanding = stays_expanding v w c.args.link.from c.args.most c.self.view_is c.requires.expanding;
      full = λ _.
          full_at w v c.self.inside.fates.items c.self.inside.seen.contents c.key_after.new.seen.contents c.self.inside.keys
          c.in-Some.key.items n c.args.link.from c.args.most c.args.link.step c.self.invariant.found c.self.view_is
          c.key_after.ensures.grown key_is (next_image v c.args.link.from m n c.args.link.step at_m refl)
          (next_world v c.args.link.from m n c.args.link.step at_m refl)
          (λ has.
          let e = c.in_default-find.ensures.there.1 (subst (Has c.self.inside.keys) (sym c.deref.ensures.value) has) in absurd cc)
          (omega (arith, many, ap count c.self.view_is, c.requires.expanding.within, c.if-place-most.true));
      machines = tt;
      there = tt;
      stands = tt;
    }

pub returns-in_default : goal.returns-in_default
returns-in_default g c =
    let v = c.args.self.now in
    let w = space_of c.self.inside.image.now c.self.inside.live c.self.inside.begin.items c.self.inside.links.items c.self.inside.edges.items in
    let r = c.route_to-route.result in
    let m = machine_by c.args.machines.now.first.image r.begin.now r.links.now r.place in
    let at_m : m ≡ machine_after v.image (schedule_of v c.args.link.from) =
    by_route v w c.args.machines.now c.args.link.from r.begin.now r.links.now r.place c.self.view_is c.requires.machines.kept
    c.route_to-route.ensures.begin c.route_to-route.ensures.links c.route_to-route.ensures.place in
    let one : AreKeptAt v c.key_after.new.machines c.args.link.from =
    at_hand_same v c.args.machines.now c.key_after.new.machines c.args.link.from c.key_after.ensures.kept
    (subst (λ (x : MachineValue). IsAtHand x c.key_after.new.machines.here) at_m c.key_after.ensures.here) c.requires.machines.kept in
    let at_one : machine_by c.key_after.new.machines.first.image r.begin.now r.links.now r.place ≡ machine_at v c.args.link.from =
    by_route v w c.key_after.new.machines c.args.link.from r.begin.now r.links.now r.place c.self.view_is one.kept
    c.route_to-route.ensures.begin c.route_to-route.ensures.links c.route_to-route.ensures.place in
    let n = machine_next m c.args.link.step in
    let key = c.unwrap-before.result.now in
    let at : Some key ≡ slice_get c.self.inside.keys c.args.link.from =
    sym (ap option_copied c.unwrap-before.ensures) ∙ c.list.ensures in
    let known : IsKnown c.key_after.new.seen.contents n.image (cleared c.self.inside.live n.world) = search rules in
    let key_is : key ≡ key_of c.key_after.new.seen.contents n.image (cleared c.self.inside.live n.world) = search rules in
    record {
      grown = grown_to v w c.self.view_is;
      edges = ap (λ (x : SpaceValue). x.edges) c.self.view_is;
      expanding = stays_expanding v w c.args.link.from c.args.most c.self.view_is c.requires.expanding;
      full = λ e. absurd cc;
      machines = subst (λ (x : SpaceValue). AreKeptAt x c.key_after.new.machines c.args.link.from) (sym c.self.view_is) one;
      there = subst (λ (x : SpaceValue). c.args.link.from < count x) (sym c.self.view_is) c.requires.expanding.there;
      stands =
          subst (StandsFor w c.args.link.from) (ap (λ (x : MachineValue). after x.image x.world c.args.link.step) at_m)
          (subst (λ (x : SpaceValue). StandsFor x c.args.link.from n.world) (sym c.self.view_is)
          (stays_at w v c.self.inside.fates.items c.self.inside.seen.contents c.key_after.new.seen.contents c.self.inside.keys key n
          c.args.link.from c.self.invariant.found c.self.view_is c.key_after.ensures.grown known key_is
          (ap (λ (x : MachineValue). x.image) at_m) c.requires.expanding.there at));
    }

pub returns-in-Some-find : goal.returns-in-Some-find
returns-in-Some-find g c =
    let v = c.args.self.now in
    let w = space_of c.self.inside.image.now c.self.inside.live c.self.inside.begin.items c.self.inside.links.items c.self.inside.edges.items in
    let r = c.route_to-route.result in
    let m = machine_by c.args.machines.now.first.image r.begin.now r.links.now r.place in
    let at_m : m ≡ machine_after v.image (schedule_of v c.args.link.from) =
    by_route v w c.args.machines.now c.args.link.from r.begin.now r.links.now r.place c.self.view_is c.requires.machines.kept
    c.route_to-route.ensures.begin c.route_to-route.ensures.links c.route_to-route.ensures.place in
    let one : AreKeptAt v c.key_after.new.machines c.args.link.from =
    at_hand_same v c.args.machines.now c.key_after.new.machines c.args.link.from c.key_after.ensures.kept
    (subst (λ (x : MachineValue). IsAtHand x c.key_after.new.machines.here) at_m c.key_after.ensures.here) c.requires.machines.kept in
    let at_one : machine_by c.key_after.new.machines.first.image r.begin.now r.links.now r.place ≡ machine_at v c.args.link.from =
    by_route v w c.key_after.new.machines c.args.link.from r.begin.now r.links.now r.place c.self.view_is one.kept
    c.route_to-route.ensures.begin c.route_to-route.ensures.links c.route_to-route.ensures.place in
    let n = machine_next m c.args.link.step in
    let keys = c.self.inside.keys in
    let key = c.in-Some.key.items in
    let at : c.in-Some-find.place ≡ place_in keys key = search rules in
    let has : Has keys key = search rules in
    let known : IsKnown c.key_after.new.seen.contents n.image (cleared c.self.inside.live n.world) = search rules in
    let key_is : key ≡ key_of c.key_after.new.seen.contents n.image (cleared c.self.inside.live n.world) = search rules in
    let here =
    found_at w v c.self.inside.fates.items c.self.inside.seen.contents c.key_after.new.seen.contents keys key n
    c.in-Some-find.place c.self.invariant.found c.self.view_is c.key_after.ensures.grown known key_is
    (ap (λ (x : MachineValue). x.image) at_m) at has in
    record {
      grown = grown_to v w c.self.view_is;
      edges = ap (λ (x : SpaceValue). x.edges) c.self.view_is;
      expanding = stays_expanding v w c.args.link.from c.args.most c.self.view_is c.requires.expanding;
      full = λ e. absurd cc;
      machines = subst (λ (x : SpaceValue). AreKeptAt x c.key_after.new.machines c.args.link.from) (sym c.self.view_is) one;
      there = subst (λ (x : SpaceValue). c.in-Some-find.place < count x) (sym c.self.view_is) here.0;
      stands =
          subst (StandsFor w c.in-Some-find.place) (ap (λ (x : MachineValue). after x.image x.world c.args.link.step) at_m)
          (subst (λ (x : SpaceValue). StandsFor x c.in-Some-find.place n.world) (sym c.self.view_is) here.1);
    }

pub returns-in_err-push_world-clause-grown : goal.returns-in_err-push_world-clause-grown
returns-in_err-push_world-clause-grown g c =
    let v = c.args.self.now in
    let w = space_of c.self.inside.image.now c.self.inside.live c.self.inside.begin.items c.push_world.new.links.items c.self.inside.edges.items in
    grown_to v w
    (kept_view c.self.inside.image.now c.self.inside.live c.self.inside.begin.items c.self.inside.links.items c.push_world.new.links.items c.self.inside.edges.items v
    c.self.view_is c.in_err-push_world.ensures.links)

pub returns-in_err-push_world-clause-edges : goal.returns-in_err-push_world-clause-edges
returns-in_err-push_world-clause-edges g c = ap (λ (x : SpaceValue). x.edges) c.self.view_is

pub returns-in_err-push_world-clause-expanding : goal.returns-in_err-push_world-clause-expanding
returns-in_err-push_world-clause-expanding g c =
    let v = c.args.self.now in
    let w = space_of c.self.inside.image.now c.self.inside.live c.self.inside.begin.items c.push_world.new.links.items c.self.inside.edges.items in
    let is =
    kept_view c.self.inside.image.now c.self.inside.live c.self.inside.begin.items c.self.inside.links.items c.push_world.new.links.items c.self.inside.edges.items v
    c.self.view_is c.in_err-push_world.ensures.links in
    stays_expanding v w c.args.link.from c.args.most is c.requires.expanding

pub returns : goal.returns
returns g c =
    let v = c.args.self.now in
    let w = space_of c.self.inside.image.now c.self.inside.live c.self.inside.begin.items c.self.inside.links.items c.self.inside.edges.items in
    let r = c.route_to-route.result in
    let m = machine_by c.args.machines.now.first.image r.begin.now r.links.now r.place in
    let at_m : m ≡ machine_after v.image (schedule_of v c.args.link.from) =
    by_route v w c.args.machines.now c.args.link.from r.begin.now r.links.now r.place c.self.view_is c.requires.machines.kept
    c.route_to-route.ensures.begin c.route_to-route.ensures.links c.route_to-route.ensures.place in
    let one : AreKeptAt v c.key_after.new.machines c.args.link.from =
    at_hand_same v c.args.machines.now c.key_after.new.machines c.args.link.from c.key_after.ensures.kept
    (subst (λ (x : MachineValue). IsAtHand x c.key_after.new.machines.here) at_m c.key_after.ensures.here) c.requires.machines.kept in
    let at_one : machine_by c.key_after.new.machines.first.image r.begin.now r.links.now r.place ≡ machine_at v c.args.link.from =
    by_route v w c.key_after.new.machines c.args.link.from r.begin.now r.links.now r.place c.self.view_is one.kept
    c.route_to-route.ensures.begin c.route_to-route.ensures.links c.route_to-route.ensures.place in
    let l = c.args.link in
    let n = machine_next m l.step in
    let image = next_image v l.from m n l.step at_m refl in
    let world = next_world v l.from m n l.step at_m refl in
    let u = space_of c.self.inside.image.now c.self.inside.live c.self.inside.begin.items c.push_world.new.links.items c.self.inside.edges.items in
    let is =
    placed_view c.self.inside.image.now c.self.inside.live c.self.inside.begin.items c.self.inside.links.items c.push_world.new.links.items
    c.self.inside.edges.items v l c.self.view_is c.in_ok-push_world.ensures.link in
    let many : c.len-place.result ≡ length c.self.inside.links.items = search rules in
    let at : c.len-place.result + 1 ≡ count v = omega (arith, many, ap count c.self.view_is) in
    let grown = placed_grown v u l is in
    let two : AreKeptAt v c.next_world.new.machines l.from =
    at_hand_same v c.key_after.new.machines c.next_world.new.machines l.from c.next_world.ensures.kept
    (subst (λ (x : MachineValue). IsAtHand x c.next_world.new.machines.here) at_one c.next_world.ensures.here) one.kept in
    let same : machine_by c.key_after.new.machines.first.image r.begin.now r.links.now r.place ≡ m = at_one ∙ sym at_m in
    let hand : IsAtHand n c.in_ok-next.next.machine =
    subst (λ (x : MachineValue). IsAtHand (machine_next x l.step) c.in_ok-next.next.machine) same c.in_ok-next.ensures.machine in
    record {
      grown = grown;
      edges = ap (λ (x : SpaceValue). x.edges) c.self.view_is;
      expanding = placed_expanding v u l c.args.most is (omega (arith, ap count is, count-link v l, at)) c.requires.expanding;
      full = λ e. absurd cc;
      machines =
          placed_at_hand v u c.next_world.new.machines c.push_world.new.machines n l.from (c.len-place.result + 1) grown
          c.requires.expanding.there (placed_there v u l (c.len-place.result + 1) is at)
          (new_machine v u l m (c.len-place.result + 1) is at at_m) (c.in_ok-push_world.ensures.machine n hand) two;
      there = placed_there v u l (c.len-place.result + 1) is at;
      stands =
          subst (StandsFor u (c.len-place.result + 1)) world (placed_stands v u l n (c.len-place.result + 1) is at world);
    }
