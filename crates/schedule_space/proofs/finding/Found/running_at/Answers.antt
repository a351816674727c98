use Rattle.std.proofs.Common.{◌≡◌, ◌+◌, ◌∙◌, sym, ap, subst, refl, Some, slice_get, length, option_copied}
use Rattle.image_file.specs.ImageValue.{ImageValue}
use Rattle.world_keys.specs.DeadRegisters.Clearing.{cleared}
use Rattle.world_keys.specs.WorldKeys.{key_of, IsKnown}
use Rattle.schedule_space.specs.Spaces.{SpaceValue}
use Rattle.schedule_space.specs.Finding.{space_of}
use Rattle.schedule_space.specs.Kept.{machine_at}
use Rattle.schedule_space.proofs.Placing.{has_key, known_at, key_of_at}
use Rattle.schedule_space.proofs.KeyStreams.{key_entries}
use Rattle.std.proofs.lemmas.Result.{IfOk-weaker}
use Rattle.schedule_space.proofs.finding.Found.running_at.Goals as goal

pub unwrap-key-requires : goal.unwrap-key-requires
unwrap-key-requires c =
    let w = space_of c.self.inside.image.now c.self.inside.live c.self.inside.begin.items c.self.inside.links.items c.self.inside.edges.items in
    has_key w c.args.self.now c.self.inside.seen.contents c.self.inside.keys c.args.place c.list.result
    c.self.invariant.found.keyed c.self.view_is c.requires c.list.ensures

pub running_by-requires : goal.running_by-requires
running_by-requires c =
    let v = c.args.self.now in
    let w = space_of c.self.inside.image.now c.self.inside.live c.self.inside.begin.items c.self.inside.links.items c.self.inside.edges.items in
    let m = machine_at v c.args.place in
    let key = c.unwrap-key.result.now in
    let at : Some key ≡ slice_get c.self.inside.keys c.args.place =
    sym (ap option_copied c.unwrap-key.ensures) ∙ c.list.ensures in
    let known =
    known_at w v c.self.inside.fates.items c.self.inside.seen.contents c.self.inside.keys c.args.place m
    c.self.invariant.found c.self.view_is c.requires refl in
    let is_key =
    key_of_at w v c.self.inside.fates.items c.self.inside.seen.contents c.self.inside.keys key c.args.place m
    c.self.invariant.found c.self.view_is c.requires refl at in
    key_entries m.image c.self.inside.live c.self.inside.seen.contents m.world key known is_key
    ∙ ap (λ (x : SpaceValue). length x.image.entries + 1) (sym c.self.view_is)

pub returns-clause-all : goal.returns-clause-all
returns-clause-all c =
    let v = c.args.self.now in
    let w = space_of c.self.inside.image.now c.self.inside.live c.self.inside.begin.items c.self.inside.links.items c.self.inside.edges.items in
    let m = machine_at v c.args.place in
    let key = c.unwrap-key.result.now in
    let image : v.image ≡ c.self.inside.image.now = ap (λ (x : SpaceValue). x.image) (sym c.self.view_is) in
    let at : Some key ≡ slice_get c.self.inside.keys c.args.place =
    sym (ap option_copied c.unwrap-key.ensures) ∙ c.list.ensures in
    let known =
    known_at w v c.self.inside.fates.items c.self.inside.seen.contents c.self.inside.keys c.args.place m
    c.self.invariant.found c.self.view_is c.requires refl in
    let is_key =
    key_of_at w v c.self.inside.fates.items c.self.inside.seen.contents c.self.inside.keys key c.args.place m
    c.self.invariant.found c.self.view_is c.requires refl at in
    let here =
    subst (λ (i : ImageValue). IsKnown c.self.inside.seen.contents i (cleared c.self.inside.live m.world)) image known in
    let by =
    subst (λ (i : ImageValue). key ≡ key_of c.self.inside.seen.contents i (cleared c.self.inside.live m.world)) image is_key in
    IfOk-weaker c.running_by.result _ _ (λ r all. all c.self.inside.live m.world here by) c.running_by.ensures.all

pub returns-clause-once : goal.returns-clause-once
returns-clause-once c =
    let v = c.args.self.now in
    let w = space_of c.self.inside.image.now c.self.inside.live c.self.inside.begin.items c.self.inside.links.items c.self.inside.edges.items in
    let m = machine_at v c.args.place in
    let key = c.unwrap-key.result.now in
    let image : v.image ≡ c.self.inside.image.now = ap (λ (x : SpaceValue). x.image) (sym c.self.view_is) in
    let at : Some key ≡ slice_get c.self.inside.keys c.args.place =
    sym (ap option_copied c.unwrap-key.ensures) ∙ c.list.ensures in
    let known =
    known_at w v c.self.inside.fates.items c.self.inside.seen.contents c.self.inside.keys c.args.place m
    c.self.invariant.found c.self.view_is c.requires refl in
    let is_key =
    key_of_at w v c.self.inside.fates.items c.self.inside.seen.contents c.self.inside.keys key c.args.place m
    c.self.invariant.found c.self.view_is c.requires refl at in
    let here =
    subst (λ (i : ImageValue). IsKnown c.self.inside.seen.contents i (cleared c.self.inside.live m.world)) image known in
    let by =
    subst (λ (i : ImageValue). key ≡ key_of c.self.inside.seen.contents i (cleared c.self.inside.live m.world)) image is_key in
    IfOk-weaker c.running_by.result _ _ (λ r all. all c.self.inside.live m.world here by) c.running_by.ensures.once
