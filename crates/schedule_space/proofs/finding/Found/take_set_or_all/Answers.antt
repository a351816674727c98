use Rattle.std.proofs.Common.{◌≡◌, ◌∙◌, inr, sym, ap, subst, rules, List}
use Rattle.std.specs.List.{Contains}
use Rattle.machine.specs.MachineValue.{MachineValue}
use Rattle.tag_memory.specs.Unforwarded.{IsUnforwarded}
use Rattle.processor.specs.declared.steps.Step.{Step}
use Rattle.first_sets.specs.ApartSets.{IsApartSet}
use Rattle.schedule_space.specs.Spaces.{schedule_of, machine_after, AreAllDifferent}
use Rattle.schedule_space.specs.Finding.{IsGrown, HasRunning, HaveNoEdges, IsExpanding}
use Rattle.schedule_space.specs.Kept.{AreKeptAt}
use Rattle.schedule_space.specs.Quiet.{IsUnseen}
use Rattle.schedule_space.specs.Chosen.{is_in, is_out, steps_in, steps_out}
use Rattle.schedule_space.proofs.Chosen.{kept_is, different_kept, out_not_in}
use Rattle.schedule_space.proofs.Growing.{grown_trans}
use Rattle.schedule_space.proofs.Placing.{lent_is}
use Rattle.schedule_space.proofs.Taking.{AreAllTaken}
use Rattle.schedule_space.proofs.TakenTogether.{all_by_others, quietly, all_in_two, followed_on}
use Rattle.schedule_space.proofs.finding.Found.take_set_or_all.Goals as goal

pub set_with_unseen-requires : goal.set_with_unseen-requires
set_with_unseen-requires g c =
    let v = c.args.self.now in
    let from = c.args.from in
    let at =
    lent_is c.here.result c.unwrap-here.result c.make_here.new.machines.here (machine_after v.image (schedule_of v from))
    c.here.ensures c.unwrap-here.ensures c.in_ok-make_here.ensures.made in
    let m = c.unwrap-here.result.now in
    let unforwarded : IsUnforwarded m.world.memory =
    subst (λ (x : MachineValue). IsUnforwarded x.world.memory) (sym at) c.requires.unforwarded in
    let running : HasRunning m.world c.args.running.now =
    subst (λ (x : MachineValue). HasRunning x.world c.args.running.now) (sym at) c.requires.running in
    search rules

pub returns-in_default-clause-quiet : goal.returns-in_default-clause-quiet
returns-in_default-clause-quiet g c =
    let v = c.args.self.now in
    let w = c.take_all.new.self in
    followed_on c.take_all.result c.args.shortcuts.observation.places.now c.args.shortcuts.observation.words.now w c.args.from c.args.others.now
    (all_by_others v w c.args.from c.take_all.ensures.grown c.requires.expanding.there c.args.running.now c.args.others.now
    c.requires.running c.requires.waits)
    c.take_all.ensures.taken

pub take_each-requires : goal.take_each-requires
take_each-requires g c =
    let v = c.args.self.now in
    let set = c.deref.result.now in
    let others = c.args.others.now in
    let is : c.deref-3.result.now ≡ steps_in set others = c.deref-3.ensures.value ∙ c.in_ok-first.ensures in
    let once : AreAllDifferent c.deref-3.result.now =
    subst (λ (ts : List Step). AreAllDifferent ts) (sym is) (different_kept (is_in set) others c.requires.once) in
    let new : HaveNoEdges v c.args.from c.deref-3.result.now =
    subst (HaveNoEdges v c.args.from) (sym is) (λ t there. c.requires.new t (kept_is (is_in set) others t there).0) in
    let expanding : IsExpanding v c.args.from c.args.most = c.requires.expanding in
    let machines : AreKeptAt v c.make_here.new.machines c.args.from = c.in_ok-make_here.ensures.machines in
    search rules

pub returns-then-is_later-clause-quiet : goal.returns-then-is_later-clause-quiet
returns-then-is_later-clause-quiet g c =
    let v = c.args.self.now in
    let w = c.take_each.new.self in
    let from = c.args.from in
    let set = c.deref.result.now in
    let others = c.args.others.now in
    let at =
    lent_is c.here.result c.unwrap-here.result c.make_here.new.machines.here (machine_after v.image (schedule_of v from))
    c.here.ensures c.unwrap-here.ensures c.in_ok-make_here.ensures.made in
    let m = c.unwrap-here.result.now in
    let is : c.deref-3.result.now ≡ steps_in set others = c.deref-3.ensures.value ∙ c.in_ok-first.ensures in
    let found : IsApartSet m.image c.args.shortcuts.tables.now m.world c.in-Some.set.items = search rules in
    let apart : IsApartSet m.image c.args.shortcuts.tables.now m.world set =
    subst (IsApartSet m.image c.args.shortcuts.tables.now m.world) (sym c.deref.ensures.value) found in
    let taken : AreAllTaken w from (steps_in set others) =
    subst (AreAllTaken w from) is c.in_ok-is_later.ensures.taken in
    let shown : c.deref-2.result.now ≡ steps_in set others = c.deref-2.ensures.value ∙ c.in_ok-first.ensures in
    let among : (t : Step) → Contains c.deref-4.result.now t → Contains (steps_in set others) t =
    λ t there.
    subst (λ (ts : List Step). Contains ts t) shown
    (c.in_ok-unseen.ensures.some t (subst (λ (ts : List Step). Contains ts t) c.deref-4.ensures.value there)) in
    let none : (t : Step) → Contains c.deref-4.result.now t
    → IsUnseen c.args.shortcuts.observation.places.now c.args.shortcuts.observation.words.now m.image m.world t =
    λ t there. c.in_ok-unseen.ensures.unseen t (subst (λ (ts : List Step). Contains ts t) c.deref-4.ensures.value there) in
    inr (quietly v w from c.take_each.ensures.grown c.requires.expanding.there c.args.running.now others c.requires.running
    c.requires.waits m c.args.shortcuts.tables.now set at c.requires.tables apart taken c.args.shortcuts.observation.places.now
    c.args.shortcuts.observation.words.now c.deref-4.result.now among none (c.in_ok-is_later.ensures.later c.if-is_later.true))

pub take_all-requires-2 : goal.take_all-requires-2
take_all-requires-2 g c =
    let w = c.take_each.new.self in
    let from = c.args.from in
    let others = c.args.others.now in
    let set = c.deref.result.now in
    let same : c.deref-5.result.now ≡ set = c.deref-5.ensures.value ∙ sym c.deref.ensures.value in
    let first : c.deref-3.result.now ≡ steps_in set others = c.deref-3.ensures.value ∙ c.in_ok-first.ensures in
    let is : c.deref-6.result.now ≡ steps_out set others =
    c.deref-6.ensures.value ∙ c.in_ok-rest.ensures ∙ ap (λ (s : List Step). steps_out s others) same in
    let once : AreAllDifferent c.deref-6.result.now =
    subst (λ (ts : List Step). AreAllDifferent ts) (sym is) (different_kept (is_out set) others c.requires.once) in
    let apart : (t : Step) → Contains (steps_out set others) t → Contains c.deref-3.result.now t → ⊥ =
    λ t out there. out_not_in set others t out (subst (λ (ts : List Step). Contains ts t) first there) in
    let new : HaveNoEdges w from c.deref-6.result.now =
    subst (HaveNoEdges w from) (sym is)
    (λ t there.
    c.in_ok-is_later.ensures.edges t (apart t there) (c.requires.new t (kept_is (is_out set) others t there).0)) in
    let expanding : IsExpanding w from c.args.most = c.take_each.ensures.expanding in
    let machines : AreKeptAt w c.take_each.new.machines from = c.in_ok-is_later.ensures.machines in
    search rules

pub returns-clause-quiet : goal.returns-clause-quiet
returns-clause-quiet g c =
    let v = c.args.self.now in
    let u = c.take_each.new.self in
    let w = c.take_all-2.new.self in
    let from = c.args.from in
    let others = c.args.others.now in
    let set = c.deref.result.now in
    let grown : IsGrown v w = grown_trans v u w c.take_each.ensures.grown c.take_all-2.ensures.grown in
    let same : c.deref-5.result.now ≡ set = c.deref-5.ensures.value ∙ sym c.deref.ensures.value in
    let first : c.deref-3.result.now ≡ steps_in set others = c.deref-3.ensures.value ∙ c.in_ok-first.ensures in
    let is : c.deref-6.result.now ≡ steps_out set others =
    c.deref-6.ensures.value ∙ c.in_ok-rest.ensures ∙ ap (λ (s : List Step). steps_out s others) same in
    followed_on c.take_all-2.result c.args.shortcuts.observation.places.now c.args.shortcuts.observation.words.now w from c.deref-6.result.now
    (λ rest.
    all_by_others v w from grown c.requires.expanding.there c.args.running.now others c.requires.running c.requires.waits
    (all_in_two u w from set others c.take_all-2.ensures.grown c.take_each.ensures.expanding.there
    (subst (AreAllTaken u from) first c.in_ok-is_later.ensures.taken) (subst (AreAllTaken w from) is rest)))
    c.take_all-2.ensures.taken
