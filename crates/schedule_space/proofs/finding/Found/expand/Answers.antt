use Rattle.std.proofs.Common.{sym, subst, rules}
use Rattle.schedule_space.specs.Spaces.{world_of, AreAllDifferent}
use Rattle.schedule_space.specs.Finding.{HasRunning, HaveNoEdges}
use Rattle.schedule_space.proofs.Different.{different_same, no_edges_yet}
use Rattle.schedule_space.specs.Kept.{AreKeptAt}
use Rattle.schedule_space.proofs.Alone.{expanded_if, followed_if}
use Rattle.schedule_space.proofs.Kept.{gone_to}
use Rattle.schedule_space.proofs.finding.Found.expand.Goals as goal

pub take_all-requires : goal.take_all-requires
take_all-requires g c =
    let v = c.args.self.now in
    let machines : AreKeptAt v c.go_to.new.self c.args.from =
    gone_to v c.args.machines.now c.go_to.new.self c.args.from c.go_to.ensures.first c.go_to.ensures.fewer c.go_to.ensures.kept
    c.go_to.ensures.here c.requires.machines in
    let once : AreAllDifferent c.deref.result.now =
    different_same c.in_ok-running.running.items c.deref.result.now c.deref.ensures.value c.in_ok-running.ensures.once in
    let new : HaveNoEdges v c.args.from c.deref.result.now =
    no_edges_yet v c.args.from c.deref.result.now c.requires.edges in
    search rules

pub take_enough-requires : goal.take_enough-requires
take_enough-requires g c =
    let v = c.args.self.now in
    let machines : AreKeptAt v c.go_to.new.self c.args.from =
    gone_to v c.args.machines.now c.go_to.new.self c.args.from c.go_to.ensures.first c.go_to.ensures.fewer c.go_to.ensures.kept
    c.go_to.ensures.here c.requires.machines in
    let running : HasRunning (world_of v c.args.from) c.deref-in-Ends.result.now =
    subst (HasRunning (world_of v c.args.from)) (sym c.deref-in-Ends.ensures.value) c.in_ok-running.ensures.all in
    let once : AreAllDifferent c.deref-in-Ends.result.now =
    different_same c.in_ok-running.running.items c.deref-in-Ends.result.now c.deref-in-Ends.ensures.value
    c.in_ok-running.ensures.once in
    let new : HaveNoEdges v c.args.from c.deref-in-Ends.result.now =
    no_edges_yet v c.args.from c.deref-in-Ends.result.now c.requires.edges in
    search rules

pub returns-in-Worlds-clause-quiet : goal.returns-in-Worlds-clause-quiet
returns-in-Worlds-clause-quiet g c =
    let v = c.args.self.now in
    followed_if c.take_all.result c.args.shortcuts.observation.places.now c.args.shortcuts.observation.words.now c.take_all.new.self c.args.from
    (expanded_if c.take_all.result v c.take_all.new.self c.args.from c.deref.result.now c.take_all.ensures.grown
    c.requires.expanding.there
    (subst (HasRunning (world_of v c.args.from)) (sym c.deref.ensures.value) c.in_ok-running.ensures.all)
    c.take_all.ensures.taken)

pub returns-in-Worlds-clause-expanded : goal.returns-in-Worlds-clause-expanded
returns-in-Worlds-clause-expanded g c = λ _.
    let v = c.args.self.now in
    expanded_if c.take_all.result v c.take_all.new.self c.args.from c.deref.result.now c.take_all.ensures.grown
    c.requires.expanding.there
    (subst (HasRunning (world_of v c.args.from)) (sym c.deref.ensures.value) c.in_ok-running.ensures.all)
    c.take_all.ensures.taken
