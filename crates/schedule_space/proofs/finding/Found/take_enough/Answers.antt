use Rattle.std.proofs.Common.{inr, ◌≡◌, sym, arith, rules, refl, subst, get_or}
use Rattle.std.specs.Prelude.{OnOk, List}
use Rattle.std.specs.List.{Contains}
use Rattle.tag_memory.specs.Unforwarded.{IsUnforwarded}
use Rattle.image_file.specs.ImageValue.{ImageValue}
use Rattle.processor.specs.World.{World}
use Rattle.processor.specs.declared.steps.Step.{Step}
use Rattle.world_keys.specs.DeadRegisters.Clearing.{LiveValue}
use Rattle.agreeing_ends.specs.LocalSteps.SettledEndings.{AreSettled}
use Rattle.schedule_space.specs.Kept.{AreKeptAt}
use Rattle.schedule_space.specs.Tables.{AreTablesOf}
use Rattle.schedule_space.specs.Spaces.{world_of, AreAllDifferent}
use Rattle.schedule_space.specs.Finding.{IsExpanding, HasNoEdge, HaveNoEdges, HasRunning}
use Rattle.schedule_space.proofs.Different.{different_same, no_edges_at, no_edges_next, waiting_none, waiting_next}
use Rattle.schedule_space.proofs.Growing.{grown_refl, grown_trans, world_grown}
use Rattle.schedule_space.proofs.Taking.{AreAllTaken, IsTakenOrWaits, waits_next, each_waits}
use Rattle.schedule_space.proofs.Alone.{expanded_if, followed_if, waiting_taken}
use Rattle.schedule_space.proofs.finding.Found.take_enough.Goals as goal

pub take_free-requires : goal.take_free-requires
take_free-requires g c =
    let expanding : IsExpanding c.loop-step.self c.args.from c.args.most = c.loop-step.invariant.expanding in
    let machines : AreKeptAt c.loop-step.self c.loop-step.machines c.args.from = c.loop-step.invariant.machines in
    let settled : AreSettled c.loop-step.self.image c.args.shortcuts.settled.now =
    subst (λ (i : ImageValue). AreSettled i c.args.shortcuts.settled.now) (sym c.loop-step.invariant.grown.image) c.requires.settled in
    let n = c.loop-step.step-index in
    let none : Step = record { p = 0; s = 0 } in
    let new : HasNoEdge c.loop-step.self c.args.from (get_or c.args.running.now n none) =
    c.loop-step.invariant.new n none (omega arith) (omega arith) in
    search rules

pub loop-step-init : goal.loop-step-init
loop-step-init g c = record {
  grown = grown_refl c.args.self.now;
  expanding = c.requires.expanding;
  waits = λ k d below. absurd (omega arith);
  new = no_edges_at c.args.self.now c.args.from c.args.running.now c.requires.new;
  waiting = waiting_none c.args.self.now c.args.from c.new-others.result.items c.args.running.now c.new-others.ensures.items;
  machines = c.requires.machines;
}

pub returns-in_err-is_later-clause-grown : goal.returns-in_err-is_later-clause-grown
returns-in_err-is_later-clause-grown g c =
    grown_trans c.args.self.now c.loop-step.self c.take_free.new.self c.loop-step.invariant.grown
    c.take_free.ensures.grown

pub returns-then-is_later : goal.returns-then-is_later
returns-then-is_later g c = record {
  grown =
      grown_trans c.args.self.now c.loop-step.self c.take_free.new.self c.loop-step.invariant.grown
      c.take_free.ensures.grown;
  expanding = c.take_free.ensures.expanding;
  full = λ e. absurd cc;
  machines = c.in_ok-is_later.ensures.machines;
  quiet = inr (c.in_ok-is_later.ensures.alone c.if-is_later.true);
}

pub loop-step-preserved : goal.loop-step-preserved
loop-step-preserved g c =
    let here = c.loop-step.self in
    let new = c.take_free.new.self in
    let ts = c.args.running.now in
    let n = c.loop-step.step-index in
    let none : Step = record { p = 0; s = 0 } in
    let last : IsTakenOrWaits new c.args.from c.take_free.new.others.items (get_or ts n none) =
    c.in_ok-is_later.ensures.left c.if-is_later.false in
    record {
      grown = grown_trans c.args.self.now here new c.loop-step.invariant.grown c.take_free.ensures.grown;
      expanding = c.take_free.ensures.expanding;
      waits =
          waits_next here new c.args.from n c.loop-step.others.items c.take_free.new.others.items ts none
          c.take_free.ensures.grown c.loop-step.invariant.expanding.there (omega arith) c.take_free.ensures.others
          c.loop-step.invariant.waits last;
      new =
          no_edges_next here new c.args.from n ts (get_or ts n none) none c.requires.once refl c.take_free.ensures.edges
          (omega arith) c.loop-step.invariant.new;
      waiting =
          waiting_next here new c.args.from n c.loop-step.others.items c.take_free.new.others.items ts (get_or ts n none) none
          c.requires.once refl (omega arith) c.take_free.ensures.edges c.in_ok-is_later.ensures.waits c.loop-step.invariant.new
          c.loop-step.invariant.waiting;
      machines = c.in_ok-is_later.ensures.machines;
    }

pub take_set_or_all-requires : goal.take_set_or_all-requires
take_set_or_all-requires g c =
    let u = c.args.self.now in
    let v = c.loop-step.self in
    let from = c.args.from in
    let ts = c.args.running.now in
    let others = c.loop-step.others.items in
    let waiting = c.loop-step.invariant.waiting in
    let grown = c.loop-step.invariant.grown in
    let same : world_of v from ≡ world_of u from = world_grown u v from grown c.requires.expanding.there in
    let expanding : IsExpanding v from c.args.most = c.loop-step.invariant.expanding in
    let machines : AreKeptAt v c.loop-step.machines from = c.loop-step.invariant.machines in
    let once : AreAllDifferent c.deref.result.now =
    different_same others c.deref.result.now c.deref.ensures.value waiting.once in
    let new : HaveNoEdges v from c.deref.result.now =
    subst (HaveNoEdges v from) (sym c.deref.ensures.value) waiting.new in
    let running : HasRunning (world_of v from) ts =
    subst (λ (x : World). HasRunning x ts) (sym same) c.requires.running in
    let waits : (t : Step) → Contains ts t → IsTakenOrWaits v from c.deref.result.now t =
    subst (λ (os : List Step). (t : Step) → Contains ts t → IsTakenOrWaits v from os t) (sym c.deref.ensures.value)
    (each_waits v from c.loop-step.step-index others ts (omega arith) c.loop-step.invariant.waits) in
    let tables : AreTablesOf v.image v.live c.args.shortcuts.tables.now =
    subst (λ (l : LiveValue). AreTablesOf v.image l c.args.shortcuts.tables.now) (sym grown.live)
    (subst (λ (i : ImageValue). AreTablesOf i u.live c.args.shortcuts.tables.now) (sym grown.image)
    (c.requires.tables c.if-shortcuts.true)) in
    let unforwarded : IsUnforwarded (world_of v from).memory =
    subst (λ (x : World). IsUnforwarded x.memory) (sym same) (c.requires.unforwarded c.if-shortcuts.true) in
    search rules

pub returns-then-shortcuts-clause-grown : goal.returns-then-shortcuts-clause-grown
returns-then-shortcuts-clause-grown g c =
    grown_trans c.args.self.now c.loop-step.self c.take_set_or_all.new.self c.loop-step.invariant.grown
    c.take_set_or_all.ensures.grown

pub take_all-requires : goal.take_all-requires
take_all-requires g c =
    let v = c.loop-step.self in
    let others = c.loop-step.others.items in
    let waiting = c.loop-step.invariant.waiting in
    let expanding : IsExpanding v c.args.from c.args.most = c.loop-step.invariant.expanding in
    let machines : AreKeptAt v c.loop-step.machines c.args.from = c.loop-step.invariant.machines in
    let once : AreAllDifferent c.deref-2.result.now =
    different_same others c.deref-2.result.now c.deref-2.ensures.value waiting.once in
    let new : HaveNoEdges v c.args.from c.deref-2.result.now =
    subst (HaveNoEdges v c.args.from) (sym c.deref-2.ensures.value) waiting.new in
    search rules

pub returns : goal.returns
returns g c = record {
  grown =
      grown_trans c.args.self.now c.loop-step.self c.take_all.new.self c.loop-step.invariant.grown c.take_all.ensures.grown;
  expanding = c.take_all.ensures.expanding;
  full = c.take_all.ensures.full;
  machines = c.take_all.ensures.machines;
  quiet =
      followed_if c.take_all.result c.args.shortcuts.observation.places.now c.args.shortcuts.observation.words.now c.take_all.new.self c.args.from
      (expanded_if c.take_all.result c.args.self.now c.take_all.new.self c.args.from
      c.args.running.now
      (grown_trans c.args.self.now c.loop-step.self c.take_all.new.self c.loop-step.invariant.grown c.take_all.ensures.grown)
      c.requires.expanding.there c.requires.running
      (waiting_taken c.take_all.result c.loop-step.self c.take_all.new.self c.args.from c.loop-step.step-index
      c.loop-step.others.items c.args.running.now c.take_all.ensures.grown c.loop-step.invariant.expanding.there
      (omega arith) c.loop-step.invariant.waits
      (subst (λ (ts : List Step). OnOk c.take_all.result (AreAllTaken c.take_all.new.self c.args.from ts))
      c.deref-2.ensures.value c.take_all.ensures.taken)));
}
