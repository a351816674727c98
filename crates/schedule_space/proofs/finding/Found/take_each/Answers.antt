use Rattle.std.proofs.Common.{◌<◌, ◌∙◌, arith, rules, refl, sym, subst, get_or}
use Rattle.std.specs.List.{Contains}
use Rattle.std.proofs.lemmas.Bool.{ltb-true}
use Rattle.std.proofs.lemmas.List.Elements.{Contains-get_or}
use Rattle.processor.specs.declared.steps.Step.{Step}
use Rattle.schedule_space.specs.Finding.{IsTaken, IsExpanding, HasNoEdge}
use Rattle.schedule_space.specs.Kept.{AreKeptAt}
use Rattle.schedule_space.proofs.Different.{no_edges_at, no_edges_next}
use Rattle.schedule_space.proofs.Growing.{grown_refl, grown_trans}
use Rattle.schedule_space.proofs.Taking.{taken_next, taken_each}
use Rattle.schedule_space.proofs.TakenTogether.{some_later, some_later_grown}
use Rattle.schedule_space.proofs.finding.Found.take_each.Goals.{then-is_later, else-is_later+then-to-from, else-is_later+else-to-from}
use Rattle.schedule_space.proofs.finding.Found.take_each.Goals as goal

pub take-requires : goal.take-requires
take-requires g c =
    let expanding : IsExpanding c.loop-place.self c.args.from c.args.most = c.loop-place.invariant.expanding in
    let machines : AreKeptAt c.loop-place.self c.loop-place.machines c.args.from = c.loop-place.invariant.machines in
    let n = c.loop-place.place in
    let none : Step = record { p = 0; s = 0 } in
    let new : HasNoEdge c.loop-place.self c.args.from (get_or c.args.steps.now n none) =
    c.loop-place.invariant.new n none (omega arith) (omega arith) in
    search rules

pub loop-place-init : goal.loop-place-init
loop-place-init g c = record {
  grown = grown_refl c.args.self.now;
  expanding = c.requires.expanding;
  taken = λ k d below. absurd (omega arith);
  new = no_edges_at c.args.self.now c.args.from c.args.steps.now c.requires.new;
  machines = c.requires.machines;
  later = λ on. cc;
  edges = λ t out none. none;
}

pub returns-in_err-to-clause-grown : goal.returns-in_err-to-clause-grown
returns-in_err-to-clause-grown g c =
    grown_trans c.args.self.now c.loop-place.self c.take.new.self c.loop-place.invariant.grown c.take.ensures.grown

pub loop-place-preserved : goal.loop-place-preserved
loop-place-preserved g c =
    let here = c.loop-place.self in
    let new = c.take.new.self in
    let ts = c.args.steps.now in
    let n = c.loop-place.place in
    let none : Step = record { p = 0; s = 0 } in
    let last : IsTaken new c.args.from (get_or ts n none) = search rules in
    record {
      grown = grown_trans c.args.self.now here new c.loop-place.invariant.grown c.take.ensures.grown;
      expanding = c.take.ensures.expanding;
      taken =
          taken_next here new c.args.from n ts none c.take.ensures.grown c.loop-place.invariant.expanding.there (omega arith)
          c.loop-place.invariant.taken last;
      new =
          no_edges_next here new c.args.from n ts (get_or ts n none) none c.requires.once refl c.take.ensures.edges (omega arith)
          c.loop-place.invariant.new;
      machines = search rules;
      later = λ on. elim c.if-is_later.branch [
        | then-is_later w ↦
            some_later_grown here new c.args.from c.args.unseen.now c.take.ensures.grown
            c.loop-place.invariant.expanding.there (c.loop-place.invariant.later w.if-is_later.true)
        | else-is_later+then-to-from w ↦
            some_later new c.args.from c.in_ok-to.to c.args.unseen.now (get_or ts n none) c.in_ok-to.ensures.to
            w.if-to-from.true (sym w.is_in.ensures ∙ sym w.is_later-is ∙ on)
        | else-is_later+else-to-from w ↦
            let past : c.args.from < c.in_ok-to.to =
            ltb-true c.args.from c.in_ok-to.to (sym w.is_later-is ∙ on) in
            let not_past = w.if-to-from.false in
            absurd (omega (arith, past, not_past))
      ];
      edges = λ t out none0.
          c.take.ensures.edges t (λ same. out (subst (Contains ts) (sym same) (Contains-get_or ts n none (omega arith))))
          (c.loop-place.invariant.edges t out none0);
    }

pub returns : goal.returns
returns g c = record {
  grown = c.loop-place.invariant.grown;
  expanding = c.loop-place.invariant.expanding;
  full = λ e. absurd cc;
  machines = c.loop-place.invariant.machines;
  edges = c.loop-place.invariant.edges;
  later = c.loop-place.invariant.later;
  taken = taken_each c.loop-place.self c.args.from c.loop-place.place c.args.steps.now (omega arith) c.loop-place.invariant.taken;
}
