use Rattle.std.proofs.Common.{◌≡◌, ◌+◌, ◌++◌, ◌∷◌, [], length, Some, sym, ap, ◌∙◌, subst, arith, lit<, rules}
use Rattle.std.specs.Prelude.{List}
use Rattle.std.proofs.lemmas.List.{length_push}
use Rattle.processor.specs.declared.steps.Step.{Step}
use Rattle.waiting.specs.Running.{running_steps}
use Rattle.schedule_makers.specs.declared.made.MadeEnd.TheVariants.{NobodyRuns}
use Rattle.schedule_makers.specs.Choosers.{rule_of, Follows}
use Rattle.schedule_makers.proofs.Choosers.{some-listed, none-listed}
use Rattle.schedule_makers.proofs.SoFar.{IsMaking, made_more, same_listed, ruled_now, on_err}
use Rattle.schedule_makers.proofs.SoFar.{stepped_once_more, none_run, ended}
use Rattle.schedule_makers.proofs.making.make.Goals as goal
use Rattle.schedule_makers.proofs.making.make.Goals.{then-not-went+in_ok-running-2, else-not-went}

pub returns-in_default-clause-made : goal.returns-in_default-clause-made
returns-in_default-clause-made g c =
    let rule = rule_of c.args.chooser.now in
    let old = c.args.machine.now in
    let ts = c.loop.steps.items in
    let running = c.loop.running.items in
    let making = c.loop.invariant.making in
    let list = c.deref-in-loop.ensures.value ∙ making.running_is in
    let none = none-listed c.loop.chooser c.deref.result.now c.loop.machine c.deref-in-loop.result.now list
    c.in_default.ensures.is in
    let empty = ap (λ (l : List Step). length l) (sym c.deref-in-loop.ensures.value ∙ none) in
    ended rule old c.loop.machine c.args.most ts running c.loop.is_able NobodyRuns making
    (omega (arith, c.loop.invariant.count, c.loop.auto.counter-end))
    (none_run c.loop.machine.world running making.running_is empty)
    (λ e. cc)

pub advance-requires : goal.advance-requires
advance-requires g c =
    let rule = rule_of c.args.chooser.now in
    let old = c.args.machine.now in
    let ts = c.loop.steps.items in
    let running = c.loop.running.items in
    let making = c.loop.invariant.making in
    let t = c.in-Some.step in
    let list = c.deref-in-loop-2.ensures.value ∙ making.running_is in
    let has = some-listed c.loop.chooser c.deref.result.now c.loop.machine c.deref-in-loop-2.result.now t list
    c.in-Some.ensures.is in
    (lit< tt, (list, (has, making.known)))

pub returns-in_err-push-clause-err : goal.returns-in_err-push-clause-err
returns-in_err-push-clause-err g c =
    let rule = rule_of c.args.chooser.now in
    let old = c.args.machine.now in
    let ts = c.loop.steps.items in
    let running = c.loop.running.items in
    let making = c.loop.invariant.making in
    on_err c.from_residual-in_err-push.result
    (stepped_once_more rule old c.loop.machine c.advance.new.machine ts running c.loop.is_able c.in-Some.step
    c.in-Some-advance.went making c.in-Some-advance.ensures.some)

pub returns-in_err-running-2-clause-err : goal.returns-in_err-running-2-clause-err
returns-in_err-running-2-clause-err g c =
    let rule = rule_of c.args.chooser.now in
    let old = c.args.machine.now in
    let ts = c.loop.steps.items in
    let running = c.loop.running.items in
    let making = c.loop.invariant.making in
    on_err c.from_residual-in_err-running-2.result
    (stepped_once_more rule old c.loop.machine c.advance.new.machine ts running c.loop.is_able c.in-Some.step
    c.in-Some-advance.went making c.in-Some-advance.ensures.some)

pub loop-preserved : goal.loop-preserved
loop-preserved g c =
    let rule = rule_of c.args.chooser.now in
    let old = c.args.machine.now in
    let ts = c.loop.steps.items in
    let running = c.loop.running.items in
    let making = c.loop.invariant.making in
    let t = c.in-Some.step in
    let went = c.in-Some-advance.went in
    let gone = c.in-Some-advance.ensures.some in
    let new = c.advance.new.machine in
    let pushed : c.push.new.self.items ≡ ts ++ t ∷ [] = c.in_ok-push.ensures.items in
    let has = some-listed c.loop.chooser c.deref.result.now c.loop.machine running t making.running_is
    c.in-Some.ensures.is in
    let ruled : rule ts c.loop.machine.image c.loop.machine.world ≡ Some t =
    ruled_now (rule_of c.loop.chooser) rule c.loop.machine c.deref.result.now ts (Some t) c.loop.invariant.rule
    c.deref.ensures.value c.in-Some.ensures.is in
    let listed : c.if-not-went.running.items ≡ running_steps new.world =
    elim c.if-not-went.branch [
      | then-not-went+in_ok-running-2 w ↦ cc (w.running-is, w.in_ok-running-2.ensures.is)
      | else-not-went w ↦
          let same = same_listed rule old c.loop.machine new ts running c.loop.is_able t went making gone
          (search rules) in
          cc (w.running-is, same)
    ] in
    let more = made_more rule old c.loop.machine new ts running c.if-not-went.running.items c.loop.is_able t went making
    ruled has gone listed in
    let known = subst (λ (l : List Step). Follows c.choose.new.self (l ++ t ∷ [])) c.deref.ensures.value
    c.in-Some.ensures.follows in
    record {
      making = subst (λ (l : List Step). IsMaking rule old new l c.if-not-went.running.items went.is_able) (sym pushed)
          more;
      rule = c.in-Some.ensures.rule ∙ c.loop.invariant.rule;
      follows = subst (λ (l : List Step). Follows c.choose.new.self l) (sym pushed) known;
      count = ap (λ (l : List Step). length l) pushed ∙ length_push ts t ∙ ap (λ n. n + 1) c.loop.invariant.count;
    }
