use Rattle.std.proofs.Common.{◌≡◌, ◌∙◌, false, length, take, subst, rules, arith}
use Rattle.std.specs.Prelude.{IsTrue}
use Rattle.processor.specs.World.{run}
use Rattle.claims.specs.Holding.{shows}
use Rattle.schedule_verdicts.proofs.Every.{below_more}
use Rattle.schedule_verdicts.proofs.OnTheWay.{step_more}
use Rattle.schedule_verdicts.proofs.shown_claims.is_shown_on_the_way.Goals as goal

pub loop-taken-preserved : goal.loop-taken-preserved
loop-taken-preserved g c =
    let image = c.args.image.now in
    let ts = c.args.schedule.now in
    let claim = c.args.claim.now in
    let stands = c.loop-taken.invariant in
    record {
      image = c.step.ensures.image ∙ stands.image;
      world =
          step_more image c.loop-taken.machine.image ts c.loop-taken.taken (record { p = 0; s = 0 })
          c.loop-taken.machine.world c.step.new.self.world c.step.result (search rules) stands.image stands.world
          c.step.ensures.world;
      unshown =
          below_more (λ k. shows (run image (take k ts)) claim ≡ false) c.loop-taken.taken stands.unshown
          (subst (λ w. shows w claim ≡ false) stands.world (search rules));
    }

pub returns-then-is_shown-clause-shown : goal.returns-then-is_shown-clause-shown
returns-then-is_shown-clause-shown g c = λ yes. (
  c.loop-taken.taken,
  search rules,
  subst (λ w. IsTrue (shows w c.args.claim.now)) c.loop-taken.invariant.world (search rules),
)

pub returns-clause-shown : goal.returns-clause-shown
returns-clause-shown g c = λ yes. (
  c.loop-taken.taken,
  search rules,
  subst (λ w. IsTrue (shows w c.args.claim.now)) c.loop-taken.invariant.world (search rules),
)

pub returns-clause-unshown : goal.returns-clause-unshown
returns-clause-unshown g c = λ no k within.
    let stands = c.loop-taken.invariant in
    let same : c.loop-taken.taken ≡ length c.args.schedule.now = search rules in
    below_more (λ n. shows (run c.args.image.now (take n c.args.schedule.now)) c.args.claim.now ≡ false)
    c.loop-taken.taken stands.unshown
    (subst (λ w. shows w c.args.claim.now ≡ false) stands.world (search rules))
    k (omega (arith, within, same))
