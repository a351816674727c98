use Rattle.std.proofs.Common.{◌∙◌, take, subst, rules}
use Rattle.std.specs.Prelude.{IsTrue}
use Rattle.processor.specs.World.{run}
use Rattle.schedule_verdicts.specs.KeptClaims.{all_hold}
use Rattle.schedule_verdicts.proofs.Every.{below_more}
use Rattle.schedule_verdicts.proofs.OnTheWay.{step_more}
use Rattle.schedule_verdicts.proofs.kept_claims.are_kept_on_the_way.Goals as goal

pub loop-taken-preserved : goal.loop-taken-preserved
loop-taken-preserved g c =
    let image = c.args.image.now in
    let ts = c.args.schedule.now in
    let claims = c.args.claims.now in
    let stands = c.loop-taken.invariant in
    record {
      image = c.step.ensures.image ∙ stands.image;
      world =
          step_more image c.loop-taken.machine.image ts c.loop-taken.taken (record { p = 0; s = 0 })
          c.loop-taken.machine.world c.step.new.self.world c.step.result (search rules) stands.image stands.world
          c.step.ensures.world;
      kept =
          below_more (λ k. IsTrue (all_hold claims (run image (take k ts)))) c.loop-taken.taken stands.kept
          (subst (λ w. IsTrue (all_hold claims w)) stands.world (search rules));
    }
