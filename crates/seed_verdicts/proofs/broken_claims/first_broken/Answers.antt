use Rattle.std.proofs.Common.{◌≡◌, ℕ, ◌<◌, Some, length, take, sym, ap, ◌∙◌, subst, arith, rules}
use Rattle.std.specs.Prelude.{IsTrue}
use Rattle.processor.specs.World.{run}
use Rattle.claims.specs.Holding.{holds}
use Rattle.schedule_verdicts.specs.KeptClaims.{all_hold}
use Rattle.schedule_verdicts.proofs.Every.{below_more}
use Rattle.schedule_verdicts.proofs.OnTheWay.{step_more}
use Rattle.seed_verdicts.specs.RunFlaws.{first_unkept}
use Rattle.seed_verdicts.proofs.Places.{passed}
use Rattle.seed_verdicts.proofs.broken_claims.first_broken.Goals as goal

pub loop-taken-preserved : goal.loop-taken-preserved
loop-taken-preserved g c =
    let image = c.args.image.now in
    let ts = c.args.schedule.now in
    let claims = c.args.claims.now in
    let stands = c.loop-taken.invariant in
    record {
      image = c.step.ensures.image ∙ stands.image;
      world =
          step_more image c.loop-taken.machine.image ts c.loop-taken.taken (record { p = 0; s = 0 })
          c.loop-taken.machine.world c.step.new.self.world c.step.result (search rules) stands.image stands.world
          c.step.ensures.world;
      kept =
          below_more (λ k. IsTrue (all_hold claims (run image (take k ts)))) c.loop-taken.taken stands.kept
          (subst (λ w. IsTrue (all_hold claims w)) stands.world
          (passed (holds c.loop-taken.machine.world) claims c.in_default.ensures));
    }

pub returns-in-Some-first_unkept-clause-told : goal.returns-in-Some-first_unkept-clause-told
returns-in-Some-first_unkept-clause-told g c =
    let image = c.args.image.now in
    let ts = c.args.schedule.now in
    let claims = c.args.claims.now in
    let stands = c.loop-taken.invariant in
    let same : c.loop-taken.taken ≡ length ts = search rules in
    record {
      within = omega arith;
      broken =
          subst (λ k. first_unkept claims (run image (take k ts)) ≡ Some c.in-Some-first_unkept.claim) same
          (sym (c.in-Some-first_unkept.ensures ∙ ap (first_unkept claims) stands.world));
      before =
          subst (λ n. (k : ℕ) → k < n → IsTrue (all_hold claims (run image (take k ts)))) same stands.kept;
    }

pub returns-clause-told : goal.returns-clause-told
returns-clause-told g c =
    let image = c.args.image.now in
    let ts = c.args.schedule.now in
    let claims = c.args.claims.now in
    let stands = c.loop-taken.invariant in
    let same : c.loop-taken.taken ≡ length ts = search rules in
    λ k within.
    below_more (λ n. IsTrue (all_hold claims (run image (take n ts)))) c.loop-taken.taken stands.kept
    (subst (λ w. IsTrue (all_hold claims w)) stands.world
    (passed (holds c.loop-taken.machine.world) claims c.in-None.ensures))
    k (omega (arith, within, same))
