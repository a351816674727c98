use Rattle.std.proofs.Common.{◌≡◌, ◌+◌, ◌<◌, [], ◌∷◌, length, get_or, ap, ◌∙◌, arith, length-append, Some}
use Rattle.run_findings.specs.Links.{latest_of, latest_in, with_step}
use Rattle.run_findings.specs.Own.{own_at}
use Rattle.run_findings.proofs.Chains.{links-more}
use Rattle.run_findings.proofs.OwnSteps.{own_more, own_made, ranges_more}
use Rattle.run_findings.proofs.own.own_links.Goals as goal

pub loop-step-preserved : goal.loop-step-preserved
loop-step-preserved c =
    let ds = c.args.actions.now in
    let step = c.loop-step.step in
    let links = c.loop-step.links.items in
    let link = c.in_ok-before.before in
    let number = c.number_of-number.ensures in
    let within : step < length ds = omega arith in
    let here : link ≡ own_at ds step =
    c.in_ok-before.ensures.before
    ∙ ap (λ a. latest_in c.loop-step.latest (Some a)) number.is
    ∙ own_made ds step _ c.loop-step.latest within number.range c.loop-step.invariant.ranges c.loop-step.invariant.latest in
    let longer : length c.push.new.self.items ≡ length links + 1 =
    ap length c.in_ok-push.ensures.items ∙ length-append links (link ∷ []) in
    let counted : length links ≡ step = c.loop-step.invariant.count in
    record {
      count = omega arith;
      is = λ n other below.
          ap (λ xs. get_or xs n other) c.in_ok-push.ensures.items
          ∙ links-more (own_at ds) links step link counted c.loop-step.invariant.is here n other (omega arith);
      ranges = λ k below.
          ranges_more ds step _ within number.range c.loop-step.invariant.ranges k (omega arith);
      latest = λ a.
          c.in_ok-before.ensures.noted a
          ∙ ap (λ w. with_step a (Some w) step (latest_of c.loop-step.latest a)) number.is
          ∙ own_more ds step (step + 1) a _ (latest_of c.loop-step.latest a) (omega arith) within
          (c.loop-step.invariant.latest a);
    }
