use Rattle.std.proofs.Common.{◌≡◌, ◌+◌, [], ◌∷◌, length, get_or, ap, ◌∙◌, arith, length-append}
use Rattle.run_findings.specs.Links.{last_write_at}
use Rattle.run_findings.proofs.Chains.{links-more}
use Rattle.run_findings.proofs.links.Links.last_writes.Goals as goal

pub loop-step-preserved : goal.loop-step-preserved
loop-step-preserved c =
    let ds = c.args.actions.now in
    let step = c.loop-step.step in
    let lasts = c.loop-step.lasts.items in
    let last = c.last_write-last.result in
    let longer : length c.push.new.self.items ≡ length lasts + 1 =
    ap length c.in_ok-push.ensures.items ∙ length-append lasts (last ∷ []) in
    let counted : length lasts ≡ step = c.loop-step.invariant.count in
    record {
      count = omega arith;
      is = λ n other below.
          ap (λ xs. get_or xs n other) c.in_ok-push.ensures.items
          ∙ links-more (last_write_at ds) lasts step last counted c.loop-step.invariant.is c.last_write-last.ensures n other
          (omega arith);
    }
