use Rattle.std.proofs.Common.{◌∙◌, ap, sym, subst}
use Rattle.judgements.specs.Known.{HasDecided, is_by_search}
use Rattle.judgements.specs.Shown.{IsShownFor}
use Rattle.judgements.specs.declared.case_judgements.Reason.{Reason}
use Rattle.judgements.specs.declared.verdict_kinds.VerdictKind.{VerdictKind}
use Rattle.judgements.proofs.by_schedules.judged_by_search.Goals as goal

pub returns-clause-shown : goal.returns-clause-shown
returns-clause-shown c = λ p search.
    let ends = c.args.found.ends.items in
    let decided = c.in_ok-decided.decided in
    subst (λ (v : VerdictKind). IsShownFor p ends v c.plain-judgement.result.reason)
    (sym c.plain-judgement.ensures.kind)
    (subst (λ (w : Reason). IsShownFor p ends decided.0 w)
    (sym c.plain-judgement.ensures.reason) (c.in_ok-decided.ensures.shown p search))

pub returns-clause-left : goal.returns-clause-left
returns-clause-left c = λ p search kind.
    c.in_ok-decided.ensures.left p search (sym c.plain-judgement.ensures.kind ∙ kind)

pub returns-clause-known : goal.returns-clause-known
returns-clause-known c =
    let found = c.args.found in
    let ends = found.ends.items in
    let decided = c.in_ok-decided.decided in
    record {
      known = c.plain-judgement.ensures.known ∙ c.known_of-known.ensures;
      reason = ap is_by_search c.plain-judgement.ensures.reason ∙ c.in_ok-decided.ensures.searched;
      decided =
          subst (λ (v : VerdictKind). HasDecided found ends v c.plain-judgement.result.reason)
          (sym c.plain-judgement.ensures.kind)
          (subst (λ (w : Reason). HasDecided found ends decided.0 w) (sym c.plain-judgement.ensures.reason)
          c.in_ok-decided.ensures.decided);
    }
