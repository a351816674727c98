use Rattle.std.proofs.Common.{◌∙◌, ◌+◌, ap, sym, Some, None}
use Rattle.judgements.specs.Known.{is_open, known_by}
use Rattle.judgements.specs.Known.IsKnownByRuns.{by_one}
use Rattle.judgements.proofs.by_seeds.judged_by_flaw.Goals as goal

pub returns-clause-known : goal.returns-clause-known
returns-clause-known c =
    by_one c.in_ok-run.run' c.plain-judgement.ensures.reason
    (c.plain-judgement.ensures.known ∙ c.known_of.ensures
    ∙ ap (λ n. known_by None (Some n)) (c.tried_up_to-tried.ensures ∙ ap (λ n. n + 1) (sym c.in_ok-run.ensures.seed)))
    (ap is_open c.plain-judgement.ensures.kind ∙ c.kind_of-kind.ensures.decided)
