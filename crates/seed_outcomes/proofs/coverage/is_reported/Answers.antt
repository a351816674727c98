use Rattle.std.proofs.Common.{◌≡◌, subst}
use Rattle.seed_outcomes.specs.Coverage.{IsBrokenBySome}
use Rattle.seed_outcomes.proofs.coverage.is_reported.Goals as goal

pub returns-in-Broken : goal.returns-in-Broken
returns-in-Broken c = (
  λ yes. (c.in-Broken.claim, c.in-Broken.is, c.is_broken_by_some.ensures.0 yes),
  λ reported.
      let one = reported.1 in
      let other = c.in-Broken.is in
      let same : reported.0 ≡ c.in-Broken.claim = cc in
      c.is_broken_by_some.ensures.1 (subst (λ n. IsBrokenBySome n c.args.outcomes.now) same reported.2),
)
