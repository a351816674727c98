use Rattle.std.proofs.Common.{ℕ, ◌-◌, ◌∙◌, Option, arith}
use Rattle.rayon.specs.Numbers.{nat_range}
use Rattle.seed_verdicts.specs.Seeds.{IsSeedTold, seed_at}
use Rattle.seed_verdicts.specs.declared.run_flaw.RunFlaw.{RunFlaw}
use Rattle.seed_verdicts.proofs.Answered.{all_answered}
use Rattle.seed_verdicts.proofs.first_flaws.flaws_of.Goals as goal

pub returns-in-Ok-Ok-clause-known : goal.returns-in-Ok-Ok-clause-known
returns-in-Ok-Ok-clause-known g c =
    let j = c.args.judging.now in
    let h = rw c.in-Ok-Ok.field-0-is at c.in-Ok-Ok.ensures in
    let chain = rw (c.with_min_len.ensures.base, c.map.ensures.base, c.map.ensures.f) at h.1 in
    let range = c.into_par_iter.ensures in
    let places = chain.1 ∙ (λ i. nat_range (range.0 i) (range.1 i)) in
    let told = all_answered
    (λ (i : ℕ) (o : Option RunFlaw). IsSeedTold
    j.image.now j.expected.now j.claims.now j.fair j.most (seed_at c.args.first i) o)
    c.args.begin (c.args.end - c.args.begin) chain.0 h.0 h.2.0 c.in-Ok-Ok.known.items chain.2 places h.2.1 h.2.2 in
    record { count = omega (arith, told.1, c.requires); each = told.0 }
