use Rattle.std.proofs.Common.{◌≡◌, ℕ, ◌-◌, ap, ◌∙◌, arith, Vec, Global}
use Rattle.std.specs.List.{range_with_len}
use Rattle.rayon.specs.Numbers.{nat_range}
use Rattle.seed_outcomes.specs.SeedLists.{seeds_between}
use Rattle.seed_outcomes.specs.SeedRuns.{surveyed_program}
use Rattle.seed_outcomes.specs.Outcomes.{AreOutcomes}
use Rattle.seed_outcomes.specs.Parts.{part_begin, part_end}
use Rattle.seed_outcomes.specs.declared.outcomes.SeedOutcome.{SeedOutcome}
use Rattle.seed_outcomes.proofs.Answered.{all_answered}
use Rattle.seed_outcomes.proofs.SeedParts.{shared_parts}
use Rattle.seed_outcomes.proofs.surveys.outcomes_of_parts.Goals as goal

pub returns-in-Ok-Ok : goal.returns-in-Ok-Ok
returns-in-Ok-Ok g c =
    let p = surveyed_program c.args.surveyed.now in
    let first = c.args.first in
    let begin = c.args.begin in
    let end = c.args.end in
    let size = c.part_size-size.result in
    let count = c.parts_of.result in
    let h = rw c.in-Ok-Ok.field-0-is at c.in-Ok-Ok.ensures in
    let based = rw c.with_min_len.ensures.base at h.1 in
    let mapped = rw c.map.ensures.base at based in
    let answers = rw c.map.ensures.f at mapped.2 in
    let range = c.into_par_iter.ensures in
    let whole : count - 0 ≡ count = omega arith in
    let places = mapped.1 ∙ (λ i. nat_range (range.0 i) (range.1 i)) ∙ ap (range_with_len 0) whole in
    let found = all_answered _
    (λ (i : ℕ) (v : Vec SeedOutcome Global).
    AreOutcomes p (seeds_between first (part_begin begin end size i) (part_end begin end size i)) v.items)
    count mapped.0 h.0 h.2.0 c.in-Ok-Ok.found.items answers places h.2.1 h.2.2 in
    shared_parts p first begin end size c.in-Ok-Ok.found.items count found.1 (c.parts_of.ensures.all c.part_size-size.ensures)
    c.requires found.0
