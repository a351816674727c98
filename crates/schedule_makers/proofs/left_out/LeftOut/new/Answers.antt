use Rattle.std.proofs.Common.{◌*◌, ◌/◌, ◌^◌, ap, ◌∙◌}
use Rattle.schedule_makers.specs.LeftOut.{delay_bound}
use Rattle.schedule_makers.proofs.ChangePoints.{two-words}
use Rattle.schedule_makers.proofs.left_out.LeftOut.new.Goals as goal

pub returns-clause-steps : goal.returns-clause-steps
returns-clause-steps c =
    let words = two-words c.args.seed c.next_word-word.result c.next_word.result c.seed_from_u64-generator.result
    c.next_word-word.new.self c.next_word.new.self c.seed_from_u64-generator.ensures c.next_word-word.ensures
    c.next_word.ensures in
    let bound = c.delay_bound-bound.ensures ∙ ap (λ w. delay_bound w c.args.fair_steps) words.1 in
    c.place_by.ensures ∙ (λ i. words.0 i * bound i / 2 ^ 64)
