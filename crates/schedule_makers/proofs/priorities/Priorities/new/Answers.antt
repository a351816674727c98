use Rattle.std.proofs.lemmas.Bool.{lt-ltb, le-ltb}
use Rattle.schedule_makers.proofs.ChangePoints.{are-changes, turned, in-order}
use Rattle.schedule_makers.proofs.priorities.Priorities.new.Goals as goal

pub returns-then-second-first-clause-changes : goal.returns-then-second-first-clause-changes
returns-then-second-first-clause-changes c =
    let are = are-changes c.args.seed c.args.fair_steps c.place_by-first.result c.place_by-second.result
    c.next_word.result c.next_word-2.result c.seed_from_u64-generator.result c.next_word.new.self c.next_word-2.new.self
    c.seed_from_u64-generator.ensures c.next_word.ensures c.place_by-first.ensures c.next_word-2.ensures
    c.place_by-second.ensures in
    turned c.args.seed c.args.fair_steps c.place_by-first.result c.place_by-second.result
    are (lt-ltb c.place_by-second.result c.place_by-first.result c.if-second-first.true)

pub returns-else-second-first-clause-changes : goal.returns-else-second-first-clause-changes
returns-else-second-first-clause-changes c =
    let are = are-changes c.args.seed c.args.fair_steps c.place_by-first.result c.place_by-second.result
    c.next_word.result c.next_word-2.result c.seed_from_u64-generator.result c.next_word.new.self c.next_word-2.new.self
    c.seed_from_u64-generator.ensures c.next_word.ensures c.place_by-first.ensures c.next_word-2.ensures
    c.place_by-second.ensures in
    in-order c.args.seed c.args.fair_steps c.place_by-first.result c.place_by-second.result
    are (le-ltb c.place_by-second.result c.place_by-first.result c.if-second-first.false)
