use Rattle.std.proofs.Common.{◌∙◌}
use Rattle.schedule_makers.proofs.Randomness.{first-state}
use Rattle.schedule_makers.proofs.seed_words.SeedWords.new.Goals as goal

pub returns-clause-begins : goal.returns-clause-begins
returns-clause-begins c = c.seed_from_u64.ensures ∙ first-state c.args.seed
