use Rattle.schedule_makers.proofs.Randomness.{word-drawn, next-state}
use Rattle.schedule_makers.proofs.seed_words.SeedWords.word_after.Goals as goal

pub returns-clause-is : goal.returns-clause-is
returns-clause-is c =
    word-drawn c.args.self.now.seed c.args.made.now c.next_word.result c.args.self.now.generator
    c.next_word.new.self c.requires c.next_word.ensures

pub returns-clause-more : goal.returns-clause-more
returns-clause-more c t =
    next-state c.args.self.now.seed c.args.made.now t c.next_word.result c.args.self.now.generator
    c.next_word.new.self c.requires c.next_word.ensures
