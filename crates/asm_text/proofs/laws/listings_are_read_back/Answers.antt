use Rattle.asm_text.proofs.ReadBack.{reads_back, one_meaning}
use Rattle.asm_text.proofs.laws.listings_are_read_back.Goals as goal

pub returns : goal.returns
returns c = record {
  reads_back = reads_back (record {
    word = c.listed_words_are_read_back.ensures;
    profile = c.listed_directives_are_read_back.ensures.profile;
    tells = c.listed_directives_are_read_back.ensures.tells;
    slim = c.listed_directives_are_read_back.ensures.slim;
    chain = c.listed_directives_are_read_back.ensures.chain;
    retry = c.listed_directives_are_read_back.ensures.retry;
    trap = c.listed_directives_are_read_back.ensures.trap;
    entry = c.listed_directives_are_read_back.ensures.entry;
    fill = c.listed_directives_are_read_back.ensures.fill;
  });
  one_meaning = one_meaning;
}
