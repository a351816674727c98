use Rattle.std.proofs.Common.{sym}
use Rattle.insn_word.specs.Laws.{ProfileTwoHasProfileOne}
use Rattle.insn_word.specs.Words.{IsValidIn}
use Rattle.insn_word.specs.declared.profiles.Profile.{Profile}
use Rattle.insn_word.specs.declared.profiles.Profile.TheVariants.{One, Two}
use Rattle.insn_word.specs.declared.insn.Insn.{Insn}
use Rattle.asm_text.proofs.WordOfFields.{number_of_spelt}
use Rattle.asm_text.proofs.spelling.spelling_of.Goals as goal

-- what is valid in any profile is valid in Profile 2
wider : ProfileTwoHasProfileOne → (p : Profile) (i : Insn) → IsValidIn p i → IsValidIn Two i
wider law One i h = (h.0, law h.0 i h.1)
wider law Two i h = h

pub encode-requires : goal.encode-requires
encode-requires c = record {
  valid = wider c.spelling_is_one_to_one.ensures.wider c.requires.0 c.args.insn.now c.requires.1;
}

pub returns : goal.returns
returns c =
    sym (number_of_spelt Two c.encode.result c.args.insn.now
    ((c.spelling_is_one_to_one.ensures.computed Two c.encode.result c.args.insn.now).1 c.encode.ensures.spelt))
