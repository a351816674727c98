use Rattle.std.proofs.Common.{◌∙◌, sym, refl}
use Rattle.insn_word.specs.Fields.{number_of_fields}
use Rattle.insn_word.specs.Words.{fields}
use Rattle.insn_word.proofs.WordParts.{Holds-from_spells, Spells-number, Spells-from_number, Spells-in_two}
use Rattle.insn_word.proofs.Read.{candidate-holds}
use Rattle.insn_word.proofs.Candidate.{instruction-spelt}
use Rattle.insn_word.proofs.laws.spelling_is_one_to_one.Goals as goal

pub returns-clause-one_instruction : goal.returns-clause-one_instruction
returns-clause-one_instruction c p word i j first second =
    sym (candidate-holds p word i (Holds-from_spells p word i first))
    ∙ candidate-holds p word j (Holds-from_spells p word j second)

pub returns-clause-one_word : goal.returns-clause-one_word
returns-clause-one_word c p i v w first second = sym (Spells-number p v i first) ∙ Spells-number p w i second

pub returns-clause-valid : goal.returns-clause-valid
returns-clause-valid c p i = (
  λ valid. (valid.1.in_range, valid.1.rest, valid.1.one_writer, valid.1.in_profile),
  λ h. (number_of_fields (fields i), Spells-from_number p (number_of_fields (fields i)) i h.0 refl h.1 h.2 h.3),
)

pub returns-clause-computed : goal.returns-clause-computed
returns-clause-computed c = instruction-spelt

pub returns-clause-wider : goal.returns-clause-wider
returns-clause-wider c = Spells-in_two
