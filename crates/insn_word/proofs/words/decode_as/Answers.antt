use Rattle.insn_word.proofs.WordParts.{some_iff, some_spelt, some_valid, none_iff}
use Rattle.insn_word.specs.Reading.{instruction_in}
use Rattle.insn_word.proofs.Candidate.{instruction-spelt, same_option}
use Rattle.insn_word.proofs.words.decode_as.Goals as goal

pub returns-clause-some : goal.returns-clause-some
returns-clause-some c = some_iff c.args.profile c.args.word c.read_parts.result c.read_parts.ensures

pub returns-clause-spelt : goal.returns-clause-spelt
returns-clause-spelt c = some_spelt c.args.profile c.args.word c.read_parts.result (returns-clause-some c)

pub returns-clause-valid : goal.returns-clause-valid
returns-clause-valid c = some_valid c.args.profile c.args.word c.read_parts.result (returns-clause-some c)

pub returns-clause-none : goal.returns-clause-none
returns-clause-none c = none_iff c.args.profile c.args.word c.read_parts.result (returns-clause-some c)

pub returns-clause-is : goal.returns-clause-is
returns-clause-is c =
    same_option c.read_parts.result (instruction_in c.args.profile c.args.word)
    (λ i.
    let found = returns-clause-some c i in
    let spelt = instruction-spelt c.args.profile c.args.word i in
    (λ e. spelt.1 (found.0 e), λ e. found.1 (spelt.0 e)))
