use Rattle.std.proofs.Common.{◌∙◌, sym}
use Rattle.insn_word.specs.declared.profiles.Profile.TheVariants.{One, Two}
use Rattle.insn_word.proofs.WordParts.{Spells-number, Spells-bits}
use Rattle.insn_word.proofs.words.encode.Goals as goal

pub returns-clause-spelt : goal.returns-clause-spelt
returns-clause-spelt c = Spells-bits Two c.bits.result c.args.insn.now c.bits.ensures c.requires.valid

pub returns-clause-first : goal.returns-clause-first
returns-clause-first c valid = Spells-bits One c.bits.result c.args.insn.now c.bits.ensures valid

pub returns-clause-only : goal.returns-clause-only
returns-clause-only c word spelt =
    sym (Spells-number Two word c.args.insn.now spelt) ∙ sym (c.bits.ensures spelt.in_range)
