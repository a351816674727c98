use Rattle.std.proofs.Common.{◌≡◌, ◌∙◌, sym, subst}
use Rattle.insn_word.specs.Words.{SpellsIn}
use Rattle.insn_word.proofs.Same.{Decides-insn}
use Rattle.insn_word.proofs.WordParts.{Spells-bits}
use Rattle.insn_word.proofs.insn.Insn.is_valid_as.Goals as goal

pub returns-in-Some : goal.returns-in-Some
returns-in-Some c =
    let p = c.args.profile in
    let same = Decides-insn c.in-Some.insn c.args.self.now in (
      λ equal.
          let spelt = (c.decode_as.ensures.some c.in-Some.insn).0 c.in-Some.is in
          (c.bits.result, subst (SpellsIn p c.bits.result) (same.0 (sym c.eq.ensures ∙ equal)) spelt),
      λ valid.
          let spelt = Spells-bits p c.bits.result c.args.self.now c.bits.ensures valid in
          let found = (c.decode_as.ensures.some c.args.self.now).1 spelt in
          let one : c.in-Some.insn ≡ c.args.self.now = cc in
          c.eq.ensures ∙ same.1 one,
    )

pub returns-in-None : goal.returns-in-None
returns-in-None c = (
  λ equal. cc,
  λ valid.
      let spelt = Spells-bits c.args.profile c.bits.result c.args.self.now c.bits.ensures valid in
      let found = (c.decode_as.ensures.some c.args.self.now).1 spelt in cc,
)
