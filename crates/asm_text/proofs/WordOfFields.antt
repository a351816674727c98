-- The word that spells an instruction is the number of its fields.
use Rattle.std.proofs.Common.{◌≡◌, ℕ, Bool, true, false, Some, sym, ◌∙◌, ap, refl, arith}
use Rattle.std.specs.Prelude.{◌==◌, ◌&&◌}
use Rattle.std.proofs.lemmas.Bool.Decides.{nat_tests}
use Rattle.insn_word.specs.Fields.{number_of_fields}
use Rattle.insn_word.specs.Words.{fields, is_in}
use Rattle.insn_word.specs.Reading.{instruction_in, candidate, reads_back, kept_if, has_one_writer}
use Rattle.insn_word.specs.declared.profiles.Profile.{Profile}
use Rattle.insn_word.specs.declared.insn.Insn.{Insn}

kept : (b : Bool) (c i : Insn) → kept_if b c ≡ Some i → (b ≡ true) × (c ≡ i)
kept true c i e = (refl, cc)
kept false c i e = absurd cc

same_number : (n w : ℕ) (one has : Bool) → (n == w && one && has) ≡ true → n ≡ w
same_number n w one has e = grind (arith, nat_tests)

pub number_of_spelt : (profile : Profile) (w : ℕ) (i : Insn) → instruction_in profile w ≡ Some i
    → number_of_fields (fields i) ≡ w
unfolding instruction_in
number_of_spelt profile w i e =
    let k = kept (reads_back profile w (candidate w)) (candidate w) i e in
    ap (λ (j : Insn). number_of_fields (fields j)) (sym k.1)
    ∙ same_number (number_of_fields (fields (candidate w))) w (has_one_writer (candidate w))
    (is_in profile (candidate w)) k.0
