-- What was read of a case is judged: a text says something, and a program keeps the rules of which it breaks none.
use Rattle.std.proofs.Common.{◌≡◌, ℕ, suc, ◌+◌, ◌≤◌, Bool, true, false, not, cond, List, [], ◌∷◌, length}
use Rattle.std.proofs.Common.{refl, arith, ⊎_elim, lt-ltb, None}
use Rattle.std.specs.Prelude.{Ok, Err, IsTrue, IsFalse, if◌then◌else◌}
use Rattle.std.specs.List.{list_all, position_or_len, position}
use Rattle.std.proofs.lemmas.Bool.{cases_lt}
use Rattle.image_file.specs.ImageValue.{ImageValue}
use Rattle.program_rules.specs.Keeping.{is_kept}
use Rattle.program_rules.specs.declared.program_rule.ProgramRule.{ProgramRule}
use Rattle.text_parts.specs.Pieces.{pieces}
use Rattle.expectation_files.specs.Addresses.{Names}
use Rattle.expectation_files.specs.Files.{FileSaid, RequirementsValue, file_said, lines_said, unless_nothing, is_nothing}
use Rattle.expectation_files.specs.Judged.{are_rules_kept}
use Rattle.expectation_files.specs.declared.faults.FileFault.TheVariants as file

none_before : {A : Type 0} (p : A → Bool) (xs : List A) → position p xs ≡ None → length xs ≤ position_or_len p xs
none_before p xs e = ⊎_elim
    (λ h. let e' = rw (lt-ltb (position_or_len p xs) (length xs) h) at e in cc)
    (λ h. h)
    (cases_lt (position_or_len p xs) (length xs))

all_pass : {A : Type 0} (p : A → Bool) (xs : List A) → length xs ≤ position_or_len (λ x. not (p x)) xs
    → list_all p xs ≡ true
all_pass p [] h = refl
all_pass p (x ∷ xs) h = by (all_pass p xs) (p x) refl h
  where
    by : (length xs ≤ position_or_len (λ y. not (p y)) xs → list_all p xs ≡ true) → (b : Bool) → p x ≡ b
        → suc (length xs) ≤ cond (not (not b)) (1 + position_or_len (λ y. not (p y)) xs) 0
        → list_all p (x ∷ xs) ≡ true
    by rest true e l = rw e (rest (omega (arith, l)))
    by rest false e l = absurd (omega (arith, l))

-- a program that breaks none of some rules keeps them
pub kept : (i : ImageValue) (rules : List ProgramRule) → position (λ r. not (is_kept i r)) rules ≡ None
    → IsTrue (are_rules_kept i rules)
kept i rules e = all_pass (is_kept i) rules (none_before (λ r. not (is_kept i r)) rules e)

-- what a text says is something
pub something : (names : Names) (i : ImageValue) (text : List ℕ) (v : RequirementsValue)
    → file_said names i text ≡ Ok v → IsFalse (is_nothing v)
unfolding file_said
something names i text v e = by (lines_said names i false 1 (pieces 10 text)) e
  where
    by : (said : FileSaid) → unless_nothing said ≡ Ok v → is_nothing v ≡ false
    by (Err f) e = cc
    by (Ok w) e = here (is_nothing w) refl e
      where
        here : (b : Bool) → is_nothing w ≡ b → (if b then Err file.Empty else Ok w) ≡ Ok v → is_nothing v ≡ false
        here true s e = cc
        here false s e = cc
