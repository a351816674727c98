-- One more label.
use Rattle.std.proofs.Common.{◌≡◌, ℕ, Bool, true, false, cond, List, Option, Some, None, refl, sym, ◌∙◌, ap, unwrap_or}
use Rattle.std.specs.Option.{option_or}
use Rattle.std.specs.Str.{bytes_eq}
use Rattle.std.proofs.lemmas.Slice.Eq.{bytes_eq-Decides}
use Rattle.asm_line.specs.Operands.{Places}
use Rattle.asm_line.specs.Labels.{place_told}
use Rattle.asm_line.specs.declared.place.Place.{Place}

or_none : (o : Option Place) → option_or o None ≡ o
or_none None = refl
or_none (Some p) = refl

or_some : (o : Option Place) (p : Place) → Some (unwrap_or o p) ≡ option_or o (Some p)
or_some None p = refl
or_some (Some q) p = refl

-- A label keeps the place that it has, or gets this one.
pub noted : (before now : Places) (label : List ℕ) (p v : Place) → v ≡ unwrap_or (before label) p
    → ((name : List ℕ) → now name ≡ cond (bytes_eq label name) (Some v) (before name))
    → (name : List ℕ) → now name ≡ option_or (before name) (place_told name (Some label) p)
noted before now label p v value is name = is name ∙ by_test (bytes_eq label name) refl
  where
    by_test : (b : Bool) → bytes_eq label name ≡ b
        → cond (bytes_eq label name) (Some v) (before name) ≡ option_or (before name) (place_told name (Some label) p)
    by_test true e =
        let same : label ≡ name = (bytes_eq-Decides label name).0 e in
        let there : v ≡ unwrap_or (before name) p = value ∙ ap (λ l. unwrap_or (before l) p) same in
        rw e (ap Some there ∙ or_some (before name) p)
    by_test false e = rw e (sym (or_none (before name)))
