-- A claim that looks at a word.
use Rattle.std.proofs.Common.{◌≡◌, ℕ, zero, suc, ◌+◌, ◌<◌, Bool, true, false, ◌||◌, refl, arith, List, [], ◌∷◌, length, get_or}
use Rattle.claims.specs.Looking.{form_looks_at_word, is_word_looked_at}
use Rattle.claims.specs.declared.claim.Claim.{Claim}

pub record LooksThere (claims : List Claim) (a : ℕ) : Type 0 where
  pub place : ℕ
  pub claim : Claim
  pub below : place < length claims
  pub looks : form_looks_at_word a (get_or claims place claim).form ≡ true

looks_if : (c : Claim) (cs : List Claim) (a : ℕ) → (is_word_looked_at cs a ≡ true → LooksThere cs a) → (b : Bool)
    → form_looks_at_word a c.form ≡ b → (b || is_word_looked_at cs a) ≡ true → LooksThere (c ∷ cs) a
looks_if c cs a rest true is found = record { place = 0; claim = c; below = omega arith; looks = is }
looks_if c cs a rest false is found =
    let got = rest found in
    record {
      place = suc got.place;
      claim = got.claim;
      below = let below = got.below in omega (arith, below);
      looks = got.looks;
    }

-- where one of them does
pub looks_there : (claims : List Claim) (a : ℕ) → is_word_looked_at claims a ≡ true → LooksThere claims a
looks_there [] a found = let off : ⊥ = cc in absurd off
looks_there (c ∷ cs) a found = looks_if c cs a (looks_there cs a) (form_looks_at_word a c.form) refl found
