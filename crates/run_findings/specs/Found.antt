-- What was found in the first steps of a run.
use Rattle.std.specs.Prelude.{ℕ, zero, suc, List, [], ◌∷◌, ◌++◌, Option, Some, None}

abbrev pub list_of : {F : Type 0} → Option F → List F
list_of None = []
list_of (Some f) = f ∷ []

-- what is found in each of the first n steps, in their order
abbrev pub found_to : {F : Type 0} → (ℕ → Option F) → ℕ → List F
found_to at zero = []
found_to at (suc n) = found_to at n ++ list_of (at n)

-- the same where each step may have several
abbrev pub lists_to : {F : Type 0} → (ℕ → List F) → ℕ → List F
lists_to at zero = []
lists_to at (suc n) = lists_to at n ++ at n
