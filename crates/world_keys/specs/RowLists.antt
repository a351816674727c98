-- Lists of numbers, one behind another.
use Rattle.std.specs.Prelude.{◌≡◌, ℕ, zero, suc, ◌-◌, ◌≤◌, List, [], ◌∷◌, take, drop}

-- the lists whose numbers these are: the first begins at this place, and each one ends where the next begins
unfoldable pub lists_from : ℕ → List ℕ → List ℕ → List (List ℕ)
lists_from start [] numbers = []
lists_from start (e ∷ ends) numbers = take (e - start) numbers ∷ lists_from e ends (drop (e - start) numbers)

-- each list ends where it begins or later, and the last one ends with the numbers
abbrev pub AreEndsFrom : ℕ → List ℕ → ℕ → Type 0
AreEndsFrom start [] count = start ≡ count
AreEndsFrom start (e ∷ ends) count = (start ≤ e) × AreEndsFrom e ends count

-- where the list at a place begins
unfoldable pub start_at : ℕ → List ℕ → ℕ → ℕ
start_at start ends zero = start
start_at start [] (suc k) = start
start_at start (e ∷ ends) (suc k) = start_at e ends k
