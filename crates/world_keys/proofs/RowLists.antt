-- Lists of numbers, one behind another.
use Rattle.std.proofs.Common.{◌≡◌, ℕ, zero, suc, ◌+◌, ◌-◌, ◌<◌, ◌≤◌, refl, sym, ap, ◌∙◌, subst, arith}
use Rattle.std.proofs.Common.{List, [], ◌∷◌, ◌++◌, Some, length, take, drop, get_or, slice_get, length-drop}
use Rattle.std.proofs.Math.Seq.{take-length}
use Rattle.std.proofs.lemmas.List.{drop-drop, take-append-le, drop-append-le}
use Rattle.world_keys.specs.RowLists.{lists_from, start_at, AreEndsFrom}

-- Ends.

ends_within : (start : ℕ) (ends : List ℕ) (count : ℕ) → AreEndsFrom start ends count → start ≤ count
ends_within start [] count are = omega (arith, are)
ends_within start (e ∷ ends) count are = omega (arith, are.0, ends_within e ends count are.1)

-- the list at a place begins and ends within the numbers
pub within_ends : (start : ℕ) (ends : List ℕ) (count k : ℕ) → AreEndsFrom start ends count → k < length ends
    → (start ≤ start_at start ends k) × ((start_at start ends k ≤ get_or ends k 0) × (get_or ends k 0 ≤ count))
unfolding start_at
within_ends start [] count k are below = absurd (omega arith)
within_ends start (e ∷ ends) count zero are below = (omega arith, (are.0, ends_within e ends count are.1))
within_ends start (e ∷ ends) count (suc k) are below =
    let later = within_ends e ends count k are.1 (omega arith) in (omega (arith, later.0, are.0), later.1)

-- where the list at a place begins, of all lists
pub start_first : (ends : List ℕ) (k : ℕ) → k ≡ 0 → start_at 0 ends k ≡ 0
unfolding start_at
start_first ends zero none = refl
start_first ends (suc k) none = absurd (omega (arith, none))

start_later : (start : ℕ) (ends : List ℕ) (k : ℕ) → suc k < length ends → start_at start ends (suc k) ≡ get_or ends k 0
unfolding start_at
start_later start [] k below = absurd (omega arith)
start_later start (e ∷ []) zero below = absurd (omega arith)
start_later start (e ∷ f ∷ ends) zero below = refl
start_later start (e ∷ ends) (suc k) below = start_later e ends k (omega arith)

pub start_is : (ends : List ℕ) (k j : ℕ) → k ≡ suc j → k < length ends → get_or ends j 0 ≡ start_at 0 ends k
start_is ends k j next below =
    sym (ap (start_at 0 ends) next ∙ start_later 0 ends j (subst (λ n. n < length ends) next below))

-- Lists.

pub length_lists : (start : ℕ) (ends numbers : List ℕ) → length (lists_from start ends numbers) ≡ length ends
unfolding lists_from
length_lists start [] numbers = refl
length_lists start (e ∷ ends) numbers = ap (λ n. suc n) (length_lists e ends (drop (e - start) numbers))

-- the list at a place
pub list_get : (start : ℕ) (ends numbers : List ℕ) (count k : ℕ) → AreEndsFrom start ends count
    → count ≡ start + length numbers → k < length ends
    → slice_get (lists_from start ends numbers) k
    ≡ Some (take (get_or ends k 0 - start_at start ends k) (drop (start_at start ends k - start) numbers))
unfolding lists_from start_at
list_get start [] numbers count k are all below = absurd (omega arith)
list_get start (e ∷ ends) numbers count zero are all below =
    let none : 0 ≡ start - start = omega arith in ap (λ n. Some (take (e - start) (drop n numbers))) none
list_get start (e ∷ ends) numbers count (suc k) are all below =
    let rest = drop (e - start) numbers in
    let last = ends_within e ends count are.1 in
    let later = within_ends e ends count k are.1 (omega arith) in
    let most : count ≡ e + length rest = omega (arith, length-drop (e - start) numbers, all, last, are.0) in
    let here : (e - start) + (start_at e ends k - e) ≡ start_at e ends k - start = omega (arith, later.0, are.0) in
    list_get e ends rest count k are.1 most (omega arith)
    ∙ ap (λ (xs : List ℕ). Some (take (get_or ends k 0 - start_at e ends k) xs))
    (drop-drop (start_at e ends k - e) (e - start) numbers ∙ ap (λ n. drop n numbers) here)

-- one list more
pub lists_more : (start : ℕ) (ends numbers list : List ℕ) (count end : ℕ) → AreEndsFrom start ends count
    → count ≡ start + length numbers → end ≡ count + length list
    → lists_from start (ends ++ end ∷ []) (numbers ++ list) ≡ lists_from start ends numbers ++ list ∷ []
unfolding lists_from
lists_more start [] [] list count end are all is =
    let many : end - start ≡ length list = omega (arith, all, is) in
    ap (λ n. take n list ∷ []) many ∙ ap (λ xs. xs ∷ []) (take-length list)
lists_more start [] (n ∷ numbers) list count end are all is = absurd (omega (arith, are, all))
lists_more start (e ∷ ends) numbers list count end are all is =
    let rest = drop (e - start) numbers in
    let last = ends_within e ends count are.1 in
    let less : e - start ≤ length numbers = omega (arith, all, last, are.0) in
    let most : count ≡ e + length rest = omega (arith, length-drop (e - start) numbers, all, last, are.0) in
    let first : take (e - start) (numbers ++ list) ≡ take (e - start) numbers = take-append-le (e - start) numbers list less in
    let later : lists_from e (ends ++ end ∷ []) (drop (e - start) (numbers ++ list)) ≡ lists_from e ends rest ++ list ∷ [] =
    ap (lists_from e (ends ++ end ∷ [])) (drop-append-le (e - start) numbers list less)
    ∙ lists_more e ends rest list count end are.1 most is in
    λ i. first i ∷ later i

pub ends_more : (start : ℕ) (ends : List ℕ) (count end : ℕ) → AreEndsFrom start ends count → count ≤ end
    → AreEndsFrom start (ends ++ end ∷ []) end
ends_more start [] count end are more = (omega (arith, are, more), refl)
ends_more start (e ∷ ends) count end are more = (are.0, ends_more e ends count end are.1 more)
