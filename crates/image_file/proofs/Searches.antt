-- The first place that fails a test: where there is none, all pass.
use Rattle.std.proofs.Common.{◌≡◌, ℕ, ◌+◌, ◌<◌, ◌≤◌, Bool, true, false, not, List, [], ◌∷◌, length, get_or}
use Rattle.std.proofs.Common.{Option, Some, None, if◌then◌else◌, refl, ◌∙◌, arith}
use Rattle.std.specs.List.{AllByRecursion, position, position_from, position_or_len}
use Rattle.std.proofs.lemmas.Bool.Decides.{nat_tests}
use Rattle.std.proofs.lemmas.Iterator.Adapters.{position_from-zero}
use Rattle.std.proofs.lemmas.List.Sums.{prefix_len_passes}

past_the_end : {X : Type 0} (fails : X → Bool) (xs : List X) → position fails xs ≡ None
    → length xs ≤ position_or_len fails xs
past_the_end fails xs none = grind (arith, nat_tests)

not_true : (b : Bool) → not b ≡ true → b ≡ false
not_true true e = absurd cc
not_true false e = refl

pub none_fails : {X : Type 0} (fails : X → Bool) (xs : List X) → position fails xs ≡ None
    → (k : ℕ) (d : X) → k < length xs → fails (get_or xs k d) ≡ false
none_fails fails xs none k d here =
    let whole = past_the_end fails xs none in
    not_true (fails (get_or xs k d)) (prefix_len_passes (λ x. not (fails x)) xs k d (omega arith))

pub skip : (b : Bool) (i : ℕ) (later : Option ℕ) → b ≡ false → (if b then Some i else later) ≡ later
skip true i later e = absurd cc
skip false i later e = refl

none_from : {X : Type 0} (fails : X → Bool) (i : ℕ) (xs : List X) → AllByRecursion (λ x. fails x ≡ false) xs
    → position_from fails i xs ≡ None
none_from fails i [] all = refl
none_from fails i (x ∷ xs) all =
    skip (fails x) i (position_from fails (i + 1) xs) all.0 ∙ none_from fails (i + 1) xs all.1

pub none_where_all_pass : {X : Type 0} (fails : X → Bool) (xs : List X) → AllByRecursion (λ x. fails x ≡ false) xs
    → position fails xs ≡ None
none_where_all_pass fails xs all = position_from-zero fails xs ∙ none_from fails 0 xs all
