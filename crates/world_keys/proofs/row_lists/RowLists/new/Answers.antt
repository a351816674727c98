use Rattle.std.proofs.Common.{◌≡◌, ℕ, List, [], ◌∷◌, length, refl}
use Rattle.world_keys.specs.RowLists.{lists_from, AreEndsFrom}
use Rattle.world_keys.proofs.row_lists.RowLists.new.Goals as goal

none_end : (ends numbers : List ℕ) → ends ≡ [] → numbers ≡ [] → AreEndsFrom 0 ends (length numbers)
none_end [] [] nothing none = refl
none_end (e ∷ ends) numbers nothing none = absurd cc
none_end [] (n ∷ numbers) nothing none = absurd cc

none_list : (ends numbers : List ℕ) → ends ≡ [] → lists_from 0 ends numbers ≡ []
unfolding lists_from
none_list [] numbers nothing = refl
none_list (e ∷ ends) numbers nothing = absurd cc

pub invariant_of-result : goal.invariant_of-result
invariant_of-result c = none_end c.new-2.result.items c.new.result.items c.new-2.ensures.items c.new.ensures.items

pub returns : goal.returns
returns c = none_list c.new-2.result.items c.new.result.items c.new-2.ensures.items
