use Rattle.std.proofs.Common.{◌≡◌, ℕ, ◌+◌, List, [], ◌∷◌, ◌++◌, length, length-append, ap, ◌∙◌, sym, subst, arith}
use Rattle.world_keys.specs.RowLists.{lists_from, AreEndsFrom}
use Rattle.world_keys.proofs.RowLists.{lists_more, ends_more}
use Rattle.world_keys.proofs.row_lists.RowLists.push.Goals as goal

-- the ends and the numbers with those of one list more
ends_with : (ends more numbers all list : List ℕ) (end : ℕ) → AreEndsFrom 0 ends (length numbers)
    → more ≡ ends ++ end ∷ [] → all ≡ numbers ++ list → end ≡ length numbers + length list
    → AreEndsFrom 0 more (length all)
ends_with ends more numbers all list end are put added is =
    let many : end ≡ length all = omega (arith, is, ap (λ (xs : List ℕ). length xs) added, length-append numbers list) in
    subst (λ xs. AreEndsFrom 0 xs (length all)) (sym put)
    (subst (AreEndsFrom 0 (ends ++ end ∷ [])) many (ends_more 0 ends (length numbers) end are (omega (arith, is))))

lists_with : (ends more numbers all list : List ℕ) (end : ℕ) → AreEndsFrom 0 ends (length numbers)
    → more ≡ ends ++ end ∷ [] → all ≡ numbers ++ list → end ≡ length numbers + length list
    → lists_from 0 more all ≡ lists_from 0 ends numbers ++ list ∷ []
lists_with ends more numbers all list end are put added is =
    (λ i. lists_from 0 (put i) (added i)) ∙ lists_more 0 ends numbers list (length numbers) end are (omega arith) is

pub invariant_of-self-2 : goal.invariant_of-self-2
invariant_of-self-2 c =
    let old = c.self.inside in
    ends_with old.ends.items c.push_reserved.new.self.items old.numbers.items c.extend_from_slice.new.self.items
    c.args.list.now (c.len.result + length c.args.list.now) c.self.invariant
    (c.push_reserved.ensures.items ∙ ap (λ xs. xs ++ (c.len.result + length c.args.list.now) ∷ []) c.reserve.ensures.items)
    c.in_ok-extend_from_slice.ensures.items (omega (arith, c.len.ensures))

pub returns-clause-pushed : goal.returns-clause-pushed
returns-clause-pushed c =
    let old = c.self.inside in
    lists_with old.ends.items c.push_reserved.new.self.items old.numbers.items c.extend_from_slice.new.self.items
    c.args.list.now (c.len.result + length c.args.list.now) c.self.invariant
    (c.push_reserved.ensures.items ∙ ap (λ xs. xs ++ (c.len.result + length c.args.list.now) ∷ []) c.reserve.ensures.items)
    c.in_ok-extend_from_slice.ensures.items (omega (arith, c.len.ensures))
    ∙ ap (λ (t : List (List ℕ)). t ++ c.args.list.now ∷ []) c.self.view_is
