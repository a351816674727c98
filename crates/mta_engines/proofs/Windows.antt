-- Bytes that are taken of a part of a list.
use Rattle.std.proofs.Common.{◌≡◌, ℕ, suc, ◌+◌, ◌-◌, ◌<◌, ◌≤◌, List, [], ◌∷◌, ◌++◌, length, take, drop, get_or, refl, ap, sym, ◌∙◌}
use Rattle.std.proofs.Common.{arith, add-one, Option, Some, None, slice_range, slice_index_or}
use Rattle.std.proofs.Math.Seq.{drop-cons}
use Rattle.std.specs.Io.KnownBytes.{Consumes, prepend_known}

-- the part begins with its first byte
first-of_part : (xs : List ℕ) (start end : ℕ) → start < end → end ≤ length xs
    → slice_range xs start end ≡ slice_index_or xs start 0 ∷ slice_range xs (start + 1) end
first-of_part xs start end some within =
    let front : drop start xs ≡ get_or xs start 0 ∷ drop (suc start) xs = drop-cons xs start 0 (omega (arith, some, within)) in
    let count : end - start ≡ suc (end - (start + 1)) = omega (arith, some) in
    let next : suc start ≡ start + 1 = omega arith in
    ap (λ d. take (end - start) d) front
    ∙ ap (λ n. take n (get_or xs start 0 ∷ drop (suc start) xs)) count
    ∙ ap (λ n. get_or xs start 0 ∷ take (end - (start + 1)) (drop n xs)) next

pub took-first : (xs : List ℕ) (start end : ℕ) (a b : Option (List ℕ)) → start < end → end ≤ length xs
    → Consumes a (prepend_known (slice_range xs start end) b) []
    → Consumes a (prepend_known (slice_range xs (start + 1) end) b) (slice_index_or xs start 0 ∷ [])
took-first xs start end None b some within same = tt
took-first xs start end (Some x) None some within same = absurd same
took-first xs start end (Some x) (Some y) some within same =
    same ∙ ap (λ t. t ++ y) (first-of_part xs start end some within)
