use Rattle.std.proofs.Common.{◌≡◌, ◌<◌, ℕ, length, get_or, None}
use Rattle.class_results.specs.Merging.{IsFoundAt, AreAlike}
use Rattle.class_results.proofs.merging.merged_places.Given as goal

abbrev pub invariant-loop-index : goal.invariant-loop-index
invariant-loop-index l =
    (length l.found.items ≡ l.count) × ((p : ℕ) → p < l.count → IsFoundAt l.kept l.index p (get_or l.found.items p None))
    × AreAlike l.kept l.index l.count
