use Rattle.std.proofs.Common.{subst, ℕ, List, Bor}
use Rattle.std.specs.Prelude.{IsPermutation}
use Rattle.std.proofs.lemmas.List.Filters.{dedup_is}
use Rattle.class_results.proofs.class_lists.class_of.Goals as goal

pub returns : goal.returns
returns c = record {
  sorted = c.sort.new.self.items;
  all =
      subst (λ (xs : List (Bor (List ℕ))). IsPermutation xs c.sort.new.self.items) c.in_ok-class.ensures.items
      c.in_ok-sort.ensures.permutation;
  order = c.in_ok-sort.ensures.sorted;
  once = dedup_is _ _ _ c.dedup.ensures.filtered;
}
