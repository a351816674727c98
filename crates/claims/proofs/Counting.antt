-- How many streams some groups have in their ranges, group by group.
use Rattle.std.proofs.Common.{◌≡◌, ◌≤◌, ◌<◌, ◌+◌, ℕ, ap, sym, ◌∙◌, List, length, get_or, take}
use Rattle.std.proofs.lemmas.List.Sums.{sum_by_more, sum_by_more_le}
use Rattle.machine.specs.Processor.World.{World}
use Rattle.claims.specs.Holding.{count_in_group, count_in_groups}
use Rattle.claims.specs.declared.claim.StreamGroup.{StreamGroup}

-- those of the groups so far and of the next one
pub counted_more : (w : World) (gs : List StreamGroup) (i : ℕ) (g : StreamGroup) → i < length gs → g ≡ get_or gs i g
    → count_in_groups w (take (i + 1) gs) ≡ count_in_groups w (take i gs) + count_in_group w g
counted_more w gs i g below is =
    sum_by_more (count_in_group w) gs i g below
    ∙ ap (λ x. count_in_groups w (take i gs) + count_in_group w x) (sym is)

-- they are no more than those of all
pub counted_within : (w : World) (gs : List StreamGroup) (i : ℕ) (g : StreamGroup) → i < length gs → g ≡ get_or gs i g
    → count_in_groups w (take i gs) + count_in_group w g ≤ count_in_groups w gs
counted_within w gs i g below is = rw is (sum_by_more_le (count_in_group w) gs i g below)
