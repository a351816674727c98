use Rattle.std.proofs.Common.{rules, ◌≡◌, ℕ, ◌-◌, ◌≤◌, Some, length, take, drop, slice_index_or, ap, sym, ◌∙◌, arith}
use Rattle.world_keys.specs.RowLists.{start_at}
use Rattle.world_keys.proofs.RowLists.{within_ends, list_get}
use Rattle.world_keys.proofs.row_lists.list_at.Goals as goal

pub offset_bounds-numbers-start : goal.offset_bounds-numbers-start
offset_bounds-numbers-start c =
    let in_it = within_ends 0 c.args.ends.now (length c.args.numbers.now) c.args.place c.requires.ends c.requires.there in
    let from : c.start_at-start.result ≤ length c.args.numbers.now = omega (arith, in_it.1, c.start_at-start.ensures) in
    search (rules, from)

pub slice_bounds-result-start : goal.slice_bounds-result-start
slice_bounds-result-start c =
    let in_it = within_ends 0 c.args.ends.now (length c.args.numbers.now) c.args.place c.requires.ends c.requires.there in
    let from : c.start_at-start.result ≤ length c.args.numbers.now = omega (arith, in_it.1, c.start_at-start.ensures) in
    search (rules, from)

pub slice_bounds-result-end : goal.slice_bounds-result-end
slice_bounds-result-end c =
    let in_it = within_ends 0 c.args.ends.now (length c.args.numbers.now) c.args.place c.requires.ends c.requires.there in
    let to : slice_index_or c.args.ends.now c.args.place 0 ≤ length c.args.numbers.now = omega (arith, in_it.1) in
    search (rules, to)

pub slice_bounds-result-count : goal.slice_bounds-result-count
slice_bounds-result-count c =
    let in_it = within_ends 0 c.args.ends.now (length c.args.numbers.now) c.args.place c.requires.ends c.requires.there in
    omega (arith, in_it.1.0, c.start_at-start.ensures)

pub returns : goal.returns
returns c =
    let ends = c.args.ends.now in
    let numbers = c.args.numbers.now in
    let k = c.args.place in
    list_get 0 ends numbers (length numbers) k c.requires.ends (omega arith) c.requires.there
    ∙ ap (λ (x : ℕ × ℕ). Some (take (slice_index_or ends k 0 - x.0) (drop x.1 numbers)))
    (λ i. (sym c.start_at-start.ensures i, same i)) where
      same : start_at 0 c.args.ends.now c.args.place - 0 ≡ c.start_at-start.result
      same = omega (arith, c.start_at-start.ensures)
