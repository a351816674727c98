use Rattle.std.proofs.Common.{◌≡◌, ℕ, ◌+◌, List, [], ◌∷◌, ◌++◌, sym, subst, rules}
use Rattle.std.specs.Prelude.{Vec}
use Rattle.std.specs.Global.{Global}
use Rattle.dead_registers.specs.Clearing.{cleared}
use Rattle.schedule_space.specs.Spaces.{count, world_of}
use Rattle.state_tables.specs.Rows.{AreRows}
use Rattle.state_tables.proofs.RowsSoFar.{rows_more, rows_alone}
use Rattle.state_tables.proofs.rows.rows_of.Goals as goal

pub loop-place-preserved : goal.loop-place-preserved
loop-place-preserved g c =
    let v = c.args.space.now in
    let n = c.loop-place.place in
    let row = c.in_ok-row.row in
    let new = c.row_at.new.table in
    let items : c.push.new.self.items ≡ c.loop-place.rows.items ++ row ∷ [] = search rules in
    subst (λ (xs : List (Vec ℕ Global)). AreRows v.image new (λ k. cleared v.live (world_of v k)) (n + 1) xs) (sym items)
    (rows_more v.image c.loop-place.table new (λ k. cleared v.live (world_of v k)) n c.loop-place.rows.items row
    c.loop-place.invariant c.in_ok-row.ensures.grown c.in_ok-row.ensures.row)

pub returns : goal.returns
returns g c =
    let v = c.args.space.now in
    let table = c.loop-place.table in
    let rows = c.loop-place.rows.items in
    let same : c.loop-place.place ≡ count v = search rules in
    λ alone.
    rows_alone v table rows alone
    (subst (λ (n : ℕ). AreRows v.image table (λ k. cleared v.live (world_of v k)) n rows) same c.loop-place.invariant)
