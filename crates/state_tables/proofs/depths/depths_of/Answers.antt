use Rattle.std.proofs.Common.{◌≡◌, ◌+◌, [], ◌∷◌, ◌++◌, sym, subst, rules}
use Rattle.state_tables.specs.Depths.{AreDepths}
use Rattle.state_tables.proofs.Lists.{depths_more}
use Rattle.state_tables.proofs.depths.depths_of.Goals as goal

pub loop-place-preserved : goal.loop-place-preserved
loop-place-preserved c =
    let v = c.args.space.now in
    let n = c.loop-place.place in
    let depth = c.in_ok-depth.depth in
    let items : c.push.new.self.items ≡ c.loop-place.depths.items ++ depth ∷ [] = search rules in
    subst (AreDepths v (n + 1)) (sym items)
    (depths_more v n depth c.loop-place.depths.items c.loop-place.invariant c.in_ok-depth.ensures)
