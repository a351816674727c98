use Rattle.std.proofs.Common.{◌≡◌, ◌+◌, ◌<◌, ◌∙◌, [], ◌∷◌, ◌++◌, length, sym, ap, subst, rules}
use Rattle.world_keys.specs.Tables.{place_in, Has}
use Rattle.state_tables.specs.NumberSets.{AreSets}
use Rattle.state_tables.proofs.Lists.{sets_more}
use Rattle.state_tables.proofs.number_sets.sets_of.Goals as goal

pub loop-list-preserved : goal.loop-list-preserved
loop-list-preserved c =
    let lists = c.args.lists.now in
    let n = c.loop-list.list-index in
    let list = c.list-item.result in
    let m = c.in_ok-number.number in
    let new = c.place.new.self in
    let below : n < length lists = search rules in
    let same : c.deref-in-loop-list.result.now ≡ list.items = search rules in
    let at : m ≡ place_in new list.items = c.in_ok-number.ensures.place ∙ ap (place_in new) same in
    let has : Has new list.items = subst (Has new) same c.in_ok-number.ensures.there in
    let items : c.push.new.self.items ≡ c.loop-list.set_of.items ++ m ∷ [] = search rules in
    subst (AreSets lists (n + 1) new) (sym items)
    (sets_more lists n m c.loop-list.table new c.loop-list.set_of.items list c.loop-list.invariant
    c.in_ok-number.ensures.grown below c.list-item.is at has)
