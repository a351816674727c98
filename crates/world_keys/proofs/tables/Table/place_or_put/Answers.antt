use Rattle.std.proofs.Common.{ap, sym, ◌∙◌}
use Rattle.world_keys.specs.Tables.{place_in}
use Rattle.world_keys.proofs.Places.{place_put, has_put}
use Rattle.world_keys.proofs.tables.Table.place_or_put.Goals as goal

pub returns-clause-place : goal.returns-clause-place
returns-clause-place c =
    let old = c.args.self.now in
    let list = c.args.list.now in
    c.len-place.ensures
    ∙ sym (place_put old list (λ has. let e = c.in_default.ensures.there.1 has in absurd cc))
    ∙ sym (ap (λ t. place_in t list) c.in_ok-push.ensures.pushed)

pub returns-clause-there : goal.returns-clause-there
returns-clause-there c =
    has_put c.args.self.now c.push.new.self c.args.list.now
    (λ has. let e = c.in_default.ensures.there.1 has in absurd cc) c.in_ok-push.ensures.pushed
