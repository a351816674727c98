use Rattle.std.proofs.Common.{Bool, List, sym, subst}
use Rattle.schedule_space.specs.Tables.{AreUnreadBy}
use Rattle.schedule_space.proofs.UnreadPlaces.{tables_made}
use Rattle.schedule_space.proofs.explorations.tables_if.Goals as goal

pub returns-then-are_wanted : goal.returns-then-are_wanted
returns-then-are_wanted c =
    let image = c.args.image.now in
    let live = c.args.live.now in
    tables_made image live c.requires c.deref.result.now
    (subst (λ (marks : List Bool). AreUnreadBy live image.profile image.program marks) (sym c.deref.ensures.value)
    c.in_ok-unread.ensures)
    (λ ts. ts.items) c.args.are_wanted c.touch_tables.result c.touch_tables.ensures
