use Rattle.std.proofs.Common.{Bool, List, subst}
use Rattle.schedule_space.specs.Tables.{AreUnreadBy}
use Rattle.schedule_space.proofs.unread_places.unread_places.Goals as goal

pub returns-then-are_unread : goal.returns-then-are_unread
returns-then-are_unread c =
    subst
    (λ (marks : List Bool). AreUnreadBy c.args.live.now c.args.image.now.profile c.args.image.now.program marks)
    c.deref.ensures.value (c.are_unread.ensures c.if-are_unread.true)
