use Rattle.std.proofs.Common.{◌<◌, subst}
use Rattle.std.specs.Option.{IfSome}
use Rattle.value_origins.specs.Tables.{used_in, IsStartBy}
use Rattle.value_origins.proofs.Noted.{noted_start}
use Rattle.value_origins.proofs.streams.note.Goals as goal

pub returns-in-Some-clause-is : goal.returns-in-Some-clause-is
returns-in-Some-clause-is c =
    let d = c.args.action.now in
    let moved = c.args.moved.now.items in
    noted_start d (used_in moved) (used_in c.set_use.new.moved.items) c.in-Some.s
    (subst (λ o. IfSome o (λ s. s < 256)) c.in-Some.is c.requires.range)
    (subst (IsStartBy moved d) c.in-Some.is c.requires.started) c.set_use.ensures.is
