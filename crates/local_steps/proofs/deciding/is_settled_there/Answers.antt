use Rattle.std.proofs.Common.{sym, ap, ◌∙◌}
use Rattle.std.specs.Option.{option_copied}
use Rattle.local_steps.specs.SettledEndings.{is_settled}
use Rattle.local_steps.proofs.Shown.{seen_in, unseen_idle}
use Rattle.local_steps.proofs.deciding.is_settled_there.Goals as goal

pub returns-in_default : goal.returns-in_default
returns-in_default g c =
    let none = sym c.stream.ensures ∙ ap option_copied c.in_default.is in
    sym (ap (is_settled c.args.places.now) (unseen_idle g.row.S c.args.machine.now c.args.p c.args.s c.image-image.ensures.kept none))

pub returns : goal.returns
returns g c =
    let seen = sym c.stream.ensures ∙ ap option_copied c.in-Some.is in
    c.is_settled.ensures
    ∙ sym (ap (is_settled c.args.places.now) (seen_in g.row.S c.args.machine.now c.args.p c.args.s c.in-Some.stream.now seen))
