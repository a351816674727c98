use Rattle.std.proofs.Common.{sym, ap, ◌∙◌, subst}
use Rattle.std.specs.Option.{option_copied}
use Rattle.image_file.specs.ImageValue.{ImageValue}
use Rattle.local_steps.specs.EndingSteps.{IsEndingIn}
use Rattle.local_steps.proofs.deciding.is_settled_ending.Goals as goal
use Rattle.local_steps.proofs.Shown.{none_ends, ending_shown, shown_settled}

pub returns-in_default : goal.returns-in_default
returns-in_default g c =
    let none = sym c.stream.ensures ∙ ap option_copied c.in_default.is in
    ((λ e. cc), λ l. absurd (none_ends g.row.S c.args.places.now c.args.machine.now c.args.step c.image-image.ensures.kept none l))

pub returns-then-ends_next : goal.returns-then-ends_next
returns-then-ends_next g c =
    let seen = sym c.stream.ensures ∙ ap option_copied c.in-Some.is in
    let ending =
    subst (λ (i : ImageValue). IsEndingIn i c.in-Some.stream.now) c.image-image.ensures.is
    (c.ends_next.ensures.0 c.if-ends_next.true) in (
      λ told. ending_shown g.row.S c.args.places.now c.args.machine.now c.args.step c.in-Some.stream.now seen ending
          (c.others_are_settled.ensures.0 told),
      λ l. c.others_are_settled.ensures.1 (shown_settled c.args.machine.now.image c.args.places.now c.args.machine.now.world c.args.step l),
    )
