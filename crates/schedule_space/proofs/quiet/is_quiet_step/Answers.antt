use Rattle.std.proofs.Common.{◌≡◌, sym, ap, ◌∙◌, subst, arith, rules, Bool, true, false, refl}
use Rattle.std.specs.Prelude.{not, IsTrue, IsFalse}
use Rattle.std.specs.Option.{option_copied}
use Rattle.image_file.specs.ImageValue.{ImageValue}
use Rattle.stream_core.specs.StreamRow.{plan_of}
use Rattle.stream_core.specs.declared.steps.Plan.TheVariants as plan
use Rattle.schedule_space.specs.Quiet.{is_looked_at}
use Rattle.schedule_space.proofs.QuietSteps.{all_quiet, free_local, quiet_by}
use Rattle.schedule_space.proofs.quiet.is_quiet_step.Goals as goal

if_not : (b : Bool) → IsTrue (not b) → IsFalse b
if_not true is = cc
if_not false is = refl

pub returns-then-is_empty : goal.returns-then-is_empty
returns-then-is_empty g c = λ _.
    all_quiet c.args.looked_at.now c.args.machine.now.image c.args.machine.now.world c.args.step (grind arith)

pub leads_there-requires : goal.leads_there-requires
leads_there-requires g c =
    let seen = sym c.stream.ensures ∙ ap option_copied c.in-Some.is in
    subst (λ (i : ImageValue). plan_of i.profile i.program c.in-Some.stream.now ≡ plan.Local) (sym c.image-image.ensures.is)
    (free_local g.row.S c.args.machine.now c.args.step c.in-Some.stream.now c.image-image.ensures.kept seen c.requires)

pub returns : goal.returns
returns g c = λ yes.
    let seen = sym c.stream.ensures ∙ ap option_copied c.in-Some.is in
    let none : is_looked_at c.args.looked_at.now c.in-Some.stream.now.ssw.pc ≡ false = search rules in
    quiet_by g.row.S c.args.machine.now c.args.step c.in-Some.stream.now c.image-image.ensures.kept seen
    c.args.looked_at.now c.image-image.result.now c.image-image.ensures.is c.requires none
    (c.leads_there.ensures (if_not c.leads_there.result yes))
