use Rattle.std.proofs.Common.{◌∙◌, sym, inl, inr}
use Rattle.machine.specs.ProcessorTypes.Next.TheVariants as next
use Rattle.step_views.proofs.Asking.{reference_needed, reference_made}
use Rattle.step_views.proofs.step_views.reference_of.Goals as goal

pub returns-in-Skip : goal.returns-in-Skip
returns-in-Skip g c =
    let w = c.args.machine.now.world in
    let needed = reference_needed c.args.machine.now.image w c.args.step in
    elim c.in-Skip.is [
      | inl e ↦ needed next.Skip (sym e ∙ c.next.ensures)
      | inr e ↦ needed next.Local (sym e ∙ c.next.ensures)
    ]

pub returns-in-Ask : goal.returns-in-Ask
returns-in-Ask g c =
    let w = c.args.machine.now.world in
    reference_made c.args.machine.now.image w c.args.step c.in-Ask.request _ c.in-Ask.ensures
    (λ i. record {
      request = c.in-Ask.request;
      address = c.ending-ending.ensures.address i;
      reply = c.ending-ending.ensures.reply i;
    })
