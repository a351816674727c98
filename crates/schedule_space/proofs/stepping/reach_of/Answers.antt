use Rattle.std.proofs.Common.{sym, ◌∙◌, refl}
use Rattle.processor.specs.declared.steps.Next.TheVariants as next
use Rattle.schedule_space.proofs.Reaches.{skip_stays, needs_there, local_memory}
use Rattle.schedule_space.proofs.stepping.reach_of.Goals as goal

pub returns-in-Skip-clause-nothing : goal.returns-in-Skip-clause-nothing
returns-in-Skip-clause-nothing g c = λ _. skip_stays c.args.machine.now c.args.step (sym c.in-Skip.is ∙ c.next.ensures)

pub returns-in-Local-clause-there : goal.returns-in-Local-clause-there
returns-in-Local-clause-there g c = λ _.
    needs_there c.args.machine.now c.args.step next.Local (sym c.in-Local.is ∙ c.next.ensures) refl

pub returns-in-Local-clause-memory : goal.returns-in-Local-clause-memory
returns-in-Local-clause-memory g c = λ _.
    local_memory c.args.machine.now c.args.step (sym c.in-Local.is ∙ c.next.ensures)

pub returns-else-is_stuck-clause-there : goal.returns-else-is_stuck-clause-there
returns-else-is_stuck-clause-there g c = λ _.
    needs_there c.args.machine.now c.args.step (next.Ask c.in-Ask.field-0) (sym c.in-Ask.is ∙ c.next.ensures) refl
