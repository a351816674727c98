use Rattle.std.proofs.Common.{◌≡◌, ◌∙◌, ap, List, rules}
use Rattle.std.specs.Prelude.{replicate}
use Rattle.processor.specs.declared.steps.Step.{Step}
use Rattle.space_ends.specs.EndsOfSpace.{ListedEnd}
use Rattle.space_ends.specs.Loops.{LoopingEnd, loop_of}
use Rattle.space_ends.proofs.busy_ends.busy_end.Goals as goal

-- a listed end with the steps of a loop
abbrev with_cycle : ListedEnd → List Step → LoopingEnd
with_cycle e cycle = record {
  kind = e.kind;
  places = e.places;
  schedule = e.schedule;
  cycle = cycle;
}

pub returns-clause-is : goal.returns-clause-is
returns-clause-is c = λ within.
    let busy = c.args.busy in
    let steps : c.in_ok-end-2.field-0.items ≡ replicate busy.steps busy.stream = search rules in
    ap (λ (e : ListedEnd). with_cycle e c.in_ok-end-2.field-0.items) (c.in_ok-end.ensures.listed within)
    ∙ ap (λ (cycle : List Step). record (loop_of c.args.space.now busy.place busy.stream busy.steps) { cycle = cycle }) steps
