-- A step of another stream begins a run.
use Rattle.std.proofs.Common.{◌≡◌, ◌≢◌, ◌<◌, ◌+◌, ◌-◌, ◌++◌, ◌∷◌, [], ◌∙◌, sym, ap, subst, arith, List}
use Rattle.processor.specs.declared.recorded_steps.StreamRun.{StreamRun}
use Rattle.processor.specs.Records.{StepsValue}
use Rattle.processor.specs.StreamRuns.{AreStreamRuns, step_numbers}
use Rattle.processor.proofs.StreamRuns.{runs-begin, step_numbers-begin}
use Rattle.processor.proofs.recorded_steps.Steps.push.Goals as goal

pub invariant_of-self-else-s-self : goal.invariant_of-self-else-s-self
invariant_of-self-else-s-self c =
    let s = c.self.inside in
    let room : 0 < s.spare = omega (arith, c.requires.room, ap (λ (v : StepsValue). v.spare) c.self.view_is) in
    let some : 0 < s.count = omega arith in (
      subst (λ (rs : List StreamRun). AreStreamRuns rs (s.before + s.count) c.args.s 1) (sym c.push_reserved.ensures.items)
          (runs-begin s.runs.items s.before s.stream s.count c.args.s c.self.invariant.0 some c.if-s-self.false),
      omega (arith, c.push_reserved.ensures.len, c.push_reserved.ensures.capacity, c.self.invariant.1, room),
      omega (arith, c.self.invariant.2, room),
    )

pub returns-else-s-self : goal.returns-else-s-self
returns-else-s-self c =
    let s = c.self.inside in
    let numbers = ap (λ (rs : List StreamRun). step_numbers rs c.args.s 1) c.push_reserved.ensures.items
    ∙ step_numbers-begin s.runs.items s.before s.stream s.count c.args.s c.self.invariant.0
    ∙ ap (λ (v : StepsValue). v.numbers ++ c.args.s ∷ []) c.self.view_is in
    λ i. record { numbers = numbers i; spare = ap (λ (v : StepsValue). v.spare - 1) c.self.view_is i }
