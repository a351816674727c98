-- The last step is of the run that goes on.
use Rattle.std.proofs.Common.{◌≡◌, ◌∙◌, sym, ap, subst, arith}
use Rattle.processor.specs.Records.{StepsValue}
use Rattle.processor.specs.StreamRuns.{AreStreamRuns, step_numbers}
use Rattle.processor.specs.Turns.{last_of}
use Rattle.processor.proofs.StreamRuns.{last_of-none, last_of-some}
use Rattle.processor.proofs.recorded_steps.Steps.last.Goals as goal

pub returns-then-self-eq0 : goal.returns-then-self-eq0
returns-then-self-eq0 c =
    let s = c.self.inside in
    let none : s.count ≡ 0 = c.if-self-eq0.true in
    last_of-none s.runs.items s.before s.stream (subst (λ n. AreStreamRuns s.runs.items s.before s.stream n) none c.self.invariant.0)
    ∙ ap (λ n. last_of (step_numbers s.runs.items s.stream n)) (sym none)
    ∙ ap (λ (v : StepsValue). last_of v.numbers) c.self.view_is

pub returns-else-self-eq0 : goal.returns-else-self-eq0
returns-else-self-eq0 c =
    let s = c.self.inside in
    last_of-some s.runs.items s.before s.stream s.count c.self.invariant.0 (omega arith)
    ∙ ap (λ (v : StepsValue). last_of v.numbers) c.self.view_is
