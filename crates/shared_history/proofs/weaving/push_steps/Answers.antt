-- Each turn adds the rest of a run, or what is wanted of it.
use Rattle.std.proofs.Common.{◌≡◌, ℕ, ◌+◌, ◌-◌, ◌++◌, ◌∙◌, ap, arith, map}
use Rattle.std.specs.Prelude.{slice_range}
use Rattle.processor.specs.Histories.{step_by}
use Rattle.shared_history.proofs.Pushes.{pushed_run}
use Rattle.shared_history.proofs.weaving.push_steps.Goals as goal

pub loop-place-smaller : goal.loop-place-smaller
loop-place-smaller c = omega (arith, c.min-next.ensures, c.in-Some.ensures.run.begins)

pub loop-place-preserved : goal.loop-place-preserved
loop-place-preserved c =
    let h = c.loop-place.invariant in
    let run = c.in-Some.ensures.run in
    let least = c.min-next.ensures in
    let place = c.loop-place.place in
    let next = c.min-next.result in
    let old = c.args.schedule.now.items in
    let numbers = c.args.steps.now.numbers in
    let upto : place + (next - place) ≡ next = omega (arith, least, run.begins) in (
      pushed_run (next - place) c.loop-place.schedule.items c.push_run.new.schedule.items old c.args.p numbers
          c.args.from place c.in-Some.s h.4 h.0
          (λ j up to. run.each j up (omega (arith, to, upto, least)))
          c.push_run.ensures.items
          ∙ ap (λ (m : ℕ). old ++ map (step_by c.args.p) (slice_range numbers c.args.from m)) upto,
      omega (arith, h.1, h.4, c.push_run.ensures.len, least, run.begins),
      c.push_run.ensures.capacity ∙ h.2,
      h.3,
      omega (arith, h.4, least, run.begins),
      omega (arith, least),
    )
