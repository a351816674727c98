use Rattle.std.proofs.Common.{rules, refl, subst, ◌≡◌, ℕ, ◌<◌}
use Rattle.std.specs.Prelude.{MatchOption}
use Rattle.processor.specs.declared.steps.Step.{Step}
use Rattle.schedule_space.specs.Spaces.{count}
use Rattle.busy_streams.specs.declared.busy_worlds.Busy.{Busy}
use Rattle.busy_streams.specs.BusySpaces.{HasNoneBusy, IsFirstBusy}
use Rattle.busy_streams.specs.OwnCycles.{IsFreeCycle, IsFirstCycle}
use Rattle.busy_streams.proofs.Begun.{never, none_busy}
use Rattle.busy_streams.proofs.First.{first_busy_is, none_busy_is}
use Rattle.busy_streams.proofs.busy_worlds.first_busy.Goals as goal

pub returns-in-Some-clause-first : goal.returns-in-Some-clause-first
returns-in-Some-clause-first g c = λ plain.
    let v = c.args.space.now in
    let k = c.loop-place.place in
    let first : IsFirstCycle v k c.in-Some.stream =
    subst (λ o. MatchOption o ((t : Step) → ¬ (IsFreeCycle v k t)) (λ t. IsFirstCycle v k t)) c.in-Some.is
    c.in_ok-stream.ensures.first in
    first_busy_is v (record { place = k; stream = c.in-Some.stream; steps = c.in_ok-steps.steps }) plain
    c.len-place-end.ensures.links (search rules) first (c.in_ok-steps.ensures plain first.cycle.back)
    c.loop-place.invariant

pub returns-in-Some-clause-never : goal.returns-in-Some-clause-never
returns-in-Some-clause-never g c = λ plain. (
  λ none. absurd (let no : ⊥ = cc in no),
  λ quiet.
      let v = c.args.space.now in
      let k = c.loop-place.place in
      let first : IsFirstCycle v k c.in-Some.stream =
      subst (λ o. MatchOption o ((t : Step) → ¬ (IsFreeCycle v k t)) (λ t. IsFirstCycle v k t)) c.in-Some.is
      c.in_ok-stream.ensures.first in
      let busy : IsFirstBusy v (record { place = k; stream = c.in-Some.stream; steps = c.in_ok-steps.steps }) =
      first_busy_is v (record { place = k; stream = c.in-Some.stream; steps = c.in_ok-steps.steps }) plain
      c.len-place-end.ensures.links (search rules) first (c.in_ok-steps.ensures plain first.cycle.back)
      c.loop-place.invariant in
      absurd (none_busy v c.len-place-end.ensures.links quiet k busy.there c.in-Some.stream busy.busy),
)

pub returns-clause-first : goal.returns-clause-first
returns-clause-first g c = λ plain.
    none_busy_is c.args.space.now plain c.len-place-end.ensures.links
    (λ k below. c.loop-place.invariant k (search rules))

pub returns-clause-never : goal.returns-clause-never
returns-clause-never g c = λ plain. (
  λ none.
      never c.args.space.now plain
      (none_busy_is c.args.space.now plain c.len-place-end.ensures.links
      (λ k below. c.loop-place.invariant k (search rules))),
  λ quiet. refl,
)
