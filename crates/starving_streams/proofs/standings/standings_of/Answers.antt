use Rattle.std.proofs.Common.{◌≡◌, ◌+◌, ◌<◌, ◌++◌, ◌∙◌, rules, sym, ap, subst, map, filter, List, [], ℕ}
use Rattle.image_file.specs.ImageValue.{ImageValue}
use Rattle.machine.specs.MachineValue.{MachineValue}
use Rattle.waiting.specs.Running.{running_steps}
use Rattle.schedule_space.specs.Spaces.{count, world_of}
use Rattle.fair_rounds.specs.declared.graphs.Standing.{Standing}
use Rattle.starving_streams.specs.Graphs.{AreStandings, AreDues, standing_of, may_not_rest}
use Rattle.starving_streams.proofs.PlaceStreams.{no_standings, more_standings, no_dues, more_dues}
use Rattle.starving_streams.proofs.standings.standings_of.Goals as goal

pub loop-place-init : goal.loop-place-init
loop-place-init g c =
    let v = c.args.space.now in
    let rests = c.args.rests.now in
    let all : c.new.result.items ≡ [] = search rules in
    let due : c.new-2.result.items ≡ [] = search rules in (
      subst (λ (ss : List Standing). AreStandings v 0 ss) (sym all) (no_standings v),
      subst (λ (ss : List Standing). AreDues v rests 0 ss) (sym due) (no_dues v rests),
    )

pub loop-place-preserved : goal.loop-place-preserved
loop-place-preserved g c =
    let v = c.args.space.now in
    let rests = c.args.rests.now in
    let k = c.loop-place.place in
    let m = c.in_ok-machine.machine in
    let old = c.loop-place.standings in
    let new = c.push_standings.new.standings in
    let is = c.in_ok-machine.ensures.machine in
    let at : m.world ≡ world_of v k = ap (λ (x : MachineValue). x.world) is in
    let image : m.image ≡ v.image = ap (λ (x : MachineValue). x.image) is in
    let below : k < count v = search rules in
    let running = running_steps m.world in
    let left = filter (may_not_rest rests m.world) running in
    let all : new.all.items ≡ old.all.items ++ map (standing_of m.image m.world k) running = search rules in
    let due : new.due.items ≡ old.due.items ++ map (standing_of m.image m.world k) left = search rules in
    let all_on : new.all.items ≡ old.all.items ++ map (standing_of v.image m.world k) running =
    all ∙ ap (λ (i : ImageValue). old.all.items ++ map (standing_of i m.world k) running) image in
    let due_on : new.due.items ≡ old.due.items ++ map (standing_of v.image m.world k) left =
    due ∙ ap (λ (i : ImageValue). old.due.items ++ map (standing_of i m.world k) left) image in (
      subst (AreStandings v (k + 1)) (sym all_on)
          (more_standings v k old.all.items m.world below at c.in_ok-push_standings.ensures.all c.loop-place.invariant.0),
      subst (AreDues v rests (k + 1)) (sym due_on)
          (more_dues v rests k old.due.items m.world below at c.in_ok-push_standings.ensures.all
          c.loop-place.invariant.1),
    )

pub returns-clause-is : goal.returns-clause-is
returns-clause-is g c =
    subst (λ (n : ℕ). AreStandings c.args.space.now n c.loop-place.standings.all.items) (search rules)
    c.loop-place.invariant.0

pub returns-clause-dues : goal.returns-clause-dues
returns-clause-dues g c =
    subst (λ (n : ℕ). AreDues c.args.space.now c.args.rests.now n c.loop-place.standings.due.items) (search rules)
    c.loop-place.invariant.1
