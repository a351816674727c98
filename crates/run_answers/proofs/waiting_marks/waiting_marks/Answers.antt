use Rattle.std.proofs.Common.{◌≡◌, ◌++◌, ◌∙◌, ◌+◌, rules, subst, sym, ap, [], ◌∷◌}
use Rattle.machine.specs.MachineValue.{MachineValue}
use Rattle.starving_streams.specs.ScheduleSpace.Spaces.{world_of}
use Rattle.run_answers.specs.Marks.{AreMarksOf}
use Rattle.run_answers.specs.Waiting.{holds}
use Rattle.run_answers.proofs.Pushing.{more_marks}
use Rattle.run_answers.proofs.waiting_marks.waiting_marks.Goals as goal

pub loop-place-preserved : goal.loop-place-preserved
loop-place-preserved g c =
    let v = c.args.space.now in
    let asked = c.args.asked.now in
    let n = c.loop-place.place in
    let m = c.in_ok-machine.machine in
    let at : m.world ≡ world_of v n = ap (λ (x : MachineValue). x.world) c.in_ok-machine.ensures.machine in
    let waiting : c.holds.result ≡ holds asked.waits (world_of v n) = c.holds.ensures ∙ ap (holds asked.waits) at in
    let entered : c.holds-in-loop-place.result ≡ holds asked.inside (world_of v n) = c.holds-in-loop-place.ensures ∙ ap (holds asked.inside) at in
    let waits : c.push.new.self.items ≡ c.loop-place.waits.items ++ c.holds.result ∷ [] = search rules in
    let inside : c.push-in-loop-place.new.self.items ≡ c.loop-place.inside.items ++ c.holds-in-loop-place.result ∷ [] = search rules in
    record {
      waiting =
          subst (AreMarksOf v (n + 1) (holds asked.waits)) (sym waits)
          (more_marks v (holds asked.waits) n c.loop-place.waits.items c.holds.result waiting c.loop-place.invariant.waiting);
      entered =
          subst (AreMarksOf v (n + 1) (holds asked.inside)) (sym inside)
          (more_marks v (holds asked.inside) n c.loop-place.inside.items c.holds-in-loop-place.result entered c.loop-place.invariant.entered);
    }
