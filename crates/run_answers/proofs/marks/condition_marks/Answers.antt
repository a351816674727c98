use Rattle.std.proofs.Common.{◌≡◌, ◌++◌, ◌∙◌, ◌&&◌, ◌+◌, rules, subst, sym, ap, Bool, [], ◌∷◌}
use Rattle.processor.specs.World.{World}
use Rattle.machine.specs.MachineValue.{MachineValue}
use Rattle.starving_streams.specs.ScheduleSpace.Spaces.{world_of}
use Rattle.starving_streams.specs.Claims.Holding.{form_holds}
use Rattle.run_answers.specs.Marks.{AreMarksOf, lacks, is_open}
use Rattle.run_answers.proofs.Pushing.{more_marks}
use Rattle.run_answers.proofs.marks.condition_marks.Goals as goal

pub loop-place-preserved : goal.loop-place-preserved
loop-place-preserved g c =
    let v = c.args.space.now in
    let asked = c.args.asked.now in
    let n = c.loop-place.place in
    let m = c.in_ok-machine.machine in
    let at : m.world ≡ world_of v n = ap (λ (x : MachineValue). x.world) c.in_ok-machine.ensures.machine in
    let lacking : c.lacks-lacks.result ≡ lacks asked (world_of v n) =
    c.lacks-lacks.ensures ∙ ap (lacks asked) at in
    let opening : c.is_open.result ≡ is_open asked (world_of v n) =
    c.is_open.ensures
    ∙ ap (λ (b : Bool). b && form_holds m.world asked.from) lacking
    ∙ ap (λ (w : World). lacks asked (world_of v n) && form_holds w asked.from) at in
    let within : c.push.new.self.items ≡ c.loop-place.within.items ++ c.lacks-lacks.result ∷ [] = search rules in
    let begins : c.push-in-loop-place.new.self.items ≡ c.loop-place.begins.items ++ c.is_open.result ∷ [] = search rules in
    record {
      lacking =
          subst (AreMarksOf v (n + 1) (lacks asked)) (sym within)
          (more_marks v (lacks asked) n c.loop-place.within.items c.lacks-lacks.result lacking c.loop-place.invariant.lacking);
      opening =
          subst (AreMarksOf v (n + 1) (is_open asked)) (sym begins)
          (more_marks v (is_open asked) n c.loop-place.begins.items c.is_open.result opening c.loop-place.invariant.opening);
    }
