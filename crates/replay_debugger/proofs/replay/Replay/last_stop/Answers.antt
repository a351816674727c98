use Rattle.std.proofs.Common.{refl, sym, ◌∙◌, ap, arith, subst, slice_get, List, ◌<◌}
use Rattle.processor.specs.declared.steps.Step.{Step}
use Rattle.replay_debugger.specs.Stops.{is_stop}
use Rattle.replay_debugger.specs.StopFinders.{IsFinderOf}
use Rattle.replay_debugger.proofs.Replaying.{on_first}
use Rattle.replay_debugger.proofs.Finding.{first_seen, none_first, none_yet}
use Rattle.replay_debugger.proofs.replay.Replay.last_stop.Goals.{then-self-eq0+then-meet, else-self-eq0}
use Rattle.replay_debugger.proofs.replay.Replay.last_stop.Goals.{else-self-eq0-via-then-self-eq0+else-meet}
use Rattle.replay_debugger.proofs.replay.Replay.last_stop.Goals.{else-self-eq0-via-else-self-eq0}
use Rattle.replay_debugger.proofs.replay.Replay.last_stop.Goals as goal

pub loop-self-init : goal.loop-self-init
loop-self-init g c =
    let r = c.args.self.now in
    let k = r.position in
    let m = r.machine.world.memory in
    let course = c.args.checkpoints.now in
    record {
      from = omega arith;
      within = c.requires.forward;
      kept = refl;
      on = c.requires.on;
      looks = λ points seen looks.
          let now = c.look.ensures points seen looks in
          elim c.if-self-eq0.branch [
            | then-self-eq0+then-meet w ↦
                subst (IsFinderOf points m) (sym w.stops-is) (w.meet.ensures.looks points m now)
            | else-self-eq0 w ↦ elim w.else-self-eq0.branch [
              | else-self-eq0-via-then-self-eq0+else-meet v ↦
                  subst (IsFinderOf points m) (sym (w.stops-is ∙ v.stops-is)) (v.meet.ensures.looks points m now)
              | else-self-eq0-via-else-self-eq0 v ↦
                  subst (IsFinderOf points m) (sym (w.stops-is ∙ v.stops-is)) now
            ]
          ];
      last = λ points seen looks.
          let now = c.look.ensures points seen looks in
          let test = is_stop course.image course.schedule points in
          elim c.if-self-eq0.branch [
            | then-self-eq0+then-meet w ↦
                let follows = w.next.ensures ∙ ap (λ (ts : List Step). slice_get ts k) w.schedule.ensures in
                let stop = on_first course r points w.next.result w.meet.result w.if-self-eq0.true c.requires.on
                follows (w.meet.ensures.stop points r.machine.world now) in
                first_seen test k c.if-self-eq0.last w.if-self-eq0.true (sym stop ∙ w.if-meet.true) w.last-is
            | else-self-eq0 w ↦ elim w.else-self-eq0.branch [
              | else-self-eq0-via-then-self-eq0+else-meet v ↦
                  let follows = v.next.ensures ∙ ap (λ (ts : List Step). slice_get ts k) v.schedule.ensures in
                  let stop = on_first course r points v.next.result v.meet.result v.if-self-eq0.true c.requires.on
                  follows (v.meet.ensures.stop points r.machine.world now) in
                  none_first test k c.if-self-eq0.last (sym stop ∙ v.if-meet.false) w.last-is
              | else-self-eq0-via-else-self-eq0 v ↦
                  let later : 0 < k = omega (arith, v.if-self-eq0.false) in
                  none_yet test k c.if-self-eq0.last later w.last-is
            ]
          ];
    }
