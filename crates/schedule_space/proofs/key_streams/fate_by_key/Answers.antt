use Rattle.std.proofs.Common.{rules}
use Rattle.world_keys.proofs.Places.{extends_trans}
use Rattle.schedule_space.proofs.Before.{before_kept, goes_on}
use Rattle.schedule_space.proofs.key_streams.fate_by_key.Goals as goal
use Rattle.schedule_space.proofs.key_streams.fate_by_key.Goals.{then-goes_on, else-goes_on}

pub loop-step-preserved : goal.loop-step-preserved
loop-step-preserved c =
    let key = c.args.key.now in
    let here = c.loop-step.seen in
    let new = c.is_moving.new.seen in
    record {
      grown =
          extends_trans c.args.seen.now.contents here.contents new.contents c.loop-step.invariant.grown
          c.is_moving.ensures.grown;
      before = λ live m first.
          let before = c.loop-step.invariant.before live m first in
          before_kept live here.contents new.contents here.steps new.steps m key c.is_moving.ensures.grown
          (c.is_moving.ensures.steps live m before) before;
      moves =
          elim c.if-goes_on.branch [
            | then-goes_on w ↦ λ on live m first. c.loop-step.invariant.moves (search rules) live m first
            | else-goes_on w ↦ λ on live m first.
                let before = c.loop-step.invariant.before live m first in
                let moved = c.in_ok-is_moving.ensures.moves live m before in
                search rules
          ];
    }

pub returns-then-goes_on-2-clause-fate : goal.returns-then-goes_on-2-clause-fate
returns-then-goes_on-2-clause-fate c = λ live m same before.
    let moves = c.loop-step.invariant.moves (search rules) live m before in
    goes_on m.image m.world moves.0 moves.1
