use Rattle.std.proofs.Common.{rules}
use Rattle.busy_streams.specs.OwnCycles.{IsFreeCycle}
use Rattle.busy_streams.proofs.First.{first_is, none_more, stuck_not, away_not, none_of}
use Rattle.busy_streams.proofs.busy_worlds.first_cycle_at.Goals as goal
use Rattle.busy_streams.proofs.busy_worlds.first_cycle_at.Goals.{else-is_free-via-then-is_free+else-comes_back, else-is_free-via-else-is_free}

pub returns-then-comes_back-clause-first : goal.returns-then-comes_back-clause-first
returns-then-comes_back-clause-first g c =
    first_is c.args.space.now c.args.place c.in_ok-machine.machine c.in_ok-running.running.items
    c.in_ok-machine.ensures.machine c.in_ok-running.ensures.is c.in_ok-running.ensures.all
    c.loop-number.number c.index-stream.result.now c.is_stuck-is_free.result (search rules) c.index-stream.ensures
    c.is_stuck-is_free.ensures (search rules) (c.comes_back.ensures.0 c.if-comes_back.true) c.loop-number.invariant

pub loop-number-preserved : goal.loop-number-preserved
loop-number-preserved g c =
    let v = c.args.space.now in
    let k = c.args.place in
    let m = c.in_ok-machine.machine in
    let ts = c.in_ok-running.running.items in
    let is = c.in_ok-machine.ensures.machine in
    let t = c.index-stream.result.now in
    let away : ¬ (IsFreeCycle v k t) = elim c.else-is_free.branch [
      | else-is_free-via-then-is_free+else-comes_back b ↦
          away_not v k t b.comes_back.result b.comes_back.ensures b.if-comes_back.false
      | else-is_free-via-else-is_free b ↦
          stuck_not v k m ts is c.in_ok-running.ensures.is c.in_ok-running.ensures.all t c.is_stuck-is_free.result
          c.is_stuck-is_free.ensures (search rules)
    ] in
    none_more v k m ts is c.in_ok-running.ensures.is c.in_ok-running.ensures.all c.loop-number.number t
    (search rules) c.index-stream.ensures away c.loop-number.invariant

pub returns-clause-first : goal.returns-clause-first
returns-clause-first g c =
    none_of c.args.space.now c.args.place c.in_ok-machine.machine c.in_ok-running.running.items
    c.in_ok-machine.ensures.machine c.in_ok-running.ensures.is c.in_ok-running.ensures.all
    c.loop-number.number (search rules) c.loop-number.invariant
