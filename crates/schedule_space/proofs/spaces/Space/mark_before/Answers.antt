use Rattle.std.proofs.Common.{◌≡◌, ◌-◌, arith, rules, false, get_or}
use Rattle.schedule_space.specs.Reaching.{IsMarked}
use Rattle.schedule_space.proofs.Marking.{no_edge, edge_at, can_more, marked_too, marked_more, back_more, IsMarkedBack}
use Rattle.schedule_space.proofs.spaces.Space.mark_before.Goals as goal
use Rattle.schedule_space.proofs.spaces.Space.mark_before.Goals.{else-marks-edge-via-then-marks-edge+else-not-marks-edge, else-marks-edge-via-else-marks-edge}

pub bounds-marks-edge : goal.bounds-marks-edge
bounds-marks-edge c =
    let n = c.loop-number.number - 1 in
    let is =
    edge_at c.args.self.now c.edges-edges.result.now n c.edges-edges.ensures.edges c.edges-edges.ensures.each
    (omega arith) in
    omega (arith, is.to, c.loop-number.invariant.can.each)

pub bounds-marks-edge-then-marks-edge : goal.bounds-marks-edge-then-marks-edge
bounds-marks-edge-then-marks-edge c =
    let n = c.loop-number.number - 1 in
    let is =
    edge_at c.args.self.now c.edges-edges.result.now n c.edges-edges.ensures.edges c.edges-edges.ensures.each
    (omega arith) in
    omega (arith, is.from, c.loop-number.invariant.can.each)

pub bounds-marks-edge-then-not-marks-edge : goal.bounds-marks-edge-then-not-marks-edge
bounds-marks-edge-then-not-marks-edge c =
    let n = c.loop-number.number - 1 in
    let is =
    edge_at c.args.self.now c.edges-edges.result.now n c.edges-edges.ensures.edges c.edges-edges.ensures.each
    (omega arith) in
    omega (arith, is.from, c.loop-number.invariant.can.each)

pub loop-number-preserved-then-not-marks-edge : goal.loop-number-preserved-then-not-marks-edge
loop-number-preserved-then-not-marks-edge c =
    let v = c.args.self.now in
    let marks = c.loop-number.marks in
    let n = c.loop-number.number - 1 in
    let e = get_or c.edges-edges.result.now n no_edge in
    let is =
    edge_at v c.edges-edges.result.now n c.edges-edges.ensures.edges c.edges-edges.ensures.each (omega arith) in
    let to : IsMarked marks e.to = search rules in
    let off : get_or marks e.from false ≡ false = search rules in
    let many = marked_more marks e.from false (omega (arith, is.from, c.loop-number.invariant.can.each)) off in
    record {
      can = can_more v marks e c.edges-edges.ensures.live c.loop-number.invariant.can is to;
      kept = λ k on. marked_too marks e.from k (c.loop-number.invariant.kept k on);
      low = omega (arith, many, c.loop-number.invariant.low);
      more = λ _. omega (arith, many, c.loop-number.invariant.low);
      back = λ none. absurd cc;
    }

pub loop-number-preserved : goal.loop-number-preserved
loop-number-preserved c =
    let marks = c.loop-number.marks in
    let es = c.edges-edges.result.now in
    let n = c.loop-number.number in
    let e = get_or es (n - 1) no_edge in
    let first : IsMarkedBack marks e =
    elim c.else-marks-edge.branch [
      | else-marks-edge-via-then-marks-edge+else-not-marks-edge w ↦ λ _. search rules
      | else-marks-edge-via-else-marks-edge w ↦ λ on. absurd cc
    ] in
    record {
      can = c.loop-number.invariant.can;
      kept = c.loop-number.invariant.kept;
      low = c.loop-number.invariant.low;
      more = c.loop-number.invariant.more;
      back = λ none. back_more marks es n (omega arith) (c.loop-number.invariant.back none) first;
    }
