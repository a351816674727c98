use Rattle.std.proofs.Common.{◌≡◌, inl, inr, arith, None, Some}
use Rattle.stream_waits.specs.Circles.{next_of}
use Rattle.stream_waits.proofs.SameStreams.{are_same, are_other}
use Rattle.stream_waits.proofs.Walks.{way_ends, way_back, way_on, way_too_long}
use Rattle.stream_waits.proofs.circles.way_back.Goals as goal

pub returns-in_default : goal.returns-in_default
returns-in_default c =
    let leads : None ≡ next_of c.args.waits.now c.loop-taken.at = cc in
    inr
    (way_ends c.args.waits.now c.args.first c.loop-taken.at c.loop-taken.way.items c.new.result.items c.loop-taken._taken
    c.loop-taken.invariant leads c.new.ensures.items)

pub returns-then-eq : goal.returns-then-eq
returns-then-eq c =
    let leads : Some c.in-Some.next ≡ next_of c.args.waits.now c.loop-taken.at = cc in
    inl
    (way_back c.args.waits.now c.args.first c.loop-taken.at c.in-Some.next c.loop-taken.way.items c.push.new.self.items
    c.loop-taken._taken c.loop-taken.invariant c.in_ok-push.ensures.items leads
    (are_same c.in-Some.next c.args.first c.eq.result c.eq.ensures c.if-eq.true))

pub loop-taken-preserved : goal.loop-taken-preserved
loop-taken-preserved c =
    let leads : Some c.in-Some.next ≡ next_of c.args.waits.now c.loop-taken.at = cc in
    way_on c.args.waits.now c.args.first c.loop-taken.at c.in-Some.next c.loop-taken.way.items c.push.new.self.items
    c.loop-taken._taken c.loop-taken.invariant c.in_ok-push.ensures.items leads
    (are_other c.in-Some.next c.args.first c.eq.result c.eq.ensures c.if-eq.false)

pub returns : goal.returns
returns c =
    inr
    (way_too_long c.args.waits.now c.args.first c.loop-taken.at c.loop-taken.way.items c.new-2.result.items
    c.loop-taken._taken c.loop-taken.invariant (omega arith) c.new-2.ensures.items)
