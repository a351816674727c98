use Rattle.std.proofs.Common.{◌≡◌, arith, rules, sym, subst, List, Bool, length}
use Rattle.schedule_space.specs.Reaching.{IsMarked, AreMarkedToo, AreMarkedBack, HasEndsMarked}
use Rattle.schedule_space.proofs.Marking.{written, all_can, all_marked}
use Rattle.schedule_space.proofs.Following.{marked_all}
use Rattle.schedule_space.proofs.spaces.Space.can_end.Goals as goal

pub returns-then-not-mark_before-clause-all : goal.returns-then-not-mark_before-clause-all
returns-then-not-mark_before-clause-all c = λ complete edges k below can.
    let v = c.args.self.now in
    let old = c.loop-pass.marks.items in
    let new = c.mark_before.new.marks in
    let n = c.loop-pass.marks.len in
    let each = c.mark_before.ensures.ends.each in
    let many : length old ≡ n = search rules in
    let kept : AreMarkedToo old new = search rules in
    let back : AreMarkedBack v new = search rules in
    let ends : HasEndsMarked v new = λ j less end. kept j (c.loop-pass.invariant.ends j less end) in
    let same = written old new n many (omega (arith, each, many, c.loop-pass.invariant.can.each)) in
    subst (λ (ms : List Bool). IsMarked ms k) (sym same) (all_can v new complete c.len-pass-end.ensures.links edges ends back k below can)

pub returns-clause-all : goal.returns-clause-all
returns-clause-all c = λ _ _ k below _.
    let marks = c.loop-pass.marks.items in
    all_marked marks k
    (omega (arith, c.len-pass-end.ensures.count, c.loop-pass.invariant.can.each, c.loop-pass.invariant.more, c.loop-pass-test.false))
    (omega (arith, below, c.loop-pass.invariant.can.each))

pub returns-then-not-mark_before-clause-followed : goal.returns-then-not-mark_before-clause-followed
returns-then-not-mark_before-clause-followed c = λ followed k below can.
    let v = c.args.self.now in
    let old = c.loop-pass.marks.items in
    let new = c.mark_before.new.marks in
    let n = c.loop-pass.marks.len in
    let each = c.mark_before.ensures.ends.each in
    let many : length old ≡ n = search rules in
    let kept : AreMarkedToo old new = search rules in
    let back : AreMarkedBack v new = search rules in
    let ends : HasEndsMarked v new = λ j less end. kept j (c.loop-pass.invariant.ends j less end) in
    let same = written old new n many (omega (arith, each, many, c.loop-pass.invariant.can.each)) in
    subst (λ (ms : List Bool). IsMarked ms k) (sym same) (marked_all v c.len-pass-end.ensures.live followed new ends back k below can)

pub returns-clause-followed : goal.returns-clause-followed
returns-clause-followed c = λ _ k below _.
    let marks = c.loop-pass.marks.items in
    all_marked marks k
    (omega (arith, c.len-pass-end.ensures.count, c.loop-pass.invariant.can.each, c.loop-pass.invariant.more, c.loop-pass-test.false))
    (omega (arith, below, c.loop-pass.invariant.can.each))
