use Rattle.std.proofs.Common.{sym, ◌∙◌}
use Rattle.std.specs.Prelude.{IsTrue, IsFalse}
use Rattle.std.proofs.lemmas.Result.{IfOk-weaker}
use Rattle.busy_streams.specs.ScheduleSpace.Spaces.{IsComplete, HasAllEdges}
use Rattle.busy_streams.specs.ScheduleSpace.Followed.{AllFollowed}
use Rattle.schedule_verdicts.specs.RightEnds.{may_loop}
use Rattle.schedule_verdicts.specs.RightSpaces.{AllCanEnd}
use Rattle.schedule_verdicts.proofs.right_spaces.comes_to_ends.Goals as goal

pub returns-clause-plain : goal.returns-clause-plain
returns-clause-plain c =
    let v = c.args.space.now in
    let must_end : IsFalse (may_loop c.args.expected.now) = sym c.may_loop.ensures ∙ c.if-may_loop.false in
    IfOk-weaker c.all_can_end.result (λ b. IsComplete v → HasAllEdges v → AllCanEnd v → IsTrue b)
    (λ b. IsComplete v → HasAllEdges v → (IsFalse (may_loop c.args.expected.now) → AllCanEnd v) → IsTrue b)
    (λ b told all edges can. told all edges (can must_end)) c.all_can_end.ensures.plain

pub returns-clause-followed : goal.returns-clause-followed
returns-clause-followed c =
    let v = c.args.space.now in
    let must_end : IsFalse (may_loop c.args.expected.now) = sym c.may_loop.ensures ∙ c.if-may_loop.false in
    IfOk-weaker c.all_can_end.result (λ b. AllFollowed v → AllCanEnd v → IsTrue b)
    (λ b. AllFollowed v → (IsFalse (may_loop c.args.expected.now) → AllCanEnd v) → IsTrue b)
    (λ b told all can. told all (can must_end)) c.all_can_end.ensures.followed
