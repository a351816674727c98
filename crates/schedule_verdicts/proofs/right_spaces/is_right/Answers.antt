use Rattle.std.proofs.Common.{rules, ◌↔◌, ◌⊎◌, IsTrue, inl, inr}
use Rattle.std.proofs.lemmas.Result.{IfOk-weaker}
use Rattle.busy_streams.specs.ScheduleSpace.Spaces.{IsComplete, HasAllEdges}
use Rattle.busy_streams.specs.ScheduleSpace.Followed.{AllFollowed, HasAllEnds, TellsWhetherAllEnd}
use Rattle.schedule_verdicts.specs.KeptClaims.{AreKept}
use Rattle.schedule_verdicts.specs.NamedRegisters.{AreNamed}
use Rattle.schedule_verdicts.specs.RightSpaces.{EndsRight, IsRightOnEachWay, IsFollowedForClaims}
use Rattle.schedule_verdicts.proofs.Every.{right_by_worlds}
use Rattle.schedule_verdicts.proofs.StandIns.{right_by_ends}
use Rattle.schedule_verdicts.proofs.Each.{right_of_space}
use Rattle.schedule_verdicts.proofs.Shown.{right_by_followed}
use Rattle.schedule_verdicts.proofs.right_spaces.is_right.Goals as goal

pub returns-clause-ends : goal.returns-clause-ends
returns-clause-ends g c =
    let v = c.args.space.now in
    let ends = c.in_ok-ends_are_right.ensures.are.0 (search rules) in
    let reach = c.in_ok-comes_to_ends.ensures.sound (search rules) in
    IfOk-weaker c.are_kept.result (λ b. IsTrue b ↔ AreKept v c.args.claims.now)
    (λ b. IsTrue b → AreNamed c.args.expected.now v.live.names → HasAllEnds v → TellsWhetherAllEnd v
    → EndsRight v.image v.begin c.args.expected.now)
    (λ b told yes.
    right_by_ends v c.args.expected.now c.args.claims.now
    (record { ends = ends; reach = reach; kept = told.0 yes }) (c.in_ok-ends_are_right.ensures.registers (search rules))
    c.live-live.ensures.live)
    c.are_kept.ensures.kept

pub returns-clause-each_way : goal.returns-clause-each_way
returns-clause-each_way g c =
    let v = c.args.space.now in
    let ends = c.in_ok-ends_are_right.ensures.are.0 (search rules) in
    let reach = c.in_ok-comes_to_ends.ensures.sound (search rules) in
    IfOk-weaker c.are_kept.result (λ b. IsTrue b ↔ AreKept v c.args.claims.now)
    (λ b. IsTrue b → IsComplete v → IsRightOnEachWay v.image v.begin c.args.expected.now c.args.claims.now)
    (λ b told yes.
    right_by_worlds v c.args.expected.now c.args.claims.now
    (record { ends = ends; reach = reach; kept = told.0 yes }))
    c.are_kept.ensures.kept

pub returns-clause-shown : goal.returns-clause-shown
returns-clause-shown g c =
    let v = c.args.space.now in
    let ends = c.in_ok-ends_are_right.ensures.are.0 (search rules) in
    let reach = c.in_ok-comes_to_ends.ensures.sound (search rules) in
    IfOk-weaker c.are_kept.result (λ b. IsTrue b ↔ AreKept v c.args.claims.now)
    (λ b. IsTrue b → AreNamed c.args.expected.now v.live.names → IsFollowedForClaims v c.args.claims.now
    → IsRightOnEachWay v.image v.begin c.args.expected.now c.args.claims.now)
    (λ b told yes.
    right_by_followed v c.args.expected.now c.args.claims.now
    (record { ends = ends; reach = reach; kept = told.0 yes }) (c.in_ok-ends_are_right.ensures.registers (search rules))
    c.live-live.ensures.live)
    c.are_kept.ensures.kept

pub returns-then-not-branch-clause-only : goal.returns-then-not-branch-clause-only
returns-then-not-branch-clause-only g c = λ taken right.
    let whole = right_of_space c.args.space.now c.args.expected.now c.args.claims.now c.len-worlds.ensures.links right in
    let yes = c.in_ok-ends_are_right.ensures.are.1 whole.ends in
    let no = c.if-not-branch.true in
    search rules

pub returns-then-not-branch-2-clause-only : goal.returns-then-not-branch-2-clause-only
returns-then-not-branch-2-clause-only g c = λ taken right.
    let whole = right_of_space c.args.space.now c.args.expected.now c.args.claims.now c.len-worlds.ensures.links right in
    let told = c.in_ok-comes_to_ends.ensures in
    let yes : IsTrue c.in_ok-comes_to_ends.field-0 =
    elim taken [
      | inl all ↦ told.plain all.0 all.1 whole.reach
      | inr followed ↦ told.followed followed whole.reach
    ] in
    let no = c.if-not-branch-2.true in
    search rules

pub returns-clause-only : goal.returns-clause-only
returns-clause-only g c =
    let v = c.args.space.now in
    IfOk-weaker c.are_kept.result (λ b. IsTrue b ↔ AreKept v c.args.claims.now)
    (λ b. (IsComplete v × HasAllEdges v) ⊎ AllFollowed v
    → IsRightOnEachWay v.image v.begin c.args.expected.now c.args.claims.now → IsTrue b)
    (λ b told taken right.
    told.1 (right_of_space v c.args.expected.now c.args.claims.now c.len-worlds.ensures.links right).kept)
    c.are_kept.ensures.kept
