use Rattle.std.proofs.Common.{◌≡◌, ◌-◌, [], length, get_or, refl, sym, ◌∙◌, arith}
use Rattle.world_keys.proofs.Places.{has_at}
use Rattle.world_keys.proofs.Linking.{sought_next, sought_none, found_at, read_at, equal_lists, other_lists}
use Rattle.world_keys.proofs.buckets.find_linked.Goals as goal

pub returns-then-eq-clause-place : goal.returns-then-eq-clause-place
returns-then-eq-clause-place c =
    let ls = c.args.lists.now in
    let at = read_at ls (c.loop-link.link - 1) c.list.result c.unwrap.result c.unwrap.ensures c.list.ensures in
    let same = equal_lists c.unwrap.result.now c.args.list.now c.eq.result c.if-eq.true c.eq.ensures in
    found_at ls c.args.heads.now c.args.earlier.now c.args.list.now (c.loop-link.link - 1) c.requires at.0 (at.1 ∙ same)

pub returns-then-eq-clause-there : goal.returns-then-eq-clause-there
returns-then-eq-clause-there c =
    let ls = c.args.lists.now in
    let at = read_at ls (c.loop-link.link - 1) c.list.result c.unwrap.result c.unwrap.ensures c.list.ensures in
    let same = equal_lists c.unwrap.result.now c.args.list.now c.eq.result c.if-eq.true c.eq.ensures in
    (λ _. has_at ls (c.loop-link.link - 1) c.args.list.now [] at.0 (at.1 ∙ same), λ _. refl)

pub loop-link-preserved : goal.loop-link-preserved
loop-link-preserved c =
    let ls = c.args.lists.now in
    let k = c.loop-link.link - 1 in
    let at = read_at ls k c.list.result c.unwrap.result c.unwrap.ensures c.list.ensures in
    let other = other_lists c.unwrap.result.now c.args.list.now c.eq.result c.if-eq.false c.eq.ensures in
    sought_next ls c.args.heads.now c.args.earlier.now c.args.list.now k c.loop-link.link
    (get_or c.args.earlier.now k 0) c.requires (omega (arith, c.loop-link-test.true)) c.loop-link.invariant
    (λ same. other (sym at.1 ∙ same)) refl

pub returns-clause-there : goal.returns-clause-there
returns-clause-there c =
    let off : c.loop-link.link ≡ 0 = omega (arith, c.loop-link-test.false) in (
      λ e. absurd cc,
      λ has. absurd (sought_none c.args.lists.now (length c.args.heads.now) c.args.list.now c.loop-link.link off c.loop-link.invariant has),
    )
