use Rattle.std.proofs.Common.{◌≡◌, ◌+◌, ◌-◌, ℕ, refl, subst, arith, length}
use Rattle.std.proofs.lemmas.Option.{slice_get_read}
use Rattle.stream_waits.proofs.SameStreams.{are_same, are_other}
use Rattle.stream_waits.proofs.LookedTries.{Looked, ViewAt, looked_none, looked_other, looked_try, since_stopped, since_all}
use Rattle.stream_waits.proofs.tries.first_try.Goals as goal

pub loop-index-init : goal.loop-index-init
loop-index-init c = looked_none c.args.views.now c.args.stream (length c.args.views.now) (omega arith)

pub loop-index-preserved-then-eq : goal.loop-index-preserved-then-eq
loop-index-preserved-then-eq c =
    let views = c.args.views.now in
    let view = c.index-views-index.result in
    let n = c.loop-index.index - 1 in
    let up : c.loop-index.index ≡ n + 1 = omega arith in
    let at : ViewAt views n view = record {
      at = slice_get_read views (length views) n view refl (omega arith) c.index-views-index.is;
    } in
    looked_try views c.args.stream n c.loop-index.since view at
    (are_same view.step c.args.stream c.eq.result c.eq.ensures c.if-eq.true)
    (c.is_blocked.ensures.0 c.if-not-is_blocked.false)
    (subst (λ (i : ℕ). Looked views c.args.stream i c.loop-index.since) up c.loop-index.invariant)

pub loop-index-preserved : goal.loop-index-preserved
loop-index-preserved c =
    let views = c.args.views.now in
    let view = c.index-views-index.result in
    let n = c.loop-index.index - 1 in
    let up : c.loop-index.index ≡ n + 1 = omega arith in
    let at : ViewAt views n view = record {
      at = slice_get_read views (length views) n view refl (omega arith) c.index-views-index.is;
    } in
    looked_other views c.args.stream n c.loop-index.since view at
    (are_other view.step c.args.stream c.eq.result c.eq.ensures c.if-eq.false)
    (subst (λ (i : ℕ). Looked views c.args.stream i c.loop-index.since) up c.loop-index.invariant)

pub returns-then-not-is_blocked : goal.returns-then-not-is_blocked
returns-then-not-is_blocked c =
    let views = c.args.views.now in
    let view = c.index-views-index.result in
    let n = c.loop-index.index - 1 in
    let up : c.loop-index.index ≡ n + 1 = omega arith in
    let at : ViewAt views n view = record {
      at = slice_get_read views (length views) n view refl (omega arith) c.index-views-index.is;
    } in
    since_stopped views c.args.stream n c.loop-index.since view at
    (are_same view.step c.args.stream c.eq.result c.eq.ensures c.if-eq.true)
    (λ blocked. let yes = c.is_blocked.ensures.1 blocked in let no = c.if-not-is_blocked.true in cc)
    (subst (λ (i : ℕ). Looked views c.args.stream i c.loop-index.since) up c.loop-index.invariant)

pub returns : goal.returns
returns c = since_all c.args.views.now c.args.stream c.loop-index.index c.loop-index.since (omega arith) c.loop-index.invariant
