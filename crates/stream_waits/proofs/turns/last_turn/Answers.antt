use Rattle.std.proofs.Common.{◌≡◌, ◌+◌, ◌-◌, ℕ, refl, subst, arith, length}
use Rattle.std.proofs.lemmas.Option.{slice_get_read}
use Rattle.stream_waits.proofs.LookedTries.{ViewAt}
use Rattle.stream_waits.proofs.LookedTurns.{NoneFrom, none_more, last_here}
use Rattle.stream_waits.proofs.turns.last_turn.Goals as goal

pub returns-then-turns : goal.returns-then-turns
returns-then-turns c =
    let views = c.args.views.now in
    let view = c.index-views-index.result in
    let n = c.loop-index.index - 1 in
    let up : c.loop-index.index ≡ n + 1 = omega arith in
    let at : ViewAt views n view = record {
      at = slice_get_read views (length views) n view refl (omega arith) c.index-views-index.is;
    } in
    last_here views c.args.address n view (record { number = n + 1; step = view.step }) at refl refl
    (c.turns.ensures.0 c.if-turns.true)
    (subst (λ (i : ℕ). NoneFrom views c.args.address i) up c.loop-index.invariant)

pub loop-index-preserved : goal.loop-index-preserved
loop-index-preserved c =
    let views = c.args.views.now in
    let view = c.index-views-index.result in
    let n = c.loop-index.index - 1 in
    let up : c.loop-index.index ≡ n + 1 = omega arith in
    let at : ViewAt views n view = record {
      at = slice_get_read views (length views) n view refl (omega arith) c.index-views-index.is;
    } in
    none_more views c.args.address n view at
    (λ turns. let yes = c.turns.ensures.1 turns in let no = c.if-turns.false in cc)
    (subst (λ (i : ℕ). NoneFrom views c.args.address i) up c.loop-index.invariant)
