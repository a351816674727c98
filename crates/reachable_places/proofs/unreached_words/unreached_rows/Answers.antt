use Rattle.std.proofs.Common.{ap, sym, ◌∙◌, subst, arith, Vec, ℕ, Global}
use Rattle.std.specs.Prelude.{All}
use Rattle.std.proofs.lemmas.Grind.{common_steps}
use Rattle.reachable_places.specs.Reached.{IsNeverReached}
use Rattle.reachable_places.proofs.KeptWorlds.{row_added}
use Rattle.reachable_places.proofs.unreached_words.unreached_rows.Goals as goal
use Rattle.reachable_places.proofs.unreached_words.unreached_rows.Goals.{then-is_before_reached+then-not-is_reached+in_ok-push, else-is_before_reached}

pub loop-place-preserved : goal.loop-place-preserved
loop-place-preserved c = elim c.if-is_before_reached.branch [
  | then-is_before_reached+then-not-is_reached+in_ok-push w ↦
      subst (All (IsNeverReached c.args.image.now)) (sym (ap (λ (r : Vec ℕ Global). r.items) w.rows-is ∙ w.in_ok-push.ensures.items))
      (row_added c.args.image.now c.in_ok-places.places.items c.loop-place.rows.items c.loop-place.place
      c.in_ok-places.ensures.covers (grind (arith, common_steps)) c.loop-place.invariant)
  | else-is_before_reached w ↦
      subst (λ (r : Vec ℕ Global). All (IsNeverReached c.args.image.now) r.items) (sym w.rows-is) c.loop-place.invariant
]
