-- The world at a position is that before it after the step that led there.
use Rattle.std.proofs.Common.{◌≡◌, ℕ, zero, suc, ◌-◌, refl, sym, ap, ◌∙◌, arith, ltb-true, nat_lt}
use Rattle.std.proofs.Common.{Bool, true, false, if◌then◌else◌, List, [], ◌∷◌, take, Option, Some, None, slice_get}
use Rattle.std.proofs.lemmas.Option.{same_Some, none-some}
use Rattle.processor.specs.World.{World, start, after, steps}
use Rattle.processor.specs.declared.steps.Step.{Step}
use Rattle.replay_debugger.specs.Sessions.{SessionValue, world_at}
use Rattle.replay_debugger.specs.StreamSteps.{step_to}

world_next : (s : SessionValue) (w : World) (ts : List Step) (k : ℕ) (t : Step) → slice_get ts k ≡ Some t
    → steps s.image w (take (suc k) ts) ≡ after s.image (steps s.image w (take k ts)) t
world_next s w [] k t e = absurd (none-some t e)
world_next s w (x ∷ xs) zero t e = ap (λ y. after s.image w y) (same_Some x t e)
world_next s w (x ∷ xs) (suc k) t e = world_next s (after s.image w x) xs k t e

chosen : {A : Type 0} (b : Bool) (x : Option A) (t : A) → (if b then x else None) ≡ Some t
    → (x ≡ Some t) × (b ≡ true)
chosen true x t e = (e, refl)
chosen false x t e = absurd (none-some t e)

pub world_led : (s : SessionValue) (t : Step) → step_to s.schedule s.position ≡ Some t
    → after s.image (world_at s.image s.schedule (s.position - 1)) t ≡ world_at s.image s.schedule s.position
world_led s t led =
    let k = s.position in
    let there = chosen (nat_lt 0 k) (slice_get s.schedule (k - 1)) t led in
    let above = ltb-true 0 k there.1 in
    let next : suc (k - 1) ≡ k = omega (arith, above) in
    sym (world_next s (start s.image) s.schedule (k - 1) t there.0) ∙ ap (world_at s.image s.schedule) next
