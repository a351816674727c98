-- Steps with one more at their end.
use Rattle.std.proofs.Common.{◌≡◌, ℕ, zero, suc, ◌-◌, ◌<◌, refl, ap, ◌∙◌, arith}
use Rattle.std.proofs.Common.{List, [], ◌∷◌, ◌++◌, length, Some}
use Rattle.std.specs.Prelude.{slice_get}
use Rattle.std.proofs.lemmas.List.{length_push}
use Rattle.processor.specs.declared.steps.Step.{Step}
use Rattle.schedule_makers.specs.Rules.{last_step}

pub get-push : (ts : List Step) (t : Step) → slice_get (ts ++ t ∷ []) (length ts) ≡ Some t
get-push [] t = refl
get-push (u ∷ ts) t = get-push ts t

pub get-before : (ts : List Step) (t : Step) (k : ℕ) → k < length ts
    → slice_get (ts ++ t ∷ []) k ≡ slice_get ts k
get-before [] t k below = absurd (omega arith)
get-before (u ∷ ts) t zero below = refl
get-before (u ∷ ts) t (suc k) below = get-before ts t k (omega (arith, below))

pub last-push : (ts : List Step) (t : Step) → last_step (ts ++ t ∷ []) ≡ Some t
last-push ts t =
    let place : length (ts ++ t ∷ []) - 1 ≡ length ts = omega (arith, length_push ts t) in
    ap (slice_get (ts ++ t ∷ [])) place ∙ get-push ts t
