-- Steps of a record behind a schedule, one by one.
use Rattle.std.proofs.Common.{◌≡◌, ℕ, zero, suc, ◌+◌, ◌-◌, ◌<◌, ◌≤◌, refl, ap, ◌∙◌, sym, arith, List, [], ◌∷◌, ◌++◌}
use Rattle.std.proofs.Common.{map, take, drop, replicate, Some, append_assoc, append-nil}
use Rattle.std.specs.Prelude.{slice_get, slice_range}
use Rattle.std.proofs.lemmas.List.{take_more, map-append, replicate_more}
use Rattle.std.proofs.lemmas.Option.{slice_get_within, get_or_from_slice_get}
use Rattle.processor.specs.declared.steps.Step.{Step}
use Rattle.processor.specs.Histories.{step_by}
use Rattle.shared_history.proofs.Places.{get-drop}

-- one place more
range-more : (xs : List ℕ) (d k s : ℕ) → d ≤ k → slice_get xs k ≡ Some s
    → slice_range xs d (k + 1) ≡ slice_range xs d k ++ s ∷ []
range-more xs d k s order here =
    let at : slice_get (drop d xs) (k - d) ≡ Some s =
    get-drop xs d (k - d) ∙ ap (λ n. slice_get xs n) (let e : d + (k - d) ≡ k = omega arith in e) ∙ here in
    let n : k + 1 - d ≡ k - d + 1 = omega arith in
    ap (λ m. take m (drop d xs)) n ∙ take_more (drop d xs) (k - d) s (slice_get_within (drop d xs) (k - d) s at)
    ∙ ap (λ x. take (k - d) (drop d xs) ++ x ∷ []) (get_or_from_slice_get (drop d xs) (k - d) s s at)

pushed : (now new old : List Step) (p : ℕ) (xs : List ℕ) (d k s : ℕ) → d ≤ k
    → now ≡ old ++ map (step_by p) (slice_range xs d k) → slice_get xs k ≡ Some s
    → new ≡ now ++ step_by p s ∷ [] → new ≡ old ++ map (step_by p) (slice_range xs d (k + 1))
pushed now new old p xs d k s order so here is =
    is ∙ ap (λ l. l ++ step_by p s ∷ []) so
    ∙ append_assoc old (map (step_by p) (slice_range xs d k)) (step_by p s ∷ [])
    ∙ ap (λ l. old ++ l) (sym (map-append (step_by p) (slice_range xs d k) (s ∷ [])))
    ∙ ap (λ l. old ++ map (step_by p) l) (sym (range-more xs d k s order here))

-- and steps of one stream, all at once
pub pushed_run : (n : ℕ) (now new old : List Step) (p : ℕ) (xs : List ℕ) (d k s : ℕ) → d ≤ k
    → now ≡ old ++ map (step_by p) (slice_range xs d k)
    → ((j : ℕ) → k ≤ j → j < k + n → slice_get xs j ≡ Some s)
    → new ≡ now ++ replicate n (step_by p s) → new ≡ old ++ map (step_by p) (slice_range xs d (k + n))
pushed_run zero now new old p xs d k s order so here is =
    let same : k ≡ k + 0 = omega arith in
    is ∙ append-nil now ∙ so ∙ ap (λ m. old ++ map (step_by p) (slice_range xs d m)) same
pushed_run (suc n) now new old p xs d k s order so here is =
    let before : List Step = now ++ replicate n (step_by p s) in
    let further : before ≡ old ++ map (step_by p) (slice_range xs d (k + n)) =
    pushed_run n now before old p xs d k s order so (λ j up to. here j up (omega arith)) refl in
    let more : replicate (suc n) (step_by p s) ≡ replicate n (step_by p s) ++ step_by p s ∷ [] =
    let one : suc n ≡ n + 1 = omega arith in
    ap (λ m. replicate m (step_by p s)) one ∙ sym (replicate_more n (step_by p s)) in
    let last : new ≡ before ++ step_by p s ∷ [] =
    is ∙ ap (λ l. now ++ l) more ∙ sym (append_assoc now (replicate n (step_by p s)) (step_by p s ∷ [])) in
    let end : k + n + 1 ≡ k + suc n = omega arith in
    pushed before new old p xs d (k + n) s (omega arith) further (here (k + n) (omega arith) (omega arith)) last
    ∙ ap (λ m. old ++ map (step_by p) (slice_range xs d m)) end
