-- The cycles of one stream more, and of one edge more.
use Rattle.std.proofs.Common.{◌≡◌, ◌⊎◌, inl, inr, ℕ, ◌+◌, ◌<◌, ◌≤◌, refl, sym, ap, ◌∙◌, subst, arith}
use Rattle.std.proofs.Common.{Some, List, [], ◌∷◌, ◌++◌, length, slice_get, slice_index_or}
use Rattle.std.proofs.lemmas.Bool.{cases_lt}
use Rattle.std.proofs.lemmas.List.{get_or_append_left, get_or_push, get_or_default, length_push}
use Rattle.std.proofs.lemmas.Option.{slice_get_within, slice_get-get_or, get_or_from_slice_get}
use Rattle.processor.specs.declared.steps.Step.{Step}
use Rattle.schedule_space.specs.declared.links.Edge.{Edge}
use Rattle.schedule_space.specs.Spaces.{SpaceValue}
use Rattle.busy_streams.specs.declared.stream_cycles.OwnCycles.{OwnCycles}
use Rattle.busy_streams.specs.OwnCycles.{AreOwnCycles, AreAllOwn, HasCyclesOf}

module _ (rs : List OwnCycles) (r : OwnCycles) where
  longer : length (rs ++ r ∷ []) ≡ length rs + 1
  longer = length_push rs r

  last : slice_get (rs ++ r ∷ []) (length rs) ≡ Some r
  last =
      let long = longer in
      slice_get-get_or (rs ++ r ∷ []) (length rs) r (omega (arith, long))
      ∙ ap (λ x. Some x) (get_or_push rs r r (length rs) refl)

  pub still_has : (t : Step) → HasCyclesOf rs t → HasCyclesOf (rs ++ r ∷ []) t
  still_has t has =
      let long = longer in
      let below = slice_get_within rs has.0 has.1 has.2 in
      let there : slice_get (rs ++ r ∷ []) has.0 ≡ Some has.1 =
      slice_get-get_or (rs ++ r ∷ []) has.0 has.1 (omega (arith, long, below))
      ∙ ap (λ x. Some x)
      (get_or_append_left rs (r ∷ []) has.1 has.0 below ∙ get_or_from_slice_get rs has.0 has.1 has.1 has.2) in
      (has.0, has.1, there, has.3)

  pub has_last : (t : Step) → r.stream ≡ t → HasCyclesOf (rs ++ r ∷ []) t
  has_last t same = (length rs, r, last, same)

  pub own_more : (v : SpaceValue) → AreAllOwn v rs → AreOwnCycles v r → AreAllOwn v (rs ++ r ∷ [])
  own_more v all own i q there = elim (cases_lt i (length rs)) [
    | inl less ↦
        all i q (slice_get-get_or rs i q less
        ∙ ap (λ x. Some x)
        (sym (get_or_append_left rs (r ∷ []) q i less) ∙ get_or_from_slice_get (rs ++ r ∷ []) i q q there))
    | inr most ↦
        let long = longer in
        let within = slice_get_within (rs ++ r ∷ []) i q there in
        let at : i ≡ length rs = omega (arith, long, within, most) in
        let same : r ≡ q =
        sym (get_or_push rs r r (length rs) refl) ∙ ap (λ n. slice_index_or (rs ++ r ∷ []) n r) (sym at)
        ∙ get_or_from_slice_get (rs ++ r ∷ []) i q r there in
        subst (AreOwnCycles v) same own
  ]

-- the stream of one edge more is among them
pub each_more : (es : List Edge) (old new : List OwnCycles) (n : ℕ) (t : Step) (d : Edge)
    → ((u : Step) → HasCyclesOf old u → HasCyclesOf new u) → HasCyclesOf new t → n < length es
    → t ≡ (slice_index_or es n d).step
    → ((i : ℕ) (e : Edge) → i < n → HasCyclesOf old (slice_index_or es i e).step)
    → (i : ℕ) (e : Edge) → i < n + 1 → HasCyclesOf new (slice_index_or es i e).step
each_more es old new n t d grows here below at before i e within = elim (cases_lt i n) [
  | inl less ↦ grows (slice_index_or es i e).step (before i e less)
  | inr most ↦
      let same : n ≡ i = omega (arith, within, most) in
      let is : t ≡ (slice_index_or es i e).step =
      at ∙ ap (λ (x : Edge). x.step) (get_or_default es n d e below)
      ∙ ap (λ k. (slice_index_or es k e).step) same in
      subst (HasCyclesOf new) is here
]
