-- Of a set that can be taken before all others, some step is one of each schedule to an end, and the first that is can be
-- moved to its front.
use Rattle.std.proofs.Common.{◌≡◌, ◌≢◌, ◌⊎◌, inl, inr, zero, suc, refl, sym, ap, ◌∙◌, subst, arith, List, [], ◌∷◌, ◌++◌, length}
use Rattle.std.specs.List.{Contains}
use Rattle.image_file.specs.ImageValue.{ImageValue}
use Rattle.processor.specs.World.{World, after, steps}
use Rattle.processor.specs.declared.steps.Step.{Step}
use Rattle.processor.proofs.Histories.{steps-append}
use Rattle.same_futures.proofs.LocalSteps.Orders.{same_or_other}
use Rattle.agreeing_ends.specs.FirstSets.{AreOutside, IsFirstSet}
use Rattle.agreeing_ends.specs.Followed.{IsEnd}

pub same_step : (t u : Step) → (t ≡ u) ⊎ (t ≢ u)
same_step t u = by_processor (same_or_other t.p u.p) (same_or_other t.s u.s) where
  by_processor : (t.p ≡ u.p) ⊎ (t.p ≢ u.p) → (t.s ≡ u.s) ⊎ (t.s ≢ u.s) → (t ≡ u) ⊎ (t ≢ u)
  by_processor (inl p) (inl s) = inl (λ i. record { p = p i; s = s i })
  by_processor (inl p) (inr s) = inr (λ e. s (ap (λ (x : Step). x.s) e))
  by_processor (inr p) s = inr (λ e. p (ap (λ (x : Step). x.p) e))

-- whether a step is one of the set

in_none : (t : Step) → ¬ (Contains [] t)
in_none t (k, below, is) = absurd (omega (arith, below))

pub in_front : (u : Step) (set : List Step) → Contains (u ∷ set) u
in_front u set = (0, omega arith, refl)

in_rest : (u t : Step) (set : List Step) → Contains set t → Contains (u ∷ set) t
in_rest u t set (k, below, is) = (suc k, omega (arith, below), is)

pub front_or_rest : (u t : Step) (set : List Step) → Contains (u ∷ set) t → (u ≡ t) ⊎ Contains set t
front_or_rest u t set (zero, below, is) = inl is
front_or_rest u t set (suc k, below, is) = inr (k, omega (arith, below), is)

pub in_or_out : (set : List Step) (t : Step) → Contains set t ⊎ (¬ (Contains set t))
in_or_out [] t = inr (in_none t)
in_or_out (u ∷ set) t = by_front (same_step u t) (in_or_out set t) where
  by_front : (u ≡ t) ⊎ (u ≢ t) → Contains set t ⊎ (¬ (Contains set t))
      → Contains (u ∷ set) t ⊎ (¬ (Contains (u ∷ set) t))
  by_front (inl same) rest = inl (0, omega arith, same)
  by_front (inr apart) (inl there) = inl (in_rest u t set there)
  by_front (inr apart) (inr none) =
      inr (λ c. elim (front_or_rest u t set c) [ inl same ↦ apart same | inr there ↦ none there ])

-- A step of the set is one of the schedule, and can be taken first.
pub record IsMoved (R : World → World → Type 0) (image : ImageValue) (w : World) (set ts : List Step) : Type 0 where
  pub step : Step
  pub there : Contains set step
  pub others : List Step
  pub one_less : length ts ≡ suc (length others)
  pub leads : R (steps image (after image w step) others) (steps image w ts)

-- The schedule goes on, but for steps outside of the set in front of it, with one of the set.
record IsSplit (set ts : List Step) : Type 0 where
  before : List Step
  outside : AreOutside set before
  step : Step
  there : Contains set step
  behind : List Step
  is : ts ≡ before ++ step ∷ behind

split : (set ts : List Step) → AreOutside set ts ⊎ IsSplit set ts
split set [] = inl tt
split set (u ∷ ts) = by_front (in_or_out set u) (split set ts) where
  by_front : Contains set u ⊎ (¬ (Contains set u)) → AreOutside set ts ⊎ IsSplit set ts
      → AreOutside set (u ∷ ts) ⊎ IsSplit set (u ∷ ts)
  by_front (inl there) rest =
      inr (record { before = []; outside = tt; step = u; there = there; behind = ts; is = refl })
  by_front (inr none) (inl all) = inl (none, all)
  by_front (inr none) (inr s) = inr (record {
    before = u ∷ s.before;
    outside = (none, s.outside);
    step = s.step;
    there = s.there;
    behind = s.behind;
    is = ap (λ xs. u ∷ xs) s.is;
  })

length_less : (us : List Step) (t : Step) (vs : List Step) → length (us ++ t ∷ vs) ≡ suc (length (us ++ vs))
length_less [] t vs = refl
length_less (u ∷ us) t vs = ap (λ n. suc n) (length_less us t vs)

-- Worlds that are alike still are after the same schedule, where a schedule leads to one of them from this world.
abbrev pub MovesOn : (World → World → Type 0) → ImageValue → World → Type 0
MovesOn R image w =
    (us : List Step) (x : World) (ts : List Step) → R (steps image w us) x
    → R (steps image (steps image w us) ts) (steps image x ts)

module _ (R : World → World → Type 0) (image : ImageValue) (w : World) (set : List Step) (first : IsFirstSet R image w set)
    (on : MovesOn R image w) where
  moved_by : (ts : List Step) → IsSplit set ts → IsMoved R image w set ts
  moved_by ts s = record {
    step = s.step;
    there = s.there;
    others = s.before ++ s.behind;
    one_less = ap length s.is ∙ length_less s.before s.step s.behind;
    leads =
        subst (λ x. R x (steps image w ts)) (sym (steps-append image (after image w s.step) s.before s.behind))
        (subst (R (steps image (steps image (after image w s.step) s.before) s.behind))
        (sym (steps-append image w s.before (s.step ∷ s.behind)) ∙ ap (steps image w) (sym s.is))
        (on (s.step ∷ s.before) (after image (steps image w s.before) s.step) s.behind
        (first.each s.step s.there s.before s.outside)));
  }

  pub moved_or_outside : (ts : List Step) → IsMoved R image w set ts ⊎ AreOutside set ts
  moved_or_outside ts = elim (split set ts) [ inl all ↦ inr all | inr s ↦ inl (moved_by ts s) ]

  -- no schedule of others leads to an end
  not_end : (ts : List Step) → AreOutside set ts → ¬ (IsEnd image (steps image w ts))
  not_end ts out (inl finished) = finished (first.key, first.runs ts out)
  not_end ts out (inr still) = first.free ts out (still.each first.key (first.runs ts out))

  pub moved : (ts : List Step) → IsEnd image (steps image w ts) → IsMoved R image w set ts
  moved ts end = elim (moved_or_outside ts) [ inl m ↦ m | inr out ↦ absurd (not_end ts out end) ]
