-- The lowest idle stream.
use Rattle.std.proofs.Common.{◌≡◌, ℕ, zero, suc, ◌<◌, ◌==◌, Bool, true, false, not, ◌&&◌, refl, sym, ap, ◌∙◌}
use Rattle.std.proofs.Common.{arith, ⊎_elim}
use Rattle.std.proofs.lemmas.Bool.{cases_lt, eqb-true, eq-eqb, false≢true, false_from_ne_true}
use Rattle.value_origins.specs.Streams.{all_below, is_lowest_idle}

pub both_true : (a b : Bool) → (a && b) ≡ true → (a ≡ true) × (b ≡ true)
both_true true b h = (refl, h)
both_true false b h = absurd (false≢true h)

pub and_false : (x : Bool) → (x && false) ≡ false
and_false true = refl
and_false false = refl

pub differ : (a b : ℕ) → (a ≡ b → ⊥) → (a == b) ≡ false
differ a b apart = false_from_ne_true (a == b) (λ h. apart (eqb-true a b h))

below_used : (used : ℕ → Bool) (n k : ℕ) → all_below used n ≡ true → k < n → used k ≡ true
below_used used zero k all below = absurd (omega arith)
below_used used (suc m) k all below =
    let both = both_true (used m) (all_below used m) all in
    ⊎_elim
    (λ h. below_used used m k both.1 h)
    (λ h. let same : k ≡ m = omega arith in ap used same ∙ both.0)
    (cases_lt k m)

not_all : (used : ℕ → Bool) (n s : ℕ) → used n ≡ false → n < s → all_below used s ≡ false
not_all used n s idle below =
    false_from_ne_true (all_below used s) (λ h. false≢true (sym idle ∙ below_used used s n h below))

pub below_more : (used : ℕ → Bool) (n next : ℕ) → suc n ≡ next → all_below used n ≡ true → used n ≡ true
    → all_below used next ≡ true
below_more used n next same all here =
    sym (ap (all_below used) same) ∙ ap (λ b. b && all_below used n) here ∙ all

used_one : (used : ℕ → Bool) (s : ℕ) → used s ≡ true → false ≡ is_lowest_idle used s
used_one used s here = sym (ap (λ b. not b && all_below used s) here)

pub lowest_one : (used : ℕ → Bool) (n : ℕ) → all_below used n ≡ true → used n ≡ false → (s : ℕ)
    → (n == s) ≡ is_lowest_idle used s
lowest_one used n all idle s = ⊎_elim
    (λ h. differ n s (λ e. absurd (omega (arith, e, h))) ∙ used_one used s (below_used used n s all h))
    (λ h. ⊎_elim
    (λ g.
    differ n s (λ e. absurd (omega (arith, e, g)))
    ∙ sym (ap (λ b. not (used s) && b) (not_all used n s idle g) ∙ and_false (not (used s))))
    (λ g.
    let same : n ≡ s = omega (arith, h, g) in
    eq-eqb n s same
    ∙ sym (ap (λ k. is_lowest_idle used k) (sym same) ∙ ap (λ b. not b && all_below used n) idle ∙ all))
    (cases_lt n s))
    (cases_lt s n)

pub lowest_none : (used : ℕ → Bool) (n : ℕ) → all_below used n ≡ true → (s : ℕ) → s < n
    → false ≡ is_lowest_idle used s
lowest_none used n all s below = used_one used s (below_used used n s all below)

all_same : (f g : ℕ → Bool) (s : ℕ) → ((r : ℕ) → r < s → f r ≡ g r) → all_below f s ≡ all_below g s
all_same f g zero same = refl
all_same f g (suc s) same =
    ap (λ b. b && all_below f s) (same s (omega arith))
    ∙ ap (λ b. g s && b) (all_same f g s (λ r below. same r (omega (arith, below))))

-- what is made of a stream's use, and of that of all below it
pub same_by : (F : Bool → Bool → Bool) (f g : ℕ → Bool) (s limit : ℕ) → s < limit
    → ((r : ℕ) → r < limit → f r ≡ g r) → F (f s) (all_below f s) ≡ F (g s) (all_below g s)
same_by F f g s limit inside same =
    ap (λ x. F x (all_below f s)) (same s inside)
    ∙ ap (λ a. F (g s) a) (all_same f g s (λ r below. same r (omega (arith, below, inside))))
