-- Rules take one of the running streams, and one wherever there is one.
use Rattle.std.proofs.Common.{◌≡◌, ℕ, zero, suc, ◌==◌, Bool, true, false, refl, sym, ap, ◌∙◌, subst, arith, cond}
use Rattle.std.proofs.Common.{List, [], ◌∷◌, Option, Some, None, eq-eqb}
use Rattle.std.specs.Prelude.{find, filter, Contains, slice_get, option_and_then, IfSome, IfNone}
use Rattle.std.specs.Option.{option_or}
use Rattle.std.proofs.lemmas.Option.{same_Some, option_and_then_some, slice_get_within, get_or_from_slice_get}
use Rattle.processor.specs.declared.steps.Step.{Step}
use Rattle.schedule_makers.specs.Rules.{last_step, is_behind, is_of_later, is_after_last, next_after}
use Rattle.schedule_makers.specs.Rules.{choice_in_rounds, of_processor, fair_choice}

-- Of lists.

pub contains-first : (x : Step) (xs : List Step) → Contains (x ∷ xs) x
contains-first x xs = (zero, omega arith, refl)

pub contains-behind : (x t : Step) (xs : List Step) → Contains xs t → Contains (x ∷ xs) t
contains-behind x t xs h = (suc h.0, omega (arith, h.1), h.2)

pub contains-get : (xs : List Step) (k : ℕ) (t : Step) → slice_get xs k ≡ Some t → Contains xs t
contains-get xs k t e = (k, slice_get_within xs k t e, get_or_from_slice_get xs k t t e)

-- where the first one is taken or some of the others
first_or : (x t : Step) (xs : List Step) (b : Bool) (rest : Option Step) → (rest ≡ Some t → Contains xs t)
    → cond b (Some x) rest ≡ Some t → Contains (x ∷ xs) t
first_or x t xs true rest inner e =
    let P : Step → Type 0 = λ y. Contains (x ∷ xs) y in subst P (same_Some x t e) (contains-first x xs)
first_or x t xs false rest inner e = contains-behind x t xs (inner e)

contains-find : (p : Step → Bool) (xs : List Step) (t : Step) → find p xs ≡ Some t → Contains xs t
contains-find p [] t e = absurd (let h : ⊥ = cc in h)
contains-find p (x ∷ xs) t e = first_or x t xs (p x) (find p xs) (contains-find p xs t) e

among : (x t : Step) (xs ys : List Step) → (Contains ys t → Contains xs t) → Contains (x ∷ ys) t
    → Contains (x ∷ xs) t
among x t xs ys inner (zero, below, is) = (zero, omega arith, is)
among x t xs ys inner (suc k, below, is) = contains-behind x t xs (inner (k, omega (arith, below), is))

kept_or : (x t : Step) (xs ys : List Step) (b : Bool) → (Contains ys t → Contains xs t)
    → Contains (cond b (x ∷ ys) ys) t → Contains (x ∷ xs) t
kept_or x t xs ys true inner h = among x t xs ys inner h
kept_or x t xs ys false inner h = contains-behind x t xs (inner h)

pub contains-filter : (p : Step → Bool) (xs : List Step) (t : Step) → Contains (filter p xs) t → Contains xs t
contains-filter p [] t h = h
contains-filter p (x ∷ xs) t h = kept_or x t xs (filter p xs) (p x) (contains-filter p xs t) h

-- what passes is kept
empty_or : (x : Step) (ys : List Step) (b : Bool) → cond b (x ∷ ys) ys ≡ [] → (b ≡ false) × (ys ≡ [])
empty_or x ys true e = absurd (let h : ⊥ = cc in h)
empty_or x ys false e = (refl, e)

pub none-filtered : (p : Step → Bool) (xs : List Step) (t : Step) → p t ≡ true → Contains xs t → filter p xs ≡ [] → ⊥
none-filtered p [] t passes h e = omega (arith, h.1)
none-filtered p (x ∷ xs) t passes (zero, below, is) e =
    let here = empty_or x (filter p xs) (p x) e in
    let there : p x ≡ true = ap p is ∙ passes in
    cc (here.0, there)
none-filtered p (x ∷ xs) t passes (suc k, below, is) e =
    let here = empty_or x (filter p xs) (p x) e in
    none-filtered p xs t passes (k, omega (arith, below), is) here.1

-- The next one behind the last.

pub or_one : (t : Step) (xs : List Step) (o p : Option Step) → (o ≡ Some t → Contains xs t) → (p ≡ Some t → Contains xs t)
    → option_or o p ≡ Some t → Contains xs t
or_one t xs None p first second e = second e
or_one t xs (Some u) p first second e = first e

pub or_none : (o p : Option Step) → option_or o p ≡ None → p ≡ None
or_none None p e = e
or_none (Some u) p e = absurd (let h : ⊥ = cc in h)

behind-one : (by : Step → Step → Bool) (last : Option Step) (runs : List Step) (t : Step)
    → next_after by last runs ≡ Some t → Contains runs t
behind-one by last runs t e =
    or_one t runs (find (is_after_last by last) runs) (slice_get runs 0)
    (contains-find (is_after_last by last) runs t) (contains-get runs 0 t) e

no_first : (xs : List Step) → slice_get xs 0 ≡ None → xs ≡ []
no_first [] e = refl
no_first (x ∷ xs) e = absurd (let h : ⊥ = cc in h)

behind-any : (by : Step → Step → Bool) (last : Option Step) (runs : List Step) → next_after by last runs ≡ None
    → runs ≡ []
behind-any by last runs e = no_first runs (or_none (find (is_after_last by last) runs) (slice_get runs 0) e)

-- In rounds.

pub rounds-one : (before runs : List Step) (t : Step) → choice_in_rounds before runs ≡ Some t → Contains runs t
rounds-one before runs t e = behind-one is_behind (last_step before) runs t e

pub rounds-any : (before runs : List Step) → choice_in_rounds before runs ≡ None → runs ≡ []
rounds-any before runs e = behind-any is_behind (last_step before) runs e

-- Fair.

-- one of a processor's own streams
abbrev own : List Step → List Step → Step → Option Step
own before runs u = choice_in_rounds (of_processor u.p before) (of_processor u.p runs)

pub fair-one : (before runs : List Step) (t : Step) → fair_choice before runs ≡ Some t → Contains runs t
fair-one before runs t e =
    option_and_then_some (own before runs) (next_after is_of_later (last_step before) runs) t e
    (λ u is inner. contains-filter (λ s. s.p == u.p) runs t
    (rounds-one (of_processor u.p before) (of_processor u.p runs) t inner))

some_or_none : (o : Option Step) (f : Step → Option Step) → option_and_then f o ≡ None
    → ((u : Step) → o ≡ Some u → f u ≡ None → ⊥) → o ≡ None
some_or_none None f e contra = refl
some_or_none (Some u) f e contra = absurd (contra u refl e)

pub fair-any : (before runs : List Step) → fair_choice before runs ≡ None → runs ≡ []
fair-any before runs e =
    let next = next_after is_of_later (last_step before) runs in
    behind-any is_of_later (last_step before) runs
    (some_or_none next (own before runs) e
    (λ u is inner. none-filtered (λ s. s.p == u.p) runs u (eq-eqb u.p u.p refl)
    (behind-one is_of_later (last_step before) runs u is)
    (rounds-any (of_processor u.p before) (of_processor u.p runs) inner)))

-- What a chooser says of its answer.

pub some-taken : (r o : Option Step) (runs : List Step) → r ≡ o → ((t : Step) → o ≡ Some t → Contains runs t)
    → IfSome r (λ t. Contains runs t)
some-taken None o runs is one = tt
some-taken (Some t) o runs is one = one t (sym is)

pub none-taken : (r o : Option Step) (runs : List Step) → r ≡ o → (o ≡ None → runs ≡ []) → IfNone r (runs ≡ [])
none-taken None o runs is any = any (sym is)
none-taken (Some t) o runs is any = tt

-- The fair rule by its parts.

pub fair-none : (before runs : List Step) → next_after is_of_later (last_step before) runs ≡ None
    → None ≡ fair_choice before runs
fair-none before runs e = sym (ap (option_and_then (own before runs)) e)

pub fair-is : (before runs : List Step) (u : Step) (last r : Option Step)
    → next_after is_of_later (last_step before) runs ≡ Some u → last ≡ last_step (of_processor u.p before)
    → r ≡ next_after is_behind last (of_processor u.p runs) → r ≡ fair_choice before runs
fair-is before runs u last r first was is =
    is ∙ ap (λ o. next_after is_behind o (of_processor u.p runs)) was
    ∙ sym (ap (option_and_then (own before runs)) first)

first_kept : (b : Bool) (t : Step) (ts : List Step) (p : ℕ)
    → find (λ u. u.p == p) ts ≡ slice_get (of_processor p ts) 0
    → cond b (Some t) (find (λ u. u.p == p) ts) ≡ slice_get (cond b (t ∷ of_processor p ts) (of_processor p ts)) 0
first_kept true t ts p e = refl
first_kept false t ts p e = e

pub first-own : (p : ℕ) (runs : List Step) → find (λ t. t.p == p) runs ≡ slice_get (of_processor p runs) 0
first-own p [] = refl
first-own p (t ∷ ts) = first_kept (t.p == p) t ts p (first-own p ts)
