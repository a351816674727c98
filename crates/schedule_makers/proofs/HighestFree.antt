-- The free stream of the highest priority.
use Rattle.std.proofs.Common.{◌≡◌, ℕ, ◌+◌, ◌<◌, ◌&&◌, nat_lt, Bool, true, false, refl, sym, ap, ◌∙◌, subst, cond}
use Rattle.std.proofs.Common.{List, [], ◌∷◌, length, Option, Some, None, if◌then◌else◌, inl, inr, drop, get_or}
use Rattle.std.specs.Prelude.{Contains, filter, ◌⊎◌}
use Rattle.std.proofs.lemmas.List.{drop_more}
use Rattle.std.proofs.lemmas.Option.{same_Some}
use Rattle.image_file.specs.ImageValue.{ImageValue}
use Rattle.processor.specs.World.{World}
use Rattle.processor.specs.declared.steps.Step.{Step}
use Rattle.waiting.specs.Running.{running_steps}
use Rattle.schedule_makers.specs.Rules.{next_in_rounds}
use Rattle.schedule_makers.specs.Free.{is_free, free_steps}
use Rattle.schedule_makers.specs.Turns.{turn_by_word}
use Rattle.schedule_makers.specs.Priorities.{priority, is_above, highest_from, highest, highest_free, priority_steps}
use Rattle.schedule_makers.specs.Priorities.{priority_by_word}
use Rattle.schedule_makers.specs.Changes.{rank_of, IsRanked, is_above_best, step_of, better}
use Rattle.schedule_makers.specs.declared.highest.Ranks.{Ranks}
use Rattle.schedule_makers.specs.declared.highest.Ranked.{Ranked}
use Rattle.schedule_makers.proofs.Rules.{rounds-one, rounds-any, contains-filter, contains-first, contains-behind}
use Rattle.schedule_makers.proofs.Rules.{or_one, or_none}
use Rattle.schedule_makers.proofs.TurnTaken.{turns-one, turns-any}

-- one more of the steps that are looked at, by what was found of it
looked-at : (rank : Step → ℕ) (best : Option Step) (t : Step) (free : List Step) (above passes taken : Bool)
    → is_above rank best t ≡ above → taken ≡ (above && passes)
    → highest_from rank best (cond passes (t ∷ free) free) ≡ highest_from rank (if taken then Some t else best) free
looked-at rank best t free true true true is found =
    ap (λ b. highest_from rank (if b then Some t else best) free) is
looked-at rank best t free false true false is found =
    ap (λ b. highest_from rank (if b then Some t else best) free) is
looked-at rank best t free true false false is found = refl
looked-at rank best t free false false false is found = refl
looked-at rank best t free true true false is found = absurd (let h : ⊥ = cc in h)
looked-at rank best t free false true true is found = absurd (let h : ⊥ = cc in h)
looked-at rank best t free true false true is found = absurd (let h : ⊥ = cc in h)
looked-at rank best t free false false true is found = absurd (let h : ⊥ = cc in h)

highest-more : (rank : Step → ℕ) (free : Step → Bool) (best : Option Step) (t : Step) (rest : List Step)
    → highest_from rank best (filter free (t ∷ rest)) ≡ highest_from rank (better rank free best t) (filter free rest)
highest-more rank free best t rest =
    looked-at rank best t (filter free rest) (is_above rank best t) (free t) (is_above rank best t && free t) refl refl

-- the same at a place of a list
pub highest-at : (rank : Step → ℕ) (free : Step → Bool) (best more all : Option Step) (steps : List Step) (k : ℕ)
    (t : Step) → k < length steps → highest_from rank best (filter free (drop k steps)) ≡ all
    → more ≡ better rank free best t → t ≡ get_or steps k t
    → highest_from rank more (filter free (drop (k + 1) steps)) ≡ all
highest-at rank free best more all steps k t below is found here =
    ap (λ b. highest_from rank b (filter free (drop (k + 1) steps))) found
    ∙ sym (highest-more rank free best t (drop (k + 1) steps))
    ∙ ap (λ x. highest_from rank best (filter free (x ∷ drop (k + 1) steps))) here
    ∙ sym (ap (λ l. highest_from rank best (filter free l)) (drop_more steps k t below))
    ∙ is

-- what is compared with the best so far
pub above_best : (ranks : Ranks) (best : Option Ranked) (t : Step) → IsRanked ranks best
    → is_above_best best (rank_of ranks t) ≡ is_above (rank_of ranks) (step_of best) t
above_best ranks None t known = refl
above_best ranks (Some b) t known = ap (λ n. nat_lt n (rank_of ranks t)) known

-- The highest is one of them.

abbrev IsAmong : Option Step → List Step → Step → Type 0
IsAmong best ts t = (best ≡ Some t) ⊎ Contains ts t

best_or : (b : Bool) (best : Option Step) (u t : Step) (ts : List Step) → IsAmong (if b then Some u else best) ts t
    → IsAmong best (u ∷ ts) t
best_or true best u t ts (inl e) = inr (subst (λ x. Contains (u ∷ ts) x) (same_Some u t e) (contains-first u ts))
best_or false best u t ts (inl e) = inl e
best_or true best u t ts (inr h) = inr (contains-behind u t ts h)
best_or false best u t ts (inr h) = inr (contains-behind u t ts h)

from-one : (rank : Step → ℕ) (best : Option Step) (ts : List Step) (t : Step) → highest_from rank best ts ≡ Some t
    → IsAmong best ts t
from-one rank best [] t e = inl e
from-one rank best (u ∷ ts) t e =
    best_or (is_above rank best u) best u t ts
    (from-one rank (if is_above rank best u then Some u else best) ts t e)

none_among : (ts : List Step) (t : Step) → IsAmong None ts t → Contains ts t
none_among ts t (inl e) = absurd (let h : ⊥ = cc in h)
none_among ts t (inr h) = h

pub highest-one : (rank : Step → ℕ) (ts : List Step) (t : Step) → highest rank ts ≡ Some t → Contains ts t
highest-one rank ts t e = none_among ts t (from-one rank None ts t e)

-- The rule.

either-one : (b : Bool) (x y : Option Step) (t : Step) (ts : List Step) → (x ≡ Some t → Contains ts t)
    → (y ≡ Some t → Contains ts t) → (if b then x else y) ≡ Some t → Contains ts t
either-one true x y t ts first second e = first e
either-one false x y t ts first second e = second e

either-any : (b : Bool) (x y : Option Step) (ts : List Step) → (x ≡ None → ts ≡ []) → (y ≡ None → ts ≡ [])
    → (if b then x else y) ≡ None → ts ≡ []
either-any true x y ts first second e = first e
either-any false x y ts first second e = second e

pub priorities-one : (seed fair_steps word : ℕ) (before : List Step) (image : ImageValue) (w : World) (t : Step)
    → priority_by_word seed fair_steps word before image w ≡ Some t → Contains (running_steps w) t
priorities-one seed fair_steps word before image w t e =
    let rank = priority seed fair_steps before in
    either-one (nat_lt (length before) (priority_steps fair_steps)) (highest_free seed fair_steps before image w)
    (turn_by_word 8 word before image w) t (running_steps w)
    (or_one t (running_steps w) (highest rank (free_steps image w)) (next_in_rounds before image w)
    (λ free. contains-filter (is_free image w) (running_steps w) t (highest-one rank (free_steps image w) t free))
    (rounds-one before (running_steps w) t))
    (turns-one 8 word before image w t)
    e

pub priorities-any : (seed fair_steps word : ℕ) (before : List Step) (image : ImageValue) (w : World)
    → priority_by_word seed fair_steps word before image w ≡ None → running_steps w ≡ []
priorities-any seed fair_steps word before image w e =
    either-any (nat_lt (length before) (priority_steps fair_steps)) (highest_free seed fair_steps before image w)
    (turn_by_word 8 word before image w) (running_steps w)
    (λ none. rounds-any before (running_steps w)
    (or_none (highest (priority seed fair_steps before) (free_steps image w)) (next_in_rounds before image w) none))
    (turns-any 8 word before image w)
    e
