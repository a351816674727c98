-- By turns, with one stream left out and by priorities a free stream steps wherever there is one.
use Rattle.std.proofs.Common.{◌≡◌, ℕ, zero, suc, ◌<◌, ◌%◌, ◌^◌, ◌==◌, ◌||◌, nat_lt, Bool, true, false, not, refl, sym, ap, ◌∙◌, subst}
use Rattle.std.proofs.Common.{arith, cond, List, [], ◌∷◌, length, Option, Some, None, if◌then◌else◌}
use Rattle.std.specs.Prelude.{Contains, filter}
use Rattle.std.specs.Option.{option_or}
use Rattle.std.proofs.lemmas.Bool.{eqb-true}
use Rattle.image_file.specs.ImageValue.{ImageValue}
use Rattle.processor.specs.World.{World}
use Rattle.processor.specs.declared.steps.Step.{Step}
use Rattle.waiting.specs.Running.{running_steps}
use Rattle.schedule_makers.specs.Rules.{Rule, last_step, is_of_stream, next_in_rounds}
use Rattle.schedule_makers.specs.Randomness.{random_word, step_by_word, next_at_random}
use Rattle.schedule_makers.specs.Free.{is_free, free_steps, is_free_but, free_but}
use Rattle.schedule_makers.specs.Turns.{same_turn, turn_but, turn_by_word, next_in_turns}
use Rattle.schedule_makers.specs.Priorities.{priority, is_above, highest_from, highest, highest_free, priority_steps}
use Rattle.schedule_makers.specs.Priorities.{next_by_priority}
use Rattle.schedule_makers.specs.LeftOut.{left_out, delay, next_but_one_late}
use Rattle.schedule_makers.specs.Seeds.{rule_of_seed}
use Rattle.schedule_makers.specs.Laws.{TakesFree}
use Rattle.schedule_makers.proofs.Rules.{none-filtered, or_none}
use Rattle.schedule_makers.proofs.Randomness.{by-word-one, by-word-any, word-small}
use Rattle.schedule_makers.proofs.TurnTaken.{both_last, free-runs, same-turn-free}
use Rattle.schedule_makers.proofs.HighestFree.{highest-one}

-- Of lists.

kept-passes : (p : Step → Bool) (x t : Step) (ys : List Step) (b : Bool) → p x ≡ b → (Contains ys t → p t ≡ true)
    → Contains (cond b (x ∷ ys) ys) t → p t ≡ true
kept-passes p x t ys true is inner (zero, below, e) = ap p (sym e) ∙ is
kept-passes p x t ys true is inner (suc k, below, e) = inner (k, omega (arith, below), e)
kept-passes p x t ys false is inner h = inner h

filter-passes : (p : Step → Bool) (xs : List Step) (t : Step) → Contains (filter p xs) t → p t ≡ true
filter-passes p [] t h = absurd (omega (arith, h.1))
filter-passes p (x ∷ xs) t h = kept-passes p x t (filter p xs) (p x) refl (filter-passes p xs t) h

-- where the first is missing the second is taken
either_or : (Q : Type 0) (t : Step) (o p : Option Step) → (o ≡ Some t → Q) → (o ≡ None → p ≡ Some t → Q)
    → option_or o p ≡ Some t → Q
either_or Q t None p first second e = second refl e
either_or Q t (Some u) p first second e = first e

-- the list of the free streams is not empty
none-free : (image : ImageValue) (w : World) (u : Step) → is_free image w u ≡ true → free_steps image w ≡ [] → ⊥
none-free image w u free e = none-filtered (is_free image w) (running_steps w) u free (free-runs image w u free) e

-- In turns.

-- what is taken of those that are not left out
but-free : (n word : ℕ) (out : Option Step) (before : List Step) (image : ImageValue) (w : World) (t : Step)
    → turn_but n word out before image w ≡ Some t → is_free image w t ≡ true
but-free n word out before image w t e =
    either_or (is_free image w t ≡ true) t (same_turn n word out image w (last_step before))
    (step_by_word word (free_but out image w))
    (same-turn-free n word out image w (last_step before) t)
    (λ ended taken. both_last (not (is_of_stream out t)) (is_free image w t)
    (filter-passes (is_free_but out image w) (running_steps w) t (by-word-one word (free_but out image w) t taken)))
    e

-- where none is taken of all, none is free
none-taken : (n word : ℕ) (before : List Step) (image : ImageValue) (w : World) (u : Step) → word < 2 ^ 64
    → is_free image w u ≡ true → turn_but n word None before image w ≡ None → ⊥
none-taken n word before image w u small free e =
    none-free image w u free (by-word-any word (free_steps image w) small
    (or_none (same_turn n word None image w (last_step before)) (step_by_word word (free_steps image w)) e))

turn-free : (n word : ℕ) (before : List Step) (image : ImageValue) (w : World) (t u : Step) → word < 2 ^ 64
    → turn_by_word n word before image w ≡ Some t → is_free image w u ≡ true → is_free image w t ≡ true
turn-free n word before image w t u small e free =
    either_or (is_free image w t ≡ true) t (turn_but n word None before image w) (next_in_rounds before image w)
    (but-free n word None before image w t)
    (λ none taken. absurd (none-taken n word before image w u small free none))
    e

turns-take-free : (n seed : ℕ) → TakesFree (next_in_turns n seed)
turns-take-free n seed before image w t u e free =
    turn-free n (random_word seed (length before)) before image w t u (word-small seed (length before)) e free

-- By priorities.

some_if : (b : Bool) (x y : Step) → (z : Step) × ((if b then Some x else Some y) ≡ Some z)
some_if true x y = (x, refl)
some_if false x y = (y, refl)

from-some : (rank : Step → ℕ) (best : Step) (ts : List Step) → highest_from rank (Some best) ts ≡ None → ⊥
from-some rank best [] e = let h : ⊥ = cc in h
from-some rank best (t ∷ ts) e =
    let next = some_if (is_above rank (Some best) t) t best in
    from-some rank next.0 ts (subst (λ o. highest_from rank o ts ≡ None) next.1 e)

highest-any : (rank : Step → ℕ) (ts : List Step) → highest rank ts ≡ None → ts ≡ []
highest-any rank [] e = refl
highest-any rank (t ∷ ts) e = absurd (from-some rank t ts e)

highest-free : (seed fair_steps : ℕ) → TakesFree (highest_free seed fair_steps)
highest-free seed fair_steps before image w t u e free =
    let Q : Type 0 = is_free image w t ≡ true in
    let rank = priority seed fair_steps before in
    either_or Q t (highest rank (free_steps image w)) (next_in_rounds before image w)
    (λ taken. filter-passes (is_free image w) (running_steps w) t (highest-one rank (free_steps image w) t taken))
    (λ none taken. absurd (none-free image w u free (highest-any rank (free_steps image w) none)))
    e

either_if : (Q : Type 0) (b : Bool) (x y : Option Step) (t : Step) → (x ≡ Some t → Q) → (y ≡ Some t → Q)
    → (if b then x else y) ≡ Some t → Q
either_if Q true x y t first second e = first e
either_if Q false x y t first second e = second e

priorities-take-free : (seed fair_steps : ℕ) → TakesFree (next_by_priority seed fair_steps)
priorities-take-free seed fair_steps before image w t u e free =
    let word = random_word seed (length before) in
    either_if (is_free image w t ≡ true) (nat_lt (length before) (priority_steps fair_steps))
    (highest_free seed fair_steps before image w) (turn_by_word 8 word before image w) t
    (λ taken. highest-free seed fair_steps before image w t u taken free)
    (λ taken. turn-free 8 word before image w t u (word-small seed (length before)) taken free)
    e

-- With one stream left out.

some_then : (Q : Type 0) (b : Bool) (o : Option Step) (t : Step) → (o ≡ Some t → Q) → (if b then o else None) ≡ Some t → Q
some_then Q true o t taken e = taken e
some_then Q false o t taken e = absurd (let h : ⊥ = cc in h)

late-takes-free : (seed fair_steps : ℕ) → TakesFree (next_but_one_late seed fair_steps)
late-takes-free seed fair_steps before image w t u e free =
    let Q : Type 0 = is_free image w t ≡ true in
    let word = random_word seed (length before) in
    let others = turn_but 8 word (left_out seed w) before image w in
    let late = nat_lt (length before) (delay seed fair_steps) in
    either_or Q t (if late then others else None) (turn_by_word 8 word before image w)
    (some_then Q late others t (but-free 8 word (left_out seed w) before image w t))
    (λ none taken. turn-free 8 word before image w t u (word-small seed (length before)) taken free)
    e

-- By the rule of a seed.

one-of-five : (a b c d : Bool) (uniform late short long last : Rule) → (a ≡ true → ⊥) → TakesFree late
    → TakesFree short → TakesFree long → TakesFree last
    → TakesFree (if a then uniform else if b then late else if c then short else if d then long else last)
one-of-five true b c d uniform late short long last other v x y z = absurd (other refl)
one-of-five false true c d uniform late short long last other v x y z = v
one-of-five false false true d uniform late short long last other v x y z = x
one-of-five false false false true uniform late short long last other v x y z = y
one-of-five false false false false uniform late short long last other v x y z = z

pub seeds-take-free : (seed fair_steps : ℕ) → ¬ (seed % 8 ≡ 0) → TakesFree (rule_of_seed seed fair_steps)
seeds-take-free seed fair_steps other =
    one-of-five (seed % 8 == 0) (seed % 8 == 4) ((seed % 8 == 1) || (seed % 8 == 5))
    ((seed % 8 == 2) || (seed % 8 == 6)) (next_at_random seed) (next_but_one_late seed fair_steps)
    (next_in_turns 8 seed) (next_in_turns 32 seed) (next_by_priority seed fair_steps)
    (λ e. other (eqb-true (seed % 8) 0 e)) (late-takes-free seed fair_steps) (turns-take-free 8 seed)
    (turns-take-free 32 seed) (priorities-take-free seed fair_steps)
