-- A turn is taken by one of the running streams, and by one wherever there is one.
use Rattle.std.proofs.Common.{◌≡◌, ℕ, ◌%◌, ◌==◌, ◌&&◌, Bool, true, false, not, refl, subst, List, []}
use Rattle.std.proofs.Common.{Option, Some, None, if◌then◌else◌}
use Rattle.std.specs.Prelude.{Contains}
use Rattle.std.specs.Option.{option_or}
use Rattle.std.proofs.lemmas.Option.{same_Some}
use Rattle.image_file.specs.ImageValue.{ImageValue}
use Rattle.processor.specs.World.{World}
use Rattle.processor.specs.declared.steps.Step.{Step}
use Rattle.waiting.specs.Running.{runs_in, running_steps}
use Rattle.waiting.proofs.Lists.{all_running}
use Rattle.schedule_makers.specs.Rules.{last_step, is_of_stream, next_in_rounds}
use Rattle.schedule_makers.specs.Randomness.{step_by_word}
use Rattle.schedule_makers.specs.Free.{is_free, is_free_but, free_but}
use Rattle.schedule_makers.specs.Turns.{same_turn, turn_but, turn_by_word}
use Rattle.schedule_makers.proofs.Rules.{rounds-one, rounds-any, contains-filter, or_one, or_none}
use Rattle.schedule_makers.proofs.Randomness.{by-word-one}

-- of two facts the first
both_first : (a b : Bool) → (a && b) ≡ true → a ≡ true
both_first true b e = refl
both_first false b e = absurd (let h : ⊥ = cc in h)

pub both_last : (a b : Bool) → (a && b) ≡ true → b ≡ true
both_last true b e = e
both_last false b e = absurd (let h : ⊥ = cc in h)

-- a free stream runs
pub free-runs : (image : ImageValue) (w : World) (t : Step) → is_free image w t ≡ true → Contains (running_steps w) t
free-runs image w t e = (all_running w t).1 (both_first (runs_in w t) _ e)

kept_if : (b : Bool) (u t : Step) → (if b then Some u else None) ≡ Some t → (b ≡ true) × (u ≡ t)
kept_if true u t e = (refl, same_Some u t e)
kept_if false u t e = absurd (let h : ⊥ = cc in h)

-- the stream whose turn goes on is free
pub same-turn-free : (n word : ℕ) (out : Option Step) (image : ImageValue) (w : World) (last : Option Step) (t : Step)
    → same_turn n word out image w last ≡ Some t → is_free image w t ≡ true
same-turn-free n word out image w None t e = absurd (let h : ⊥ = cc in h)
same-turn-free n word out image w (Some u) t e =
    let kept = kept_if (not (word % n == 0) && is_free_but out image w u) u t e in
    let free = both_last (not (word % n == 0)) (is_free_but out image w u) kept.0 in
    subst (λ s. is_free image w s ≡ true) kept.1 (both_last (not (is_of_stream out u)) (is_free image w u) free)

-- what is taken of those that are not left out

pub but-one : (n word : ℕ) (out : Option Step) (before : List Step) (image : ImageValue) (w : World) (t : Step)
    → turn_but n word out before image w ≡ Some t → Contains (running_steps w) t
but-one n word out before image w t e =
    or_one t (running_steps w) (same_turn n word out image w (last_step before))
    (step_by_word word (free_but out image w))
    (λ same. free-runs image w t (same-turn-free n word out image w (last_step before) t same))
    (λ free. contains-filter (is_free_but out image w) (running_steps w) t
    (by-word-one word (free_but out image w) t free))
    e

pub turns-one : (n word : ℕ) (before : List Step) (image : ImageValue) (w : World) (t : Step)
    → turn_by_word n word before image w ≡ Some t → Contains (running_steps w) t
turns-one n word before image w t e =
    or_one t (running_steps w) (turn_but n word None before image w) (next_in_rounds before image w)
    (but-one n word None before image w t) (rounds-one before (running_steps w) t) e

pub turns-any : (n word : ℕ) (before : List Step) (image : ImageValue) (w : World)
    → turn_by_word n word before image w ≡ None → running_steps w ≡ []
turns-any n word before image w e =
    rounds-any before (running_steps w)
    (or_none (turn_but n word None before image w) (next_in_rounds before image w) e)
