-- With one stream left out: which it is; and that a step is of a running stream, and that there is one wherever some
-- stream runs.
use Rattle.std.proofs.Common.{◌≡◌, ℕ, ◌+◌, ◌<◌, nat_lt, Bool, true, false, sym, ap, ◌∙◌, List, [], ◌∷◌, length, drop, get_or}
use Rattle.std.proofs.Common.{Option, Some, None, if◌then◌else◌}
use Rattle.std.specs.Prelude.{Contains}
use Rattle.std.proofs.lemmas.List.{drop_more}
use Rattle.image_file.specs.ImageValue.{ImageValue}
use Rattle.processor.specs.World.{World}
use Rattle.processor.specs.declared.steps.Step.{Step}
use Rattle.waiting.specs.Running.{running_steps}
use Rattle.schedule_makers.specs.Priorities.{is_above, highest_from}
use Rattle.schedule_makers.specs.Turns.{turn_but, turn_by_word}
use Rattle.schedule_makers.specs.LeftOut.{left_out, late_by_word}
use Rattle.schedule_makers.proofs.Rules.{or_one, or_none}
use Rattle.schedule_makers.proofs.TurnTaken.{but-one, turns-one, turns-any}

-- one more of the streams that are looked at, at its place of a list
pub largest-at : (rank : Step → ℕ) (most more all : Option Step) (steps : List Step) (k : ℕ) (t : Step)
    → k < length steps → highest_from rank most (drop k steps) ≡ all
    → more ≡ (if is_above rank most t then Some t else most) → t ≡ get_or steps k t
    → highest_from rank more (drop (k + 1) steps) ≡ all
largest-at rank most more all steps k t below is found here =
    ap (λ o. highest_from rank o (drop (k + 1) steps)) found
    ∙ ap (λ x. highest_from rank most (x ∷ drop (k + 1) steps)) here
    ∙ sym (ap (highest_from rank most) (drop_more steps k t below))
    ∙ is

then-one : (b : Bool) (o : Option Step) (t : Step) (ts : List Step) → (o ≡ Some t → Contains ts t)
    → (if b then o else None) ≡ Some t → Contains ts t
then-one true o t ts one e = one e
then-one false o t ts one e = absurd (let h : ⊥ = cc in h)

pub late-one : (seed steps word : ℕ) (before : List Step) (image : ImageValue) (w : World) (t : Step)
    → late_by_word seed steps word before image w ≡ Some t → Contains (running_steps w) t
late-one seed steps word before image w t e =
    let others = turn_but 8 word (left_out seed w) before image w in
    let late = nat_lt (length before) steps in
    or_one t (running_steps w) (if late then others else None) (turn_by_word 8 word before image w)
    (then-one late others t (running_steps w) (but-one 8 word (left_out seed w) before image w t))
    (turns-one 8 word before image w t)
    e

pub late-any : (seed steps word : ℕ) (before : List Step) (image : ImageValue) (w : World)
    → late_by_word seed steps word before image w ≡ None → running_steps w ≡ []
late-any seed steps word before image w e =
    let others = turn_but 8 word (left_out seed w) before image w in
    turns-any 8 word before image w
    (or_none (if nat_lt (length before) steps then others else None) (turn_by_word 8 word before image w) e)
