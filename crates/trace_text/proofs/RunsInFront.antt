-- The runs of steps, one after another.
use Rattle.std.proofs.Common.{◌≡◌, ℕ, ◌<◌, Bool, true, false, List, [], ◌∷◌, ◌++◌, length, refl, sym, ap, ◌∙◌}
use Rattle.std.proofs.Common.{Some, None, ◌==◌, ◌&&◌, drop, append_assoc, append-nil}
use Rattle.std.proofs.lemmas.Bool.{eqb-true, eq-eqb}
use Rattle.std.specs.List.{flat_map, slice_get}
use Rattle.text_parts.specs.Runs.{Run, runs_of, run_length}
use Rattle.text_parts.proofs.RunLaws.{IsEquality, first_run, some_first}
use Rattle.processor.specs.declared.steps.Step.{Step}
use Rattle.trace_text.specs.Runs.{same_step, schedule_run_text, schedule_text}

first-true : (a b : Bool) → (a && b) ≡ true → a ≡ true
first-true true b e = refl
first-true false b e = e

last-true : (a b : Bool) → (a && b) ≡ true → b ≡ true
last-true true b e = e
last-true false b e = cc

step-same : (t u : Step) → same_step t u ≡ true → t ≡ u
step-same t u e =
    let p : t.p ≡ u.p = eqb-true t.p u.p (first-true (t.p == u.p) (t.s == u.s) e) in
    let s : t.s ≡ u.s = eqb-true t.s u.s (last-true (t.p == u.p) (t.s == u.s) e) in
    λ i. record { p = p i; s = s i }

same-step : (t : Step) → same_step t t ≡ true
same-step t = rw (eq-eqb t.p t.p refl, eq-eqb t.s t.s refl) refl

pub steps_equal : IsEquality Step same_step
steps_equal = record { is = step-same; self = same-step }

abbrev run : Step → ℕ → Run Step
run t n = record { thing = t; times = n }

-- how many steps in front are this one
abbrev pub step_run_length : Step → List Step → ℕ
step_run_length t ts = run_length same_step t ts

pub written-front : (t : Step) (rest : List Step) → slice_get rest 0 ≡ Some t
    → schedule_text rest ≡ schedule_run_text (run t (step_run_length t rest))
    ++ schedule_text (drop (step_run_length t rest) rest)
unfolding schedule_text
written-front t rest e = ap (flat_map schedule_run_text) (first_run same_step steps_equal t rest e)

pub some-front : (t : Step) (rest : List Step) → slice_get rest 0 ≡ Some t
    → (0 < step_run_length t rest) × (0 < length rest)
some-front t rest e = some_first same_step steps_equal t rest e

-- one more run in the text is one less to come
pub run_written : (t : Step) (rest : List Step) (text new all : List ℕ) → slice_get rest 0 ≡ Some t
    → new ≡ text ++ schedule_run_text (run t (step_run_length t rest)) → text ++ schedule_text rest ≡ all
    → new ++ schedule_text (drop (step_run_length t rest) rest) ≡ all
run_written t rest text new all first e whole =
    let after = schedule_text (drop (step_run_length t rest) rest) in
    ap (λ xs. xs ++ after) e ∙ append_assoc text (schedule_run_text (run t (step_run_length t rest))) after
    ∙ ap (λ xs. text ++ xs) (sym (written-front t rest first)) ∙ whole

pub all_written : (rest : List Step) (text all : List ℕ) → slice_get rest 0 ≡ None → text ++ schedule_text rest ≡ all
    → text ≡ all
unfolding schedule_text runs_of
all_written [] text all none whole = sym (append-nil text) ∙ whole
all_written (t ∷ ts) text all none whole = cc
