-- A written schedule is read as the same steps.
use Rattle.std.proofs.Common.{◌≡◌, ℕ, ◌+◌, ◌/◌, ◌%◌, ◌^◌, ◌<◌, ◌≤◌, true, List, [], ◌∷◌, ◌++◌, length, refl, sym, ap}
use Rattle.std.proofs.Common.{◌∙◌, arith}
use Rattle.std.proofs.Common.{Some, None, Ok, ne_eqb, append-nil, map, le-leb, ⊎_elim}
use Rattle.std.proofs.lemmas.Bool.{cases_lt}
use Rattle.std.proofs.lemmas.List.{length-append, length-replicate}
use Rattle.std.specs.List.{flat_map}
use Rattle.text_parts.specs.Laws.{DecimalReadsBack}
use Rattle.text_parts.specs.Lines.{lines_of}
use Rattle.trace_text.specs.ScheduleLines.{is_within, values_of, steps_on}
use Rattle.trace_text.specs.ScheduleFaults.{schedule_line_fault, on_line, fault_from}
use Rattle.trace_text.specs.Schedules.{values_by_line, schedule_fault, schedule_steps, schedule_of, unless_fault}
use Rattle.text_parts.specs.Runs.{Run, run_things}
use Rattle.processor.specs.declared.steps.Step.{Step}
use Rattle.trace_text.specs.Runs.{run_parts, schedule_line, schedule_run_text, step_runs, schedule_text}
use Rattle.trace_text.specs.Laws.{ScheduleReadsBack}
use Rattle.trace_text.proofs.RunsRead.{IsRun, EachRun, expanded-runs, each-run}
use Rattle.trace_text.proofs.LinesRead.{said_by, values-body, lines-run}

-- a run of at most 1,000,000 steps is one line

parts-small : (r : Run Step) → 1 ≤ r.times → r.times < 1000000 → run_parts r ≡ r ∷ []
parts-small r some few =
    let none : r.times / 1000000 ≡ 0 = omega arith in
    let all : r.times % 1000000 ≡ r.times = omega arith in
    let not_none = ne_eqb r.times 0 (λ e. omega arith) in
    rw (none, all, not_none) refl

parts-full : (r : Run Step) → r.times ≡ 1000000 → run_parts r ≡ r ∷ []
parts-full r full =
    let one : r.times / 1000000 ≡ 1 = omega arith in
    let none : r.times % 1000000 ≡ 0 = omega arith in
    rw (one, none) (ap (λ n. record { thing = r.thing; times = n } ∷ []) (sym full))

text-line : (r : Run Step) → 1 ≤ r.times → r.times ≤ 1000000 → schedule_run_text r ≡ schedule_line r
unfolding schedule_run_text
text-line r some few =
    ap (flat_map schedule_line) (⊎_elim (λ h. parts-small r some h) (λ h. parts-full r (omega arith))
    (cases_lt r.times 1000000))
    ∙ append-nil (schedule_line r)

length-run_things : (r : Run Step) (rs : List (Run Step)) → length (flat_map run_things (r ∷ rs))
    ≡ r.times + length (flat_map run_things rs)
length-run_things r rs = omega (
  arith,
  length-append (run_things r) (flat_map run_things rs),
  length-replicate r.times r.thing,
)

-- what the lines of runs say, one after another

values-written : DecimalReadsBack → (rs : List (Run Step)) → EachRun rs → length (flat_map run_things rs) ≤ 1000000
    → values_by_line (flat_map schedule_run_text rs) ≡ map (λ r. Some (said_by r)) rs
unfolding lines_of
values-written back [] each few = refl
values-written back (r ∷ rs) each few =
    let one = each.0 in
    let count = length-run_things r rs in
    let p : r.thing.p < 2 ^ 64 = omega (arith, one.step.0) in
    let s : r.thing.s < 2 ^ 64 = omega (arith, one.step.1) in
    let n : r.times < 2 ^ 64 = omega (arith, count) in
    let line : schedule_run_text r ≡ schedule_line r = text-line r one.some (omega (arith, count)) in
    ap (λ xs. values_by_line (xs ++ flat_map schedule_run_text rs)) line
    ∙ ap (map values_of) (lines-run r (flat_map schedule_run_text rs) p s n)
    ∙ ap (λ o. o ∷ values_by_line (flat_map schedule_run_text rs)) (values-body back r p s n)
    ∙ ap (λ os. Some (said_by r) ∷ os) (values-written back rs each.1 (omega (arith, count)))

within : (r : Run Step) → IsRun r → r.times ≤ 1000000 → is_within (said_by r) ≡ true
within r one few =
    let p = le-leb r.thing.p 255 one.step.0 in
    let s = le-leb r.thing.s 255 one.step.1 in
    let some = le-leb 1 r.times one.some in
    let most = le-leb r.times 1000000 few in
    rw (p, s, some, most) refl

no_line_fault : (before : ℕ) (r : Run Step) → IsRun r → before + r.times ≤ 1000000
    → schedule_line_fault before (Some (said_by r)) ≡ None
no_line_fault before r one few =
    let room = le-leb (before + r.times) 1000000 few in rw (within r one (omega arith), room) refl

no_fault : (line before : ℕ) (rs : List (Run Step)) → EachRun rs → before + length (flat_map run_things rs) ≤ 1000000
    → fault_from line before (map (λ r. Some (said_by r)) rs) ≡ None
no_fault line before [] each few = refl
no_fault line before (r ∷ rs) each few =
    let count = length-run_things r rs in
    ap (λ k. on_line line k (fault_from (line + 1) (before + r.times) (map (λ r. Some (said_by r)) rs)))
    (no_line_fault before r each.0 (omega (arith, count)))
    ∙ no_fault (line + 1) (before + r.times) rs each.1 (omega (arith, count))

steps-said : (rs : List (Run Step)) → flat_map steps_on (map (λ r. Some (said_by r)) rs) ≡ flat_map run_things rs
steps-said [] = refl
steps-said (r ∷ rs) = ap (λ ts. run_things r ++ ts) (steps-said rs)

pub reads_back : DecimalReadsBack → ScheduleReadsBack
unfolding schedule_of schedule_fault schedule_steps schedule_text
reads_back back steps all few =
    let rs = step_runs steps in
    let whole : flat_map run_things rs ≡ steps = expanded-runs steps in
    let count : length (flat_map run_things rs) ≤ 1000000 = omega (arith, ap length whole) in
    let values = values-written back rs (each-run steps all) count in
    ap (λ vs. unless_fault (fault_from 1 0 vs) (flat_map steps_on vs)) values
    ∙ ap (λ f. unless_fault f (flat_map steps_on (map (λ r. Some (said_by r)) rs)))
    (no_fault 1 0 rs (each-run steps all) (omega (arith, count)))
    ∙ ap Ok (steps-said rs ∙ whole)
