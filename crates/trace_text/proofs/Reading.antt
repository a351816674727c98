-- Reading a schedule line by line gives what its text says.
use Rattle.std.proofs.Common.{◌≡◌, ℕ, ◌+◌, ◌<◌, ◌≤◌, false, true, List, [], ◌∷◌, ◌++◌, length, refl, sym, ap, ◌∙◌}
use Rattle.std.proofs.Common.{arith}
use Rattle.std.proofs.Common.{Option, Some, None, Result, Ok, Err, ◌==◌, map, replicate, append_assoc, append-nil}
use Rattle.std.proofs.Common.{length-append}
use Rattle.std.proofs.lemmas.Bool.{eqb-true, eqb-false}
use Rattle.std.proofs.lemmas.List.{length-replicate, length-drop}
use Rattle.std.specs.List.{flat_map, before_first, after_first, position_or_len}
use Rattle.processor.specs.declared.steps.Step.{Step}
use Rattle.text_parts.specs.Lines.{is_line_end, lines_of}
use Rattle.trace_text.specs.ScheduleLines.{LineValues, values_of, steps_on, times_on, step_of}
use Rattle.trace_text.specs.ScheduleFaults.{fault_from, schedule_line_fault, on_line}
use Rattle.trace_text.specs.Schedules.{values_by_line, schedule_fault, schedule_steps, schedule_of, unless_fault}
use Rattle.trace_text.specs.LineNumbers.{run_of}
use Rattle.trace_text.specs.declared.runs.StepRun.{StepRun}
use Rattle.trace_text.specs.declared.schedule_fault.ScheduleFault.{ScheduleFault}
use Rattle.trace_text.specs.declared.schedule_fault.ScheduleFaultKind.{ScheduleFaultKind}
use Rattle.text_parts.proofs.FirstLine.{lines-first}

abbrev said : ℕ → List Step → List (Option LineValues) → Result (List Step) ScheduleFault
said line steps vs = unless_fault (fault_from line (length steps) vs) (steps ++ flat_map steps_on vs)

-- what is read with these steps read, the next line's number, and some text left
unfoldable pub read_on : ℕ → List Step → List ℕ → Result (List Step) ScheduleFault
read_on line steps rest = said line steps (values_by_line rest)

pub reading-begins : (text : List ℕ) → schedule_of text ≡ read_on 1 [] text
unfolding schedule_of schedule_fault schedule_steps read_on
reading-begins text = refl

some_left : (xs : List ℕ) → (length xs == 0) ≡ false → 0 < length xs
some_left xs some = let ne = eqb-false (length xs) 0 some in omega arith

pub after-shorter : (rest : List ℕ) → (length rest == 0) ≡ false
    → length (after_first is_line_end rest) + 1 ≤ length rest
after-shorter rest some =
    let left = some_left rest some in omega (arith, length-drop (position_or_len is_line_end rest + 1) rest)

none_left : (xs : List ℕ) → (length xs == 0) ≡ true → xs ≡ []
none_left [] none = refl
none_left (x ∷ xs) none = let zero_is : length (x ∷ xs) ≡ 0 = eqb-true _ _ none in absurd (omega arith)

next_line : (line : ℕ) (steps : List Step) (rest : List ℕ) → (length rest == 0) ≡ false
    → read_on line steps rest ≡ said line steps
    (values_of (before_first is_line_end rest) ∷ values_by_line (after_first is_line_end rest))
unfolding read_on
next_line line steps rest some =
    ap (λ ls. said line steps (map values_of ls)) (lines-first rest (some_left rest some))

said-fault : (line : ℕ) (steps : List Step) (v : Option LineValues) (vs : List (Option LineValues))
    (kind : ScheduleFaultKind)
    → schedule_line_fault (length steps) v ≡ Some kind
    → said line steps (v ∷ vs) ≡ Err (record { line = line; kind = kind })
said-fault line steps v vs kind e =
    ap (λ k. unless_fault (on_line line k (fault_from (line + 1) (length steps + times_on v) vs))
    (steps ++ flat_map steps_on (v ∷ vs))) e

said-run : (line : ℕ) (steps more : List Step) (x : LineValues) (vs : List (Option LineValues))
    → schedule_line_fault (length steps) (Some x) ≡ None → more ≡ steps ++ replicate x.times (step_of x)
    → said line steps (Some x ∷ vs) ≡ said (line + 1) more vs
said-run line steps more x vs none e =
    let count : length steps + x.times ≡ length more =
    omega (
      arith,
      ap length e,
      length-append steps (replicate x.times (step_of x)),
      length-replicate x.times (step_of x),
    ) in
    ap (λ k. unless_fault (on_line line k (fault_from (line + 1) (length steps + x.times) vs))
    (steps ++ (replicate x.times (step_of x) ++ flat_map steps_on vs))) none
    ∙ ap (λ n. unless_fault (fault_from (line + 1) n vs)
    (steps ++ (replicate x.times (step_of x) ++ flat_map steps_on vs))) count
    ∙ ap (unless_fault (fault_from (line + 1) (length more) vs))
    (sym (append_assoc steps (replicate x.times (step_of x)) (flat_map steps_on vs))
    ∙ ap (λ s. s ++ flat_map steps_on vs) (sym e))

-- a line with a fault
pub at_fault : (line : ℕ) (steps : List Step) (rest : List ℕ) (kind : ScheduleFaultKind) → (length rest == 0) ≡ false
    → schedule_line_fault (length steps) (values_of (before_first is_line_end rest)) ≡ Some kind
    → read_on line steps rest ≡ Err (record { line = line; kind = kind })
at_fault line steps rest kind some e =
    next_line line steps rest some
    ∙ said-fault line steps (values_of (before_first is_line_end rest))
    (values_by_line (after_first is_line_end rest)) kind e

-- a line with a run
pub at_run : (line : ℕ) (steps more : List Step) (rest : List ℕ) (run : StepRun) (x : LineValues)
    → (length rest == 0) ≡ false
    → schedule_line_fault (length steps) (values_of (before_first is_line_end rest)) ≡ None
    → values_of (before_first is_line_end rest) ≡ Some x → run_of x ≡ run
    → more ≡ steps ++ replicate run.times run.step
    → read_on line steps rest ≡ read_on (line + 1) more (after_first is_line_end rest)
unfolding read_on
at_run line steps more rest run x some none is same e =
    let vs = values_by_line (after_first is_line_end rest) in
    next_line line steps rest some ∙ ap (λ v. said line steps (v ∷ vs)) is
    ∙ said-run line steps more x vs (ap (schedule_line_fault (length steps)) (sym is) ∙ none)
    (e ∙ ap (λ r. steps ++ replicate r.times r.step) (sym same))

-- no line left
pub at_end : (line : ℕ) (steps : List Step) (rest : List ℕ) → (length rest == 0) ≡ true
    → read_on line steps rest ≡ Ok steps
unfolding read_on lines_of
at_end line steps rest none = ap (λ text. said line steps (values_by_line text)) (none_left rest none)
    ∙ ap Ok (append-nil steps)
