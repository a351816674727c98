-- The lines of a history, and the texts of a run on threads.
use Rattle.std.proofs.Common.{◌≡◌, ℕ, suc, ◌+◌, ◌<◌, ◌≤◌, sym, ap, ◌∙◌, add-one, List, ◌∷◌, ◌++◌, length, drop}
use Rattle.std.proofs.Common.{get_or, append_assoc, append-nil}
use Rattle.std.proofs.Math.Seq.{drop-cons}
use Rattle.std.proofs.Math.ListN.{drop_of_length-le}
use Rattle.image_file.specs.ImageValue.{ImageValue}
use Rattle.processor.specs.World.{run, history_of}
use Rattle.processor.specs.declared.steps.Entry.{Entry}
use Rattle.shared_history.specs.Schedule.{WovenValue}
use Rattle.trace_text.specs.HistoryLines.{history_line_of}
use Rattle.trace_text.specs.WorldTexts.{world_text_of}
use Rattle.mta_engines.specs.ThreadsOutput.{history_text, threads_output}

-- The text so far and the lines to come are the whole history.

pub history_step : (e : Entry) (es : List Entry) (i : ℕ) (text more all : List ℕ) → i < length es → e ≡ get_or es i e
    → more ≡ text ++ history_line_of (i + 1) e → text ++ history_text (i + 1) (drop i es) ≡ all
    → more ++ history_text (i + 1 + 1) (drop (i + 1) es) ≡ all
history_step e es i text more all below read line whole =
    let later : List Entry = drop (suc i) es in
    let rest : drop (i + 1) es ≡ later = ap (λ k. drop k es) (add-one i) in
    let front : e ∷ later ≡ drop i es = ap (λ x. x ∷ later) read ∙ sym (drop-cons es i e below) in
    let behind : List ℕ = history_text (i + 1 + 1) later in
    ap (λ x. more ++ history_text (i + 1 + 1) x) rest
    ∙ ap (λ x. x ++ behind) line
    ∙ append_assoc text (history_line_of (i + 1) e) behind
    ∙ ap (λ x. text ++ history_text (i + 1) x) front
    ∙ whole

pub history_end : (n i : ℕ) (es : List Entry) (text all : List ℕ) → length es ≤ i
    → text ++ history_text n (drop i es) ≡ all → text ≡ all
history_end n i es text all past whole =
    sym (append-nil text) ∙ ap (λ x. text ++ history_text n x) (sym (drop_of_length-le es past)) ∙ whole

-- The history's text and the machine's are the run's.
pub report_is : (image : ImageValue) (w : WovenValue) (history : List Entry) (world report : List ℕ)
    → w.shared.image ≡ image → history ≡ history_of w.shared.image w.schedule
    → world ≡ world_text_of image (run w.shared.image w.schedule)
    → report ≡ history_text 1 history ++ world → report ≡ threads_output image w.schedule
unfolding threads_output
report_is image w history world report same made told whole =
    let lines = made ∙ ap (λ x. history_of x w.schedule) same in
    let end = told ∙ ap (λ x. world_text_of image (run x w.schedule)) same in
    whole ∙ (λ i. history_text 1 (lines i) ++ end i)
