-- The trace of a machine's steps, line by line.
use Rattle.std.proofs.Common.{◌≡◌, ℕ, zero, suc, ◌+◌, ◌<◌, ◌≤◌, refl, sym, ap, ◌∙◌, arith, add-one}
use Rattle.std.proofs.Common.{List, [], ◌∷◌, ◌++◌, length, drop, get_or, append_assoc, append-nil}
use Rattle.std.proofs.Math.Seq.{drop-cons}
use Rattle.std.proofs.Math.ListN.{drop_of_length-le}
use Rattle.processor.specs.declared.steps.Step.{Step}
use Rattle.machine.specs.MachineValue.{MachineValue}
use Rattle.image_file.specs.ImageValue.{ImageValue}
use Rattle.stream_core.specs.declared.steps.Outcome.{Outcome}
use Rattle.processor.specs.World.{World, world_step, after, outcome_of}
use Rattle.trace_text.specs.TraceLines.{trace_line_of}
use Rattle.mta_engines.specs.RunOutput.{pc_of, trace_from}

-- The text so far and the lines to come are the whole trace.

trace_first : (old new : MachineValue) (o : Outcome) (t : Step) (ts : List Step) (n pc : ℕ)
    → (new.world, o) ≡ world_step old.image old.world t → new.image ≡ old.image → pc ≡ pc_of old.world t
    → trace_line_of n t pc o ++ trace_from new.image new.world (n + 1) ts ≡ trace_from old.image old.world n (t ∷ ts)
trace_first old new o t ts n pc is same at =
    let world : new.world ≡ after old.image old.world t = ap (λ (x : World × Outcome). x.0) is in
    let out : o ≡ outcome_of old.image old.world t = ap (λ (x : World × Outcome). x.1) is in
    λ i. trace_line_of n t (at i) (out i) ++ trace_from (same i) (world i) (n + 1) ts

pub trace_step : (old new : MachineValue) (o : Outcome) (t : Step) (ts : List Step) (i pc : ℕ)
    (text more all : List ℕ)
    → i < length ts → t ≡ get_or ts i t → (new.world, o) ≡ world_step old.image old.world t → new.image ≡ old.image
    → pc ≡ pc_of old.world t → more ≡ text ++ trace_line_of (i + 1) t pc o
    → text ++ trace_from old.image old.world (i + 1) (drop i ts) ≡ all
    → more ++ trace_from new.image new.world (i + 1 + 1) (drop (i + 1) ts) ≡ all
trace_step old new o t ts i pc text more all below read is same at line whole =
    let later : List Step = drop (suc i) ts in
    let rest : drop (i + 1) ts ≡ later = ap (λ k. drop k ts) (add-one i) in
    let front : t ∷ later ≡ drop i ts = ap (λ x. x ∷ later) read ∙ sym (drop-cons ts i t below) in
    let behind : List ℕ = trace_from new.image new.world (i + 1 + 1) later in
    ap (λ x. more ++ trace_from new.image new.world (i + 1 + 1) x) rest
    ∙ ap (λ x. x ++ behind) line
    ∙ append_assoc text (trace_line_of (i + 1) t pc o) behind
    ∙ ap (λ x. text ++ x) (trace_first old new o t later (i + 1) pc is same at)
    ∙ ap (λ x. text ++ trace_from old.image old.world (i + 1) x) front
    ∙ whole

-- what stands at a place of a list does not go by the default
pub get_or-any : (ts : List Step) (i : ℕ) (d e : Step) → i < length ts → get_or ts i d ≡ get_or ts i e
get_or-any [] i d e below = absurd (omega arith)
get_or-any (t ∷ ts) zero d e below = refl
get_or-any (t ∷ ts) (suc i) d e below = get_or-any ts i d e (omega arith)

pub trace_end : (image : ImageValue) (w : World) (n i : ℕ) (ts : List Step) (text all : List ℕ) → length ts ≤ i
    → text ++ trace_from image w n (drop i ts) ≡ all → text ≡ all
trace_end image w n i ts text all past whole =
    sym (append-nil text) ∙ ap (λ x. text ++ trace_from image w n x) (sym (drop_of_length-le ts past)) ∙ whole
