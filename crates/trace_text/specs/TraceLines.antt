-- The line of a step in a trace.
use Rattle.std.specs.Prelude.{ℕ, List, ◌++◌, codes}
use Rattle.text_parts.specs.Columns.{right_aligned}
use Rattle.text_parts.specs.Digits.{hexadecimal_8, two_digits}
use Rattle.processor.specs.declared.steps.Step.{Step}
use Rattle.stream_core.specs.Traps.{trap_number}
use Rattle.stream_core.specs.declared.steps.Outcome.{Outcome}
use Rattle.stream_core.specs.declared.steps.Outcome.TheVariants.{Skipped, Done, Blocked, Trapped, Stopped}

-- the name of each outcome
unfoldable pub outcome_text : Outcome → List ℕ
outcome_text Skipped = codes "SKIPPED"
outcome_text Done = codes "DONE"
outcome_text Blocked = codes "BLOCKED"
outcome_text (Trapped k) = codes "TRAPPED " ++ two_digits (trap_number k)
outcome_text (Stopped k) = codes "STOPPED " ++ two_digits (trap_number k)

-- its number, its processor and stream
abbrev pub place_text : ℕ → Step → List ℕ
place_text n t =
    right_aligned 7 n ++ codes " " ++ right_aligned 3 t.p ++ codes " " ++ right_aligned 3 t.s ++ codes " "

-- the pc before it, and how it came out
abbrev pub result_text : ℕ → Outcome → List ℕ
result_text pc o = hexadecimal_8 pc ++ codes " " ++ outcome_text o ++ codes "\n"

-- the trace line of a step: its number, its stream, the pc and the outcome
unfoldable pub trace_line_of : ℕ → Step → ℕ → Outcome → List ℕ
trace_line_of n t pc o = place_text n t ++ result_text pc o
