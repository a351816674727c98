-- A line of a schedule: `p s` or `p s n`.
use Rattle.std.specs.Prelude.{ℕ, Bool, nat_le, ◌&&◌, List, [], ◌∷◌, Option, Some, None, replicate}
use Rattle.text_parts.specs.Pieces.{pieces}
use Rattle.text_parts.specs.Reading.{number_of_digits}
use Rattle.processor.specs.World.{most_steps}
use Rattle.processor.specs.declared.steps.Step.{Step}

-- what a line says: the numbers of a processor and of a stream, and how often the stream is stepped
pub record LineValues : Type 0 where
  pub processor : ℕ
  pub stream : ℕ
  pub times : ℕ

-- the pieces between single spaces
abbrev pub fields_of : List ℕ → List (List ℕ)
fields_of line = pieces 32 line

-- decimal digits, and nothing else
abbrev pub decimal_number : List ℕ → Option ℕ
decimal_number digits = number_of_digits 10 digits

-- the three numbers of a line, where it has all of them
abbrev pub values : Option ℕ → Option ℕ → Option ℕ → Option LineValues
values (Some p) (Some s) (Some n) = Some (record { processor = p; stream = s; times = n })
values _ _ _ = None

-- two numbers or three; one time where there is no third
abbrev pub values_in : List (List ℕ) → Option LineValues
values_in (p ∷ s ∷ []) = values (decimal_number p) (decimal_number s) (Some 1)
values_in (p ∷ s ∷ n ∷ []) = values (decimal_number p) (decimal_number s) (decimal_number n)
values_in _ = None

-- the numbers of a line, and None where it has another form
unfoldable pub values_of : List ℕ → Option LineValues
values_of line = values_in (fields_of line)

-- processor and stream to 255, and once to as often as a schedule has steps
abbrev pub is_within : LineValues → Bool
is_within v = (nat_le v.processor 255 && nat_le v.stream 255) && (nat_le 1 v.times && nat_le v.times most_steps)

-- the step that a line names
abbrev pub step_of : LineValues → Step
step_of v = record { p = v.processor; s = v.stream }

-- the steps of a line
abbrev pub steps_on : Option LineValues → List Step
steps_on None = []
steps_on (Some v) = replicate v.times (step_of v)

-- and how many they are
abbrev pub times_on : Option LineValues → ℕ
times_on None = 0
times_on (Some v) = v.times
