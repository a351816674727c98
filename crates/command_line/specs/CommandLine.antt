-- The command line: which lines are commands, and what a command asks for.
use Rattle.std.specs.Prelude.{◌≡◌, List, [], ◌∷◌, Option, Some, None, codes, map, true, false, option_and_then}
use Rattle.std.specs.Prelude.{option_map, if◌then◌else◌, ℕ, ◌-◌, ◌^◌}
use Rattle.std.specs.Str.{bytes_eq}
use Rattle.std.specs.Str.Parse.{digits_value, without_leading_plus}
use Rattle.clap.specs.Words.{App, Row, Rule, Shape, Text, fault_of, first_of, new_rule, subcommand_of}
use Rattle.clap.specs.Simple.{new_shape}
use Rattle.clap.specs.ValueTests.{is_unsigned_in}
use Rattle.clap.specs.Walk.{one_of}
use Rattle.clap.specs.declared.builder.ArgAction.TheVariants.{Set}
use Rattle.clap.specs.declared.builder.ValueParser.TheVariants.{Unsigned}
use Rattle.command_line.specs.declared.reading.ToolCommand.{ToolCommand}
use Rattle.command_line.specs.declared.reading.ToolCommand.TheVariants as command

-- ---- the tool's commands, as the parser of command lines sees them

-- an argument that has to be there, and names a file
abbrev pub file_rule : Text → Rule
file_rule name = record (new_rule name) { action = Some Set; required = true }

-- a command with its files
abbrev pub command_shape : Text → List Text → Shape
command_shape name files = record (new_shape name) { rules = map file_rule files }

-- the same, with no command below it
abbrev pub command_app : Text → List Text → App
command_app name files = record { top = command_shape name files; subs = [] }

-- an argument that has to be there, and is a number from 1 to 1,000,000
abbrev pub fuel_rule : Rule
fuel_rule = record (new_rule (codes "FUEL")) { action = Some Set; required = true; parser = Some (Unsigned 1 1000000) }

-- the command `threads`, with two files and a number
abbrev pub threads_shape : Shape
threads_shape = record (new_shape (codes "threads")) {
  rules = file_rule (codes "IMAGE") ∷ fuel_rule ∷ file_rule (codes "SCHEDULE") ∷ [];
}

abbrev pub threads_app : App
threads_app = record { top = threads_shape; subs = [] }

-- the command line as a whole: it needs a command
abbrev pub tool_shape : Shape
tool_shape = record (new_shape (codes "mta_sim")) {
  is_leaf = false;
  has_version = true;
  subcommand_required = true;
}

-- the commands and the names of their words
abbrev pub tool_app : App
tool_app = record {
  top = tool_shape;
  subs = command_shape (codes "words") []
      ∷ command_shape (codes "asm") (codes "SOURCE" ∷ codes "IMAGE" ∷ [])
      ∷ command_shape (codes "list") (codes "IMAGE" ∷ [])
      ∷ command_shape (codes "run") (codes "IMAGE" ∷ codes "SCHEDULE" ∷ [])
      ∷ threads_shape
      ∷ command_shape (codes "debug") (codes "IMAGE" ∷ codes "SCHEDULE" ∷ [])
      ∷ [];
}

-- the words, the first of which is the program's name, are a command: a parse of them meets no fault, and no call for
-- help or for the version
abbrev pub IsCommand : List Text → Type 0
IsCommand words = fault_of tool_app words ≡ []

-- ---- what a command asks for, with the paths of its files

-- a command with the paths of its files
pub data CommandValue : Type 0 where
  run_words : CommandValue
  assemble_source : Text → Text → CommandValue
  list_image : Text → CommandValue
  run_image : Text → Text → CommandValue
  run_threads : Text → ℕ → Text → CommandValue
  debug_image : Text → Text → CommandValue

-- the number that a text is, where it is one of 64 bits; else 0
abbrev pub number_of : Text → ℕ
number_of text = if is_unsigned_in 0 (2 ^ 64 - 1) text then digits_value 10 (without_leading_plus text) else 0

-- the number of a word, 0 where there is none
abbrev pub number_given : Option Text → ℕ
number_given None = 0
number_given (Some text) = number_of text

-- with two paths, where both are given
abbrev pub with_paths : (Text → Text → CommandValue) → Option Text → Option Text → Option CommandValue
with_paths with_files first second = option_and_then (λ path. option_map (with_files path) second) first

-- what the command of this name asks for, with these values of its arguments
abbrev pub command_by_name : Text → List Row → Option CommandValue
command_by_name name rows =
    if bytes_eq name (codes "words") then Some run_words
    else (if bytes_eq name (codes "asm")
    then with_paths assemble_source (first_of (codes "SOURCE") rows) (first_of (codes "IMAGE") rows)
    else (if bytes_eq name (codes "list") then option_map list_image (first_of (codes "IMAGE") rows)
    else (if bytes_eq name (codes "run")
    then with_paths run_image (first_of (codes "IMAGE") rows) (first_of (codes "SCHEDULE") rows)
    else (if bytes_eq name (codes "threads")
    then with_paths (λ image. run_threads image (number_given (one_of (codes "FUEL") rows)))
    (first_of (codes "IMAGE") rows) (first_of (codes "SCHEDULE") rows)
    else (if bytes_eq name (codes "debug")
    then with_paths debug_image (first_of (codes "IMAGE") rows) (first_of (codes "SCHEDULE") rows)
    else None)))))

-- the command of what a command line was read as
abbrev pub command_in : Option (Text × List Row) → Option CommandValue
command_in = option_and_then (λ entered. command_by_name entered.0 entered.1)

-- what a line asks for, where it is a command
abbrev pub command_of_line : List Text → Option CommandValue
command_of_line words = command_in (subcommand_of tool_app words)

-- ---- a command, as the code has it

abbrev pub value_of_command : ToolCommand → CommandValue
value_of_command command.Words = run_words
value_of_command (command.Assemble source image) = assemble_source source.now image.now
value_of_command (command.List image) = list_image image.now
value_of_command (command.Run image schedule) = run_image image.now schedule.now
value_of_command (command.Threads image fuel schedule) = run_threads image.now fuel schedule.now
value_of_command (command.Debug image schedule) = debug_image image.now schedule.now
