-- The command that a line says: its words, with single spaces between them.
use Rattle.std.specs.Prelude.{ℕ, ◌-◌, ◌^◌, nat_le, if◌then◌else◌, List, [], ◌∷◌, length, codes, Option, Some, None}
use Rattle.std.specs.Option.{option_map, option_and_then}
use Rattle.std.specs.Str.{bytes_eq}
use Rattle.text_parts.specs.Pieces.{pieces}
use Rattle.text_parts.specs.Reading.{number_of_text}
use Rattle.text_parts.specs.Numbers.{up_to}
use Rattle.debug_commands.specs.declared.commands.Command.{Command}
use Rattle.debug_commands.specs.declared.commands.Command.TheVariants.{Forward, Continue, Back, Go, Break}
use Rattle.debug_commands.specs.declared.commands.Command.TheVariants.{Watch, WatchTags, Delete, Registers, Show}

-- a number, decimal or with 0x, of at most so many bits
abbrev pub number_within_bits : ℕ → List ℕ → Option ℕ
number_within_bits bits text = option_and_then (up_to (2 ^ bits - 1)) (number_of_text text)

-- c and back
abbrev pub bare_command : List ℕ → Option Command
bare_command name =
    if bytes_eq name (codes "c") then Some Continue
    else (if bytes_eq name (codes "back") then Some Back
    else None)

-- s n, g k, w a, wt a and d n
abbrev pub command_of_one : List ℕ → List ℕ → Option Command
command_of_one name number =
    if bytes_eq name (codes "s") then option_map Forward (number_within_bits 64 number)
    else (if bytes_eq name (codes "g") then option_map Go (number_within_bits 64 number)
    else (if bytes_eq name (codes "w") then option_map Watch (number_within_bits 64 number)
    else (if bytes_eq name (codes "wt") then option_map WatchTags (number_within_bits 64 number)
    else (if bytes_eq name (codes "d") then option_map Delete (number_within_bits 64 number)
    else None))))

-- the command with two numbers, where there are both
abbrev pub with_both : (ℕ → ℕ → Command) → Option ℕ → Option ℕ → Option Command
with_both command (Some m) (Some n) = Some (command m n)
with_both command (Some m) None = None
with_both command None n = None

-- b p pc, r p s and m a n
abbrev pub command_of_two : List ℕ → List ℕ → List ℕ → Option Command
command_of_two name first second =
    if bytes_eq name (codes "b") then with_both Break (number_within_bits 8 first) (number_within_bits 32 second)
    else (if bytes_eq name (codes "r") then
    with_both Registers (number_within_bits 8 first) (number_within_bits 8 second)
    else (if bytes_eq name (codes "m") then
    with_both Show (number_within_bits 64 first) (number_within_bits 64 second)
    else None))

-- a name, and up to two numbers
abbrev pub command_of_words : List (List ℕ) → Option Command
command_of_words (name ∷ []) = bare_command name
command_of_words (name ∷ number ∷ []) = command_of_one name number
command_of_words (name ∷ first ∷ second ∷ []) = command_of_two name first second
command_of_words _ = None

-- the command of a line of at most 256 bytes, its line feed not counted
unfoldable pub command_of : List ℕ → Option Command
command_of line = if nat_le (length line) 256 then command_of_words (pieces 32 line) else None
