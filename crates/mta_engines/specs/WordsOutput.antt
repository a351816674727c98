-- What the command `words` writes for an input.
use Rattle.std.specs.Prelude.{◌≡◌, ℕ, List, [], length, Option, Some, None, Result, Ok, Err, nat_le, if◌then◌else◌}
use Rattle.stream_core.specs.Streams.{StreamValue}
use Rattle.stream_core.specs.StreamText.{stream_text_of}
use Rattle.processor.specs.World.{stream_of}
use Rattle.mta_engines.specs.Input.{input_limit}
use Rattle.mta_engines.specs.ProgramLines.{program_of}
use Rattle.mta_engines.specs.WordsMachine.{words_world}
use Rattle.mta_engines.specs.declared.tool_fault.ToolFault.{ToolFault}
use Rattle.mta_engines.specs.declared.tool_fault.ToolFault.TheVariants.{TooLarge}

-- the text of a stream, if there is one
abbrev pub text_at : Option StreamValue → List ℕ
text_at None = []
text_at (Some stream) = stream_text_of stream

-- the text of stream 0 of processor 0 after as many steps as the program has words; there is room for one stream
unfoldable pub program_text : List ℕ → List ℕ
program_text program = text_at (stream_of 1 (words_world program) 0 0)

-- the text of a program, or its fault
abbrev pub text_or_fault : Result (List ℕ) ToolFault → Result (List ℕ) ToolFault
text_or_fault (Ok program) = Ok (program_text program)
text_or_fault (Err fault) = Err fault

-- the text for an input, or the fault
abbrev pub words_output : List ℕ → Result (List ℕ) ToolFault
words_output input = if nat_le (length input) input_limit then text_or_fault (program_of input) else Err TooLarge

-- the text is the input's
abbrev pub IsWordsOutput : List ℕ → List ℕ → Type 0
IsWordsOutput input text = words_output input ≡ Ok text
