-- What the command `debug` writes for an image, a schedule and the lines of commands.
use Rattle.std.specs.Prelude.{◌≡◌, ◌≢◌, ◌≤◌, ◌<◌, ℕ, List, [], ◌∷◌, ◌++◌, length, take, Option, Some, None, IfSome}
use Rattle.std.specs.Prelude.{Result, Ok, Err, codes, ◌⊎◌}
use Rattle.std.specs.Fmt.{decimal}
use Rattle.std.specs.List.{All}
use Rattle.std.specs.Io.KnownBytes.{Consumes}
use Rattle.text_parts.specs.Lines.{lines_of}
use Rattle.image_file.specs.ImageValue.{ImageValue}
use Rattle.processor.specs.declared.steps.Step.{Step}
use Rattle.debug_commands.specs.Commands.{command_of}
use Rattle.debug_commands.specs.AnswerTexts.{answer_text_of}
use Rattle.debug_commands.specs.Faults.{debug_fault_number}
use Rattle.debug_commands.specs.declared.answers.Answer.{Answer}
use Rattle.debug_commands.specs.declared.commands.Command.{Command}
use Rattle.debug_commands.specs.declared.debug_fault.DebugFault.{DebugFault}
use Rattle.debug_commands.specs.declared.debug_fault.DebugFault.TheVariants.{Syntax}
use Rattle.replay_debugger.specs.Sessions.{SessionValue, session_at_start}
use Rattle.replay_debugger.specs.Table.{IsResultOf}
use Rattle.mta_engines.specs.Input.{input_limit}
use Rattle.mta_engines.specs.Images.{IsImageOf, HasImageFault}
use Rattle.mta_engines.specs.RunOutput.{IsScheduleOf, HasLaterFault}
use Rattle.mta_engines.specs.declared.tool_fault.ToolFault.{ToolFault}
use Rattle.mta_engines.specs.declared.tool_fault.ToolFault.TheVariants.{TooLarge, NoMemory}

-- The answers.

-- fault n
unfoldable pub refusal_line : DebugFault → List ℕ
refusal_line fault = codes "fault " ++ decimal (debug_fault_number fault) ++ codes "\n"

-- the text of an answer, or the line of a refusal
abbrev pub answer_or_refusal : Result Answer DebugFault → List ℕ
answer_or_refusal (Ok answer) = answer_text_of answer
answer_or_refusal (Err fault) = refusal_line fault

-- What a session writes for a line, and the session after it: what the table of commands says of the line's command. A
-- line that is no command is refused, and the session stays.
abbrev pub IsReply : SessionValue → Option Command → List ℕ → SessionValue → Type 0
IsReply old None text new = (text ≡ refusal_line Syntax) × (new ≡ old)
IsReply old (Some command) text new =
    (result : Result Answer DebugFault) × IsResultOf old command result new × (text ≡ answer_or_refusal result)

-- the same of lines, one after another
abbrev pub AreReplies : SessionValue → List (List ℕ) → List ℕ → SessionValue → Type 0
AreReplies old [] text new = (text ≡ []) × (new ≡ old)
AreReplies old (line ∷ lines) text new = (first rest : List ℕ) × (next : SessionValue)
    × IsReply old (command_of line) first next × AreReplies next lines rest new × (text ≡ first ++ rest)

-- a session's answers to lines
abbrev pub AnswersTo : SessionValue → List (List ℕ) → List ℕ → Type 0
AnswersTo old lines text = (new : SessionValue) × AreReplies old lines text new

-- The inputs.

-- a new session's answers to lines, over the image and the schedule that the bytes of two inputs are
pub record IsAnswered (image_bytes schedule_bytes : List ℕ) (lines : List (List ℕ)) (output : List ℕ) : Type 0 where
  pub image : ImageValue
  pub schedule : List Step
  pub image_is : IsImageOf image_bytes image
  pub schedule_is : IsScheduleOf schedule_bytes schedule
  pub answers : AnswersTo (session_at_start image schedule) lines output

-- the output for the bytes of an image, of a schedule and of commands: the answers to all lines of commands
pub record IsDebugOutput (image_bytes schedule_bytes command_bytes output : List ℕ) : Type 0 where
  pub within : length command_bytes ≤ input_limit
  pub answered : IsAnswered image_bytes schedule_bytes (lines_of command_bytes) output

-- the commands are too long, where image and schedule have no fault
pub record AreTooLong (image_bytes schedule_bytes command_bytes : List ℕ) (fault : ToolFault) : Type 0 where
  pub image : ImageValue
  pub schedule : List Step
  pub image_is : IsImageOf image_bytes image
  pub schedule_is : IsScheduleOf schedule_bytes schedule
  pub too_large : fault ≡ TooLarge
  pub past : input_limit < length command_bytes

-- the fault of the first input that has one
abbrev pub HasDebugFault : List ℕ → List ℕ → List ℕ → ToolFault → Type 0
HasDebugFault image_bytes schedule_bytes command_bytes fault =
    HasImageFault image_bytes fault ⊎ (HasLaterFault image_bytes schedule_bytes fault
    ⊎ AreTooLong image_bytes schedule_bytes command_bytes fault)

-- What is answered where a fault ends the session.

-- no byte ends a line
abbrev pub HasNoLineEnd : List ℕ → Type 0
HasNoLineEnd = All (λ byte. byte ≢ 10)

-- lines, each with the line feed that ends it
abbrev pub with_line_ends : List (List ℕ) → List ℕ
with_line_ends [] = []
with_line_ends (line ∷ lines) = line ++ 10 ∷ with_line_ends lines

-- the lines of a text that are ended by a line feed
pub record AreEnded (text : List ℕ) (lines : List (List ℕ)) : Type 0 where
  pub rest : List ℕ
  pub whole : text ≡ with_line_ends lines ++ rest
  pub lines_have_none : All HasNoLineEnd lines
  pub rest_has_none : HasNoLineEnd rest

-- a list of lines is the first of another
abbrev pub AreFirstOf : List (List ℕ) → List (List ℕ) → Type 0
AreFirstOf all first = (rest : List (List ℕ)) × (all ≡ first ++ rest)

-- Those are the lines that were answered: of the bytes that were read, as far as they are within the limit.
pub record AreRead (told_before told_after : Option (List ℕ)) (lines : List (List ℕ)) : Type 0 where
  pub read : List ℕ
  pub consumed : Consumes told_before told_after read
  pub ended : AreEnded (take input_limit read) lines

-- The lines that were answered before a fault, by the bytes that the reader of commands had before and has after it.
-- Where memory was refused they are some first lines.
pub record WereAnswered (told_before told_after : Option (List ℕ)) (fault : ToolFault) (lines : List (List ℕ))
    : Type 0 where
  pub first : IfSome told_before (λ bytes. AreFirstOf (lines_of bytes) lines)
  pub all : fault ≢ NoMemory → AreRead told_before told_after lines

-- the answers to those lines, over the image and the schedule that the bytes of two inputs are
pub record AreFirstAnswers (image_bytes schedule_bytes : List ℕ) (told_before told_after : Option (List ℕ))
    (fault : ToolFault) (output : List ℕ) : Type 0 where
  pub lines : List (List ℕ)
  pub answered : IsAnswered image_bytes schedule_bytes lines output
  pub were : WereAnswered told_before told_after fault lines
