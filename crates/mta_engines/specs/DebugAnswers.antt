-- What a session writes for the lines of a reader. What the engine promises is made of this.
use Rattle.std.specs.Prelude.{◌≡◌, ◌≢◌, ◌≤◌, ◌<◌, ℕ, List, length, Option, IfSome, ◌⊎◌}
use Rattle.text_parts.specs.Lines.{lines_of}
use Rattle.replay_debugger.specs.Sessions.{SessionValue}
use Rattle.mta_engines.specs.Input.{input_limit}
use Rattle.mta_engines.specs.InputOutput.{HasInput, HasOutput}
use Rattle.mta_engines.specs.DebugOutput.{AnswersTo, WereAnswered}
use Rattle.mta_engines.specs.declared.tool_fault.ToolFault.{ToolFault}
use Rattle.mta_engines.specs.declared.tool_fault.ToolFault.TheVariants.{Read, Write, TooLarge, NoMemory}

-- the answers to all lines of a text
pub record AnswersToAllLines (s : SessionValue) (text output : List ℕ) : Type 0 where
  pub within : length text ≤ input_limit
  pub answers : AnswersTo s (lines_of text) output

-- a session answered all lines of a reader, whose bytes are known where its type tells them
abbrev pub AreAllAnswers : SessionValue → Option (List ℕ) → Option (List ℕ) → Option (List ℕ) → Type 0
AreAllAnswers s told old new = HasInput told (λ text. HasOutput old new (AnswersToAllLines s text))

-- the answers to the lines that came before a fault
pub record AnswersBeforeFault (s : SessionValue) (told_before told_after : Option (List ℕ)) (fault : ToolFault)
    (output : List ℕ) : Type 0 where
  pub lines : List (List ℕ)
  pub answers : AnswersTo s lines output
  pub were : WereAnswered told_before told_after fault lines

-- a fault of a session with a reader of commands and a writer
pub record IsLaterFault (s : SessionValue) (told_before told_after old new : Option (List ℕ)) (fault : ToolFault)
    : Type 0 where
  pub written : fault ≢ Write → HasOutput old new (AnswersBeforeFault s told_before told_after fault)
  pub kind : (fault ≡ Read) ⊎ ((fault ≡ Write) ⊎ ((fault ≡ TooLarge) ⊎ (fault ≡ NoMemory)))
  pub too_large : fault ≡ TooLarge → IfSome told_before (λ bytes. input_limit < length bytes)
