-- How a stream is printed.
use Rattle.std.specs.Prelude.{ℕ, zero, suc, ◌+◌, ◌==◌, List, [], ◌++◌, if◌then◌else◌, codes}
use Rattle.std.specs.Fmt.{decimal}
use Rattle.text_parts.specs.Digits.{hexadecimal_16, two_digits}
use Rattle.stream_core.specs.StatusWords.{status_number}
use Rattle.stream_core.specs.Registers.{register_at, target_at}
use Rattle.stream_core.specs.Traps.{trap_number}
use Rattle.stream_core.specs.Streams.{StreamValue}
use Rattle.stream_core.specs.declared.status_words.StatusWord.{StatusWord}
use Rattle.stream_core.specs.declared.steps.Status.{Status}
use Rattle.stream_core.specs.declared.steps.Status.TheVariants.{Idle, Running, Stopped}

-- the status by name, a stopped stream with the number of its trap
unfoldable pub status_text : Status → List ℕ
status_text Idle = codes "Idle"
status_text Running = codes "Running"
status_text (Stopped k) = codes "Stopped " ++ two_digits (trap_number k)

-- the line of a stream's status
unfoldable pub status_line : StreamValue → List ℕ
status_line s =
    status_text s.status ++ codes " ssw " ++ hexadecimal_16 (status_number s.ssw) ++ codes " xr "
    ++ hexadecimal_16 s.xr ++ codes " retries " ++ decimal s.retries ++ codes "\n"

-- a register's line; one that is zero has none
unfoldable pub register_line : ℕ → ℕ → List ℕ
register_line r v = if v == 0 then [] else codes "r" ++ two_digits r ++ codes " " ++ hexadecimal_16 v ++ codes "\n"

-- the line of a target register; none where it is zero
unfoldable pub target_line : ℕ → ℕ → List ℕ
target_line t v = if v == 0 then [] else codes "t" ++ decimal t ++ codes " " ++ hexadecimal_16 v ++ codes "\n"

-- the lines of so many registers, from the one of that number on
unfoldable pub register_lines : List ℕ → ℕ → ℕ → List ℕ
register_lines rs zero r = []
register_lines rs (suc k) r = register_line r (register_at rs r) ++ register_lines rs k (r + 1)

-- the lines of so many target registers from this one on
unfoldable pub target_lines : List StatusWord → ℕ → ℕ → List ℕ
target_lines ts zero t = []
target_lines ts (suc k) t = target_line t (status_number (target_at ts t)) ++ target_lines ts k (t + 1)

-- the text of a stream: its status, its registers, its target registers
unfoldable pub stream_text_of : StreamValue → List ℕ
stream_text_of s = status_line s ++ register_lines s.registers 32 0 ++ target_lines s.targets 8 0
