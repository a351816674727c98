-- What a stream holds, as numbers of 32 bits.
use Rattle.std.specs.Prelude.{◌≡◌, ℕ, ◌+◌, ◌/◌, ◌%◌, ◌^◌, List, [], ◌∷◌, ◌++◌, length, map}
use Rattle.stream_core.specs.StatusWords.{status_number, status_from}
use Rattle.stream_core.specs.Streams.{StreamValue}
use Rattle.stream_core.specs.Traps.{trap_number}
use Rattle.stream_core.specs.declared.status_words.StatusWord.{StatusWord}
use Rattle.stream_core.specs.declared.steps.Status.{Status}
use Rattle.stream_core.specs.declared.steps.Status.TheVariants.{Idle, Running, Stopped}

-- a number of 64 bits as two of 32 bits, the lower first
abbrev pub halves : ℕ → List ℕ
halves n = n % 2 ^ 32 ∷ n / 2 ^ 32 ∷ []

-- the halves of all numbers of a list
abbrev pub all_halves : List ℕ → List ℕ
all_halves [] = []
all_halves (n ∷ ns) = halves n ++ all_halves ns

-- a status as a number: 0 where the stream is idle, 1 where it runs, and where a trap stopped it 1 more than the
-- trap's number
abbrev pub status_code : Status → ℕ
status_code Idle = 0
status_code Running = 1
status_code (Stopped k) = trap_number k + 1

-- what a stream holds, as numbers of 64 bits
abbrev pub stream_words : StreamValue → List ℕ
stream_words s =
    s.registers ++ (map status_number s.targets ++ (status_number s.ssw ∷ s.xr ∷ s.retries ∷ status_code s.status ∷ []))

-- what a stream holds, as numbers of 32 bits
unfoldable pub stream_numbers : StreamValue → List ℕ
stream_numbers s = all_halves (stream_words s)

-- a status word as it is read back from its 64 digits
abbrev pub reread : StatusWord → StatusWord
reread w = status_from (status_number w)

-- Nothing of the stream is lost in its numbers: it has 32 registers and 8 target registers, and its status words are
-- read back from their digits.
pub record IsReadable (s : StreamValue) : Type 0 where
  pub registers : length s.registers ≡ 32
  pub targets : length s.targets ≡ 8
  pub words : map reread s.targets ≡ s.targets
  pub ssw : reread s.ssw ≡ s.ssw
