-- A stream, as contracts see it.
use Rattle.std.specs.Prelude.{ℕ, ◌+◌, ◌-◌, ◌*◌, ◌%◌, ◌^◌, ◌==◌, Bool, true, false, ◌||◌, List, replicate}
use Rattle.stream_core.specs.StatusWords.{status_at}
use Rattle.stream_core.specs.Registers.{target_at, with_target}
use Rattle.stream_core.specs.Traps.{trap_number}
use Rattle.stream_core.specs.declared.status_words.StatusWord.{StatusWord}
use Rattle.stream_core.specs.declared.traps.TrapKind.{TrapKind}
use Rattle.stream_core.specs.declared.steps.Status.{Status}
use Rattle.stream_core.specs.declared.steps.Status.TheVariants.{Idle, Stopped}
use Rattle.stream_core.specs.declared.steps.Outcome.{Outcome}
use Rattle.stream_core.specs.declared.steps.Outcome.TheVariants as outcome

-- a stream: its registers, target registers, status word, trap register, retry count and status
pub record StreamValue : Type 0 where
  pub registers : List ℕ
  pub targets : List StatusWord
  pub ssw : StatusWord
  pub xr : ℕ
  pub retries : ℕ
  pub status : Status

-- the stream that holds zeros only
abbrev pub idle : StreamValue
idle = record {
  registers = replicate 32 0;
  targets = replicate 8 (status_at 0);
  ssw = status_at 0;
  xr = 0;
  retries = 0;
  status = Idle;
}

-- no handler stands at the last pc
abbrev pub no_handler : ℕ
no_handler = 2 ^ 32 - 1

-- whether a trap stops the stream
abbrev pub cannot_trap : StreamValue → Bool
cannot_trap s = s.ssw.in_trap || ((target_at s.targets 0).pc == no_handler)

-- the status word and t0 change places, and the stream is in a trap
abbrev pub after_trap_if : Bool → TrapKind → StreamValue → StreamValue × Outcome
after_trap_if true k s = (record s { status = Stopped k }, outcome.Stopped k)
after_trap_if false k s = (
  record s {
    ssw = record (target_at s.targets 0) { in_trap = true };
    targets = with_target s.targets 0 s.ssw;
  },
  outcome.Trapped k,
)

-- the stream after a trap, and the step's outcome
abbrev pub after_trap : TrapKind → ℕ → StreamValue → StreamValue × Outcome
after_trap k a s = after_trap_if (cannot_trap s) k (record s { xr = trap_number k + a % 2 ^ 48 * 256; retries = 0 })
