-- What private functions compute, and what a step comes to.
use Rattle.std.specs.Prelude.{◌≡◌, ◌==◌, ◌&&◌, ℕ, Bool, false, Option, Some, None, IsTrue}
use Rattle.stream_core.specs.Streams.{StreamValue}
use Rattle.stream_core.specs.declared.steps.Outcome.{Outcome}
use Rattle.stream_core.specs.declared.steps.Outcome.TheVariants as outcome
use Rattle.processor.specs.World.{World, after, stream_of, counts_of}
use Rattle.processor.specs.declared.steps.Step.{Step}
use Rattle.machine.specs.MachineValue.{MachineValue}
use Rattle.waiting.specs.Running.{runs_at, running_steps}
use Rattle.waiting.specs.Stuck.{IsStandstill}
use Rattle.schedule_makers.specs.declared.looking.Seen.{Seen}
use Rattle.schedule_makers.specs.declared.advancing.Went.{Went}

-- whether a step left the world as it was: it was blocked, and no retry was counted
abbrev pub is_in_vain : Outcome → ℕ → ℕ → Bool
is_in_vain outcome.Skipped before after = false
is_in_vain outcome.Done before after = false
is_in_vain outcome.Blocked before after = before == after
is_in_vain (outcome.Trapped k) before after = false
is_in_vain (outcome.Stopped k) before after = false

-- the retry count of a stream that may be missing
abbrev pub retries_at : Option StreamValue → ℕ
retries_at None = 0
retries_at (Some s) = s.retries

-- how many streams are current, by the counts of a processor that may be missing
abbrev pub current_at : Option (ℕ × ℕ) → ℕ
current_at None = 0
current_at (Some counts) = counts.0

-- what is seen of the stream that a step names, where there is room for so many
abbrev pub seen_of : ℕ → World → Step → Seen
seen_of size w t = record {
  runs = runs_at (stream_of size w t.p t.s);
  retries = retries_at (stream_of size w t.p t.s);
  current = current_at (counts_of w t.p);
}

-- whether a stream still runs after its step, and as many are current as before
abbrev pub is_same_run : Seen → Seen → Bool
is_same_run before after = after.runs && (after.current == before.current)

-- A step was taken where somebody could go on, and what is known after it.
pub record HasGone (old new : MachineValue) (t : Step) (went : Went) : Type 0 where
  pub image : new.image ≡ old.image
  pub world : new.world ≡ after old.image old.world t
  pub going : ¬ IsStandstill old.image old.world
  pub able : IsTrue went.is_able → ¬ IsStandstill new.image new.world
  pub same_run : IsTrue went.same_run → running_steps new.world ≡ running_steps old.world
