-- What a run of all processors leaves.
use Rattle.std.specs.Prelude.{ℕ, ◌≡◌, ◌≤◌, ◌+◌, ◌++◌, List, [], Some, All, length, slice_get}
use Rattle.insn_word.specs.declared.profiles.Profile.TheVariants.{One}
use Rattle.image_file.specs.ImageValue.{ImageValue}
use Rattle.processor.specs.Records.{RecordValue}
use Rattle.processor.specs.declared.steps.Entry.{Entry}
use Rattle.shared_history.specs.SharedMemory.{SharedValue}
use Rattle.shared_history.specs.Gathering.{IsGathered}
use Rattle.shared_history.specs.Parts.{PartsValue, AreNewParts, HasFinished}
use Rattle.shared_history.specs.Schedule.{WovenValue, IsWoven}
use Rattle.memory_lock.specs.Driving.{IsGrown}

-- each record has room for what is missing to fuel
abbrev pub HaveRoom : PartsValue → Type 0
HaveRoom parts = All (λ (r : RecordValue). parts.fuel ≤ length r.steps + r.spare) parts.records

-- a memory went on: it is of the same image, and its old history is the beginning of the new one
pub record IsContinued (old new : SharedValue) : Type 0 where
  pub image : new.image ≡ old.image
  pub history : (more : List Entry) × (new.history ≡ old.history ++ more)

-- a memory that no run has to begin with
abbrev pub no_memory : SharedValue
no_memory = record {
  image = record {
    profile = One;
    slim = 0;
    chain_limit = 0;
    retry_limit = 0;
    trap_entry = 0;
    entries = [];
    program = [];
    cells = [];
  };
  history = [];
  spare = 0;
}

-- the memory went on, and the records, each by itself
pub record IsRunOfThreads (old new : PartsValue) : Type 0 where
  pub fuel : new.fuel ≡ old.fuel
  pub shared : IsContinued old.shared new.shared
  pub one_each : length new.records ≡ length old.records
  pub each : (p : ℕ) (r x : RecordValue) → slice_get old.records p ≡ Some r → slice_get new.records p ≡ Some x
      → IsGrown old.fuel r x

-- parts that a run of the image's processors from their start left
pub record AreRunParts (image : ImageValue) (fuel : ℕ) (parts : PartsValue) : Type 0 where
  pub before : PartsValue
  pub new : AreNewParts image fuel before
  pub run : IsRunOfThreads before parts

-- the schedule of a run of the image's processors from their start, gathered of what the run left: none of them took
-- more than fuel steps, and each took so many or has no stream that runs
pub record IsThreaded (image : ImageValue) (fuel : ℕ) (w : WovenValue) : Type 0 where
  pub parts : PartsValue
  pub left : AreRunParts image fuel parts
  pub gathered : IsGathered parts w
  pub image_is : w.shared.image ≡ image
  pub woven : IsWoven w
  pub bound : (p : ℕ) (r : RecordValue) → slice_get w.records p ≡ Some r → length r.steps ≤ fuel
  pub finished : (p : ℕ) → HasFinished fuel (slice_get w.records p)
