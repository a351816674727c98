-- The parts of a run: its memory, its records, and how many steps each was to take. And what can be wrong with them.
use Rattle.std.specs.Prelude.{ℕ, ◌≡◌, ◌<◌, ◌≤◌, ◌*◌, List, [], Option, Some, None, Bool, true, not, ◌||◌, nat_le}
use Rattle.std.specs.Prelude.{slice_get, length}
use Rattle.image_file.specs.ImageValue.{ImageValue}
use Rattle.processor.specs.Histories.{pairs_of}
use Rattle.processor.specs.Records.{RecordValue, any_runs, IsKept}
use Rattle.processor.specs.declared.steps.Entry.{Entry}
use Rattle.shared_history.specs.SharedMemory.{SharedValue}

-- what a run leaves: the steps that each processor may take, the memory and a record for each processor
pub record PartsValue : Type 0 where
  pub fuel : ℕ
  pub shared : SharedValue
  pub records : List RecordValue

-- Parts before a run.

-- the record of processor p of the image, with no step yet and with room for so many
pub record IsNewRecord (image : ImageValue) (p room : ℕ) (r : RecordValue) : Type 0 where
  pub image_is : r.image ≡ image
  pub number_is : r.number ≡ p
  pub steps : r.steps ≡ []
  pub pairs : r.pairs ≡ []
  pub room_is : room ≤ r.spare

-- a memory of which nothing was asked, with room for whatever the records can ask, and a record for each processor,
-- of which there is one at least
pub record AreNewParts (image : ImageValue) (fuel : ℕ) (parts : PartsValue) : Type 0 where
  pub fuel_is : parts.fuel ≡ fuel
  pub shared_is : parts.shared
      ≡ record { image = image; history = []; spare = length image.entries * fuel }
  pub one_each : length parts.records ≡ length image.entries
  pub some : 1 ≤ length parts.records
  pub records_are : (p : ℕ) (r : RecordValue) → slice_get parts.records p ≡ Some r → IsNewRecord image p fuel r

-- What holds of the record in place p where there is no fault there.

-- record p is of processor p of the image, or neither is there
abbrev pub Belongs : ImageValue → ℕ → Option RecordValue → Type 0
Belongs image p None = length image.entries ≤ p
Belongs image p (Some r) = (p < length image.entries) × (r.image ≡ image) × (r.number ≡ p)

-- whether a record has its fuel of steps, or no stream of it runs
abbrev pub has_finished : ℕ → RecordValue → Bool
has_finished fuel r = nat_le fuel (length r.steps) || not (any_runs r.state)

-- it has fuel steps, or no stream of it runs
abbrev pub HasFinished : ℕ → Option RecordValue → Type 0
HasFinished fuel None = Unit {0}
HasFinished fuel (Some r) = has_finished fuel r ≡ true

-- its pairs are the processor's entries
abbrev pub HasEntries : List Entry → ℕ → Option RecordValue → Type 0
HasEntries history p None = Unit {0}
HasEntries history p (Some r) = r.pairs ≡ pairs_of p history

-- The same of parts.

-- the record of processor p is of the memory's image and of this processor
abbrev pub PartBelongs : PartsValue → ℕ → Type 0
PartBelongs parts p = Belongs parts.shared.image p (slice_get parts.records p)

-- the record of processor p is finished
abbrev pub PartHasFinished : PartsValue → ℕ → Type 0
PartHasFinished parts p = HasFinished parts.fuel (slice_get parts.records p)

-- the record of processor p has just its entries of the history
abbrev pub PartHasEntries : PartsValue → ℕ → Type 0
PartHasEntries parts p = HasEntries parts.shared.history p (slice_get parts.records p)

-- what a scan of all records finds: P fails at p, and at no lower number
pub record FailsFirst (P : ℕ → Type 0) (p : ℕ) : Type 0 where
  pub fails : P p → ⊥
  pub before : (q : ℕ) → q < p → P q

-- there is a record for each processor of the memory's image, and no other
pub record AllBelong (shared : SharedValue) (records : List RecordValue) : Type 0 where
  pub one_each : length records ≡ length shared.image.entries
  pub belongs : (p : ℕ) (r : RecordValue) → slice_get records p ≡ Some r → (r.image ≡ shared.image) × (r.number ≡ p)
  pub kept : (p : ℕ) (r : RecordValue) → slice_get records p ≡ Some r → IsKept r

-- each record's pairs are its processor's entries
abbrev pub AllHaveEntries : SharedValue → List RecordValue → Type 0
AllHaveEntries shared records =
    (p : ℕ) (r : RecordValue) → slice_get records p ≡ Some r → r.pairs ≡ pairs_of p shared.history
