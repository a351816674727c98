-- The records so far are new ones of the first processors.
use Rattle.std.proofs.Common.{◌≡◌, ℕ, length, Some}
use Rattle.std.specs.Prelude.{slice_get}
use Rattle.processor.specs.Records.{RecordValue}
use Rattle.shared_history.specs.Parts.{IsNewRecord}
use Rattle.shared_history.proofs.parts.Parts.new.Given as goal

abbrev pub invariant-loop-number : goal.invariant-loop-number
invariant-loop-number g l =
    (length l.records.items ≡ l.number)
    × ((p : ℕ) (r : RecordValue) → slice_get l.records.items p ≡ Some r → IsNewRecord l.image p l.fuel r)
