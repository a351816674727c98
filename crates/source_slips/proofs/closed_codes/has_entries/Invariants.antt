use Rattle.std.proofs.Common.{◌≡◌, ℕ, ◌<◌, Some}
use Rattle.std.specs.Prelude.{slice_get}
use Rattle.source_slips.specs.Made.{Allows}
use Rattle.source_slips.proofs.closed_codes.has_entries.Given as goal

abbrev pub invariant-loop-processor : goal.invariant-loop-processor
invariant-loop-processor l =
    (p : ℕ) → p < l.processor → (e : ℕ) → slice_get l.image.entries p ≡ Some e → Allows l.table e 0
