-- Tables of codes.
use Rattle.std.proofs.Common.{◌≡◌, ℕ, ◌≤◌, ◌<◌, inl, inr, sym, subst, List, Option, Some, length}
use Rattle.std.specs.Prelude.{slice_get}
use Rattle.std.proofs.lemmas.Bool.{cases_lt}
use Rattle.std.proofs.lemmas.Option.{slice_get_past}
use Rattle.insn_word.specs.declared.operations.ControlOp.{ControlOp}
use Rattle.insn_word.specs.declared.insn.CPart.{CPart}
use Rattle.image_file.specs.ImageValue.{ImageValue}
use Rattle.stream_core.specs.Effects.{next_pc}
use Rattle.source_slips.specs.Places.{GoesStraightBy}
use Rattle.source_slips.specs.Made.{Allows, AllowsAny, IsAimed, GoesByTarget, Starts, Returns, SetsHandler, ControlLeads, IsClosedTable}
use Rattle.source_slips.specs.Made.{most_of, most_at, LeadsWhere}

pub control_leads : (table : List (Option ℕ)) (anywhere : Option ℕ) (k n : ℕ) (c : CPart) (o : ControlOp)
    → ((j : ℕ) → GoesStraightBy o c k j → Allows table j n) → (GoesByTarget o → AllowsAny anywhere n)
    → (Starts o → AllowsAny anywhere 0) → (Returns o → IsAimed table anywhere (next_pc k)) → (SetsHandler o c → ⊥)
    → ControlLeads table anywhere k n c o
control_leads table anywhere k n c o straight jumps starts returns handler =
    record { straight = straight; jumps = jumps; starts = starts; returns = returns; handler = handler }

pub closed_table : (image : ImageValue) (table : List (Option ℕ)) (anywhere : Option ℕ)
    → length table ≡ length image.program → length table ≤ image.trap_entry → IsAimed table anywhere 0
    → ((p e : ℕ) → slice_get image.entries p ≡ Some e → Allows table e 0)
    → ((k : ℕ) → LeadsWhere image table anywhere k (most_at table k))
    → IsClosedTable image table anywhere
closed_table image table anywhere size handler unset begins each =
    record { size = size; begins = begins; handler = handler; unset = unset; each = each }

-- past the table's end nothing is asked
pub all_lead : (image : ImageValue) (table : List (Option ℕ)) (anywhere : Option ℕ)
    → ((k : ℕ) → k < length table → LeadsWhere image table anywhere k (most_at table k))
    → (k : ℕ) → LeadsWhere image table anywhere k (most_at table k)
all_lead image table anywhere each k = elim (cases_lt k (length table)) [
  | inl within ↦ each k within
  | inr past ↦ subst (λ o. LeadsWhere image table anywhere k (most_of o)) (sym (slice_get_past table k past)) tt
]
