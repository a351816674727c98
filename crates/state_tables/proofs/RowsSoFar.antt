-- Rows of the states of a space.
use Rattle.std.proofs.Common.{◌≡◌, ℕ, ◌+◌, sym, ◌∙◌, subst, List, [], ◌∷◌, ◌++◌, get_or}
use Rattle.std.specs.Prelude.{Vec}
use Rattle.std.specs.Global.{Global}
use Rattle.image_file.specs.ImageValue.{ImageValue}
use Rattle.processor.specs.World.{World}
use Rattle.machine.specs.MachineValue.{MachineValue}
use Rattle.dead_registers.specs.Clearing.{LiveValue, cleared}
use Rattle.dead_registers.proofs.Worlds.{cleared_agrees}
use Rattle.world_keys.specs.Tables.{Extends}
use Rattle.world_keys.specs.WorldKeys.{key_of, IsKnown}
use Rattle.world_keys.proofs.Worlds.{key_kept, known_kept}
use Rattle.schedule_space.specs.Spaces.{SpaceValue, count, schedule_of, world_of, machine_after, StandAlone}
use Rattle.state_tables.specs.Rows.{IsRow, IsRowIn, AreRows}
use Rattle.state_tables.proofs.Lists.{each_more, longer}

-- the row of a machine's world
pub row_from : (v : SpaceValue) (k : ℕ) (m : MachineValue) (live : LiveValue) (table : List (List ℕ)) (row : List ℕ)
    → m ≡ machine_after v.image (schedule_of v k) → live ≡ v.live → row ≡ key_of table m.image (cleared live m.world)
    → IsKnown table m.image (cleared live m.world) → IsRow v.image table (cleared v.live (world_of v k)) row
row_from v k m live table row at lives is known =
    let here : IsRow m.image table (cleared live m.world) row = record { is = is; known = known } in
    subst (λ (n : MachineValue). IsRow n.image table (cleared v.live n.world) row) at
    (subst (λ (l : LiveValue). IsRow m.image table (cleared l m.world) row) lives here)

row_kept : (image : ImageValue) (old new : List (List ℕ)) (w : World) (row : List ℕ) → Extends old new
    → IsRow image old w row → IsRow image new w row
row_kept image old new w row grown is = record {
  is = is.is ∙ sym (key_kept old new image w grown is.known);
  known = known_kept old new image w grown is.known;
}

-- one row more
pub rows_more : (image : ImageValue) (old new : List (List ℕ)) (world : ℕ → World) (n : ℕ) (rows : List (Vec ℕ Global))
    (row : Vec ℕ Global) → AreRows image old world n rows → Extends old new → IsRow image new (world n) row.items
    → AreRows image new world (n + 1) (rows ++ row ∷ [])
rows_more image old new world n rows row are grown here = record {
  many = longer rows row n are.many;
  each =
      each_more (λ k. IsRowIn image new (world k)) rows n row are.many
      (λ k below d. row_kept image old new (world k) (get_or rows k d).items grown (are.each k below d)) here;
}

-- where each state stands for itself alone, nothing was cleared
pub rows_alone : (v : SpaceValue) (table : List (List ℕ)) (rows : List (Vec ℕ Global)) → StandAlone v
    → AreRows v.image table (λ k. cleared v.live (world_of v k)) (count v) rows
    → AreRows v.image table (world_of v) (count v) rows
rows_alone v table rows alone are = record {
  many = are.many;
  each = λ k below d.
      let same : world_of v k ≡ cleared v.live (world_of v k) =
      alone k below (cleared v.live (world_of v k)) (cleared_agrees v.live (world_of v k)) in
      subst (λ (w : World). IsRow v.image table w (get_or rows k d).items) (sym same) (are.each k below d);
}
