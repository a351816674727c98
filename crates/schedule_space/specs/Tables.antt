-- What a search knows of what streams may still ask for.
use Rattle.std.specs.Prelude.{ℕ, Bool, List, IsTrue}
use Rattle.insn_word.specs.declared.profiles.Profile.{Profile}
use Rattle.image_file.specs.ImageValue.{ImageValue}
use Rattle.program_flow.specs.Tables.{is_live_at, is_named_by}
use Rattle.world_keys.specs.DeadRegisters.Clearing.{LiveValue, IsLive}
use Rattle.touched_words.specs.TouchTables.{TouchValue}
use Rattle.first_sets.specs.UnreadLoads.{AreUnreadPlaces}
use Rattle.first_sets.specs.ApartSets.{AreTouchTables}

-- What is live in the image's program is known, and by the tables of its processors what streams may ask for from a place
-- on, and where nobody reads what is loaded.
pub record AreTablesOf (image : ImageValue) (l : LiveValue) (tables : List TouchValue) : Type 0 where
  pub live : IsLive image l
  pub tell : AreTouchTables (λ r. IsTrue (is_named_by l.names r)) (λ k r. IsTrue (is_live_at l.table k r)) image.profile
      image.program tables

-- of each marked place nobody reads what the instruction there loads, by what is live
abbrev pub AreUnreadBy : LiveValue → Profile → List ℕ → List Bool → Type 0
AreUnreadBy l = AreUnreadPlaces (λ r. IsTrue (is_named_by l.names r)) (λ k r. IsTrue (is_live_at l.table k r))
