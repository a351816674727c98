-- The first half of the headline: assembler, loader, lister and debugger give the same machine.
use Rattle.std.specs.Prelude.{◌≡◌, ◌↔◌, ℕ, List, take, Result, Ok}
use Rattle.image_file.specs.ImageValue.{ImageValue}
use Rattle.image_file.specs.Spelling.{Stands}
use Rattle.processor.specs.World.{start, run}
use Rattle.processor.specs.declared.steps.Step.{Step}
use Rattle.asm_text.specs.Sources.{Means}
use Rattle.asm_text.specs.Listing.{listing}
use Rattle.asm_text.specs.declared.fault.AsmFault.{AsmFault}
use Rattle.machine.specs.MachineValue.{MachineValue}
use Rattle.replay_debugger.specs.Sessions.{SessionValue, session_at_start}

-- bytes stand for this image, and for no other
pub record StandForJust (bytes : List ℕ) (image : ImageValue) : Type 0 where
  pub stand : Stands bytes image
  pub no_other : (other : ImageValue) → Stands bytes other → other ≡ image

-- A text is assembled to an image exactly where it means it. The image's bytes stand for it, and for no other, and are
-- read as it. Its listing means it, and is assembled to it. Loading it gives its world. A schedule takes that world
-- through the operation table's fold. The debugger, gone to position k, shows the machine of the image whose world is
-- the fold of the first k steps.
pub record IsOneMachine (text : List ℕ) (image : ImageValue) (schedule : List Step) (k : ℕ)
    (assembled : Result ImageValue AsmFault) (read listed : ImageValue) (bytes listing_text : List ℕ)
    (loaded after : MachineValue) (session : SessionValue) (shown : MachineValue) : Type 0 where
  pub assembled_is : Means text image ↔ (assembled ≡ Ok image)
  pub bytes_are : StandForJust bytes image
  pub read_is : read ≡ image
  pub listing_is : listing_text ≡ listing image
  pub listing_means : Means listing_text image
  pub listed_is : listed ≡ image
  pub loaded_is : loaded ≡ record { image = image; world = start image }
  pub after_is : after ≡ record { image = image; world = run image schedule }
  pub session_is : session ≡ record (session_at_start image schedule) { position = k }
  pub shown_is : shown ≡ record { image = image; world = run image (take k schedule) }
