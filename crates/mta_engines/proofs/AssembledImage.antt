-- What a text is assembled to is the image that it means.
use Rattle.std.proofs.Common.{◌≡◌, ◌∙◌, ℕ, List, Result, Ok, Err, sym}
use Rattle.std.specs.Prelude.{MatchResult}
use Rattle.image_file.specs.ImageValue.{ImageValue}
use Rattle.asm_text.specs.Sources.{Means, HasFault}
use Rattle.asm_text.specs.declared.fault.AsmFault.{AsmFault}

pub assembled_as : (text : List ℕ) (image : ImageValue) (r : Result ImageValue AsmFault)
    → MatchResult r (Means text) (HasFault text) → Means text image → r ≡ Ok image
assembled_as text image (Ok i) told means = sym told ∙ means
assembled_as text image (Err e) told means =
    let no : ◌≡◌ {A = Result ImageValue AsmFault} (Err e) (Ok image) = sym told ∙ means in absurd cc

pub means_as : (text : List ℕ) (image : ImageValue) (r : Result ImageValue AsmFault)
    → MatchResult r (Means text) (HasFault text) → r ≡ Ok image → Means text image
means_as text image (Ok i) told is = told ∙ is
means_as text image (Err e) told is = absurd cc
