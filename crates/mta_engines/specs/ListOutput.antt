-- What the command `list` writes for the bytes of an image.
use Rattle.std.specs.Prelude.{◌≡◌, ℕ, List}
use Rattle.image_file.specs.ImageValue.{ImageValue}
use Rattle.asm_text.specs.Listing.{listing}
use Rattle.mta_engines.specs.Images.{IsImageOf}

-- the listing of the image that they stand for
pub record IsListOutput (bytes output : List ℕ) : Type 0 where
  pub image : ImageValue
  pub image_is : IsImageOf bytes image
  pub text : output ≡ listing image
