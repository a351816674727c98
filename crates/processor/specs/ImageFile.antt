-- Definitions of image_file that callers name, passed on.
pub use Rattle.image_file.specs.ImageValue
