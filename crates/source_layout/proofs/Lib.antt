pub mod ByLines
pub mod SameComments
