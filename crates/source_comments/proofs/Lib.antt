pub mod SameLines
