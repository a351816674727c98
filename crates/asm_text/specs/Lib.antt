-- The definitions, in the order of reading. All of them are promises: clauses of public functions cite them.
pub mod Faults
pub mod Settings
pub mod Drafts
pub mod Limits
pub mod Sources
pub mod Runs
pub mod Listing
pub mod Laws
pub mod LabelLaws
pub mod FaultLaws
pub mod DataLaws
pub mod ProfileLaws
