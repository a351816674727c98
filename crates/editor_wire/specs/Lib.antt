-- texts in JSON
pub mod JsonStrings
-- messages as bytes
pub mod Wire
