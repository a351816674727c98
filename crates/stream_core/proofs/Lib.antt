pub mod Finishing
pub mod ShortSteps
pub mod SignedShifts
pub mod StatusDigits
pub mod TextLines
