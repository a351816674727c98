-- where streams stand in a text
pub mod CodePlaces
-- which steps filled or emptied a word
pub mod WordTurns
-- other positions, and the last step
pub mod LastSteps
