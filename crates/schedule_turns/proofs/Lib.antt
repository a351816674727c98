pub mod TurnRuns
