-- The definitions, in the order of reading. What public contracts promise:
-- a processor, what holds of it, and how it begins
pub mod Processors
-- a step of one of its streams: the operation table
pub mod Row
-- what a step leaves as it is
pub mod OtherStreams
-- all processors over one memory, and the table folded over a schedule
pub mod World
-- what was asked of the memory, and the memory that it leaves
pub mod Histories
-- what a processor does by itself, given the replies
pub mod OwnSteps
-- a schedule that holds each processor's steps and makes a history
pub mod Weave
-- a processor beside the record of what it did
pub mod Records
-- whose turn it is
pub mod Turns
-- the steps of a record, kept as runs; of what is defined there contracts name `IsStreamRun` alone
pub mod StreamRuns
-- What only the code below the processor cites:
pub mod FetchForms
pub mod StreamTables
-- Of crates below, passed on to callers.
pub mod StreamCoreTypes
pub mod ImageFile
pub mod TagMemory
