-- The promises, in the order of reading: clauses of public functions cite them.
pub mod Cell
pub mod Address
pub mod Storage
pub mod Access
pub mod Chain
pub mod Answer
pub mod Distant
pub mod Unforwarded
pub mod ReadRequests
pub mod Adds
-- The aids: how the words are kept, which only the storage knows;
pub mod Banks
-- and a proof on which the model of a word rests, since a model can take none from proofs/.
pub mod TagNumber
