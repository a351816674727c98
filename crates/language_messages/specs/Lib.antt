-- which messages are responses, and to which requests
pub mod Responses
-- the numbers of errors
pub mod Numbers
