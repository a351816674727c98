-- which messages are responses, and to which requests
pub mod Responses
-- what is answered before a program is launched
pub mod Greetings
