-- What a source text is whose comments are in ASCII, and a walk over its bytes that comes to it. The first is a promise:
-- clauses of public functions cite it.
pub mod AsciiComments
pub mod CommentWalk
