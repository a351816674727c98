-- When two source texts mean the same image, and which comments a text has. Both are promises: the clauses of the public
-- function cite them.
pub mod SameMeaning
pub mod Comments
-- What only the code below them cites:
pub mod CommentsSeen
