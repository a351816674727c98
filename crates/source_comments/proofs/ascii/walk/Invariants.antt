-- What is taken so far, and what will be taken of the bytes that are left.
use Rattle.std.proofs.Common.{◌≡◌, false, ◌++◌, drop}
use Rattle.source_comments.specs.CommentWalk.{ascii_from}
use Rattle.source_comments.proofs.ascii.walk.Given as goal

abbrev pub invariant-loop-byte : goal.invariant-loop-byte
invariant-loop-byte l =
    l.ascii.items ++ ascii_from l.is_comment (drop l.byte-index l.text) ≡ ascii_from false l.text
