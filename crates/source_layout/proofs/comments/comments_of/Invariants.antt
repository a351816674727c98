use Rattle.std.proofs.Common.{◌≡◌, ◌+◌, ◌≤◌, ◌++◌, length}
use Rattle.std.specs.Option.{option_copied}
use Rattle.text_parts.specs.Pieces.{rest_pieces, rest_length}
use Rattle.source_layout.specs.Comments.{comments_from, comments_of}
use Rattle.source_layout.specs.CommentsSeen.{comments_seen}
use Rattle.source_layout.proofs.comments.comments_of.Given as goal

abbrev pub invariant-loop-rest : goal.invariant-loop-rest
invariant-loop-rest l = record {
  comments : comments_seen l.comments.items ++ comments_from l.number (rest_pieces 10 (option_copied l.rest))
      ≡ comments_of l.text;
  number : l.number + rest_length (option_copied l.rest) ≤ length l.text + 1;
}

abbrev pub decreases-loop-rest : goal.decreases-loop-rest
decreases-loop-rest l = rest_length (option_copied l.rest)
