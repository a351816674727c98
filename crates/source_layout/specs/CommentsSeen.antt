-- What the code has of comments.
use Rattle.std.specs.Prelude.{List, map}
use Rattle.source_layout.specs.Comments.{CommentValue}
use Rattle.source_layout.specs.declared.comments.Comment.{Comment}

abbrev pub comment_seen : Comment → CommentValue
comment_seen c = record { number = c.number; bytes = c.bytes.now }

abbrev pub comments_seen : List Comment → List CommentValue
comments_seen cs = map comment_seen cs
