-- Comments that compare as the same are seen as the same.
use Rattle.std.proofs.Common.{◌≡◌, ℕ, Bool, true, false, List, [], ◌∷◌, refl, ap, ◌&&◌, eqb, eqb-true}
use Rattle.std.specs.Cmp.Lexicographic.{pointwise}
use Rattle.std.specs.Str.{bytes_eq}
use Rattle.std.proofs.lemmas.Bool.{and_parts}
use Rattle.std.proofs.lemmas.Slice.Eq.{bytes_eq-Decides}
use Rattle.source_layout.specs.Comments.{CommentValue}
use Rattle.source_layout.specs.CommentsSeen.{comment_seen, comments_seen}
use Rattle.source_layout.specs.declared.comments.Comment.{Comment}

abbrev pub same : Comment → Comment → Bool
same a b = eqb a.number b.number && bytes_eq a.bytes.now b.bytes.now

seen_as : (m n : ℕ) (xs ys : List ℕ) → m ≡ n → xs ≡ ys
    → ◌≡◌ {A = CommentValue} (record { number = m; bytes = xs }) (record { number = n; bytes = ys })
seen_as m n xs ys e f = cc

one_seen : (a b : Comment) → same a b ≡ true → comment_seen a ≡ comment_seen b
one_seen a b e =
    let parts = and_parts (eqb a.number b.number) (bytes_eq a.bytes.now b.bytes.now) e in
    seen_as a.number b.number a.bytes.now b.bytes.now (eqb-true a.number b.number parts.0)
    ((bytes_eq-Decides a.bytes.now b.bytes.now).0 parts.1)

pub same_seen : (xs ys : List Comment) → pointwise same xs ys ≡ true → comments_seen xs ≡ comments_seen ys
same_seen [] [] e = refl
same_seen [] (y ∷ ys) e = absurd cc
same_seen (x ∷ xs) [] e = absurd cc
same_seen (x ∷ xs) (y ∷ ys) e =
    let parts = and_parts (same x y) (pointwise same xs ys) e in
    let one = one_seen x y parts.0 in
    let others = same_seen xs ys parts.1 in
    cc
