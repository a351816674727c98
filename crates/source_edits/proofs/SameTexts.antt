-- What is known of a text is known of one that is the same.
use Rattle.std.proofs.Common.{◌≡◌, ℕ, List, sym, ◌∙◌, ap, subst}
use Rattle.source_layout.specs.Comments.{comments_of}
use Rattle.source_layout.specs.SameMeaning.{MeanOneImage}

pub image_of_same : (made text other : List ℕ) → made ≡ text → MeanOneImage text other → MeanOneImage made other
image_of_same made text other same means = subst (λ t. MeanOneImage t other) (sym same) means

pub comments_of_same : (made text other : List ℕ) → made ≡ text → comments_of text ≡ comments_of other
    → comments_of made ≡ comments_of other
comments_of_same made text other same comments = ap comments_of same ∙ comments
