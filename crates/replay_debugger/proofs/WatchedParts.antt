-- What is watched of a word, before and after.
use Rattle.std.proofs.Common.{◌≡◌, Bool, true, false, eqb, refl, sym, ap, ◌∙◌, Option, Some, None}
use Rattle.std.specs.Prelude.{not}
use Rattle.std.proofs.lemmas.Bool.{and_parts, eqb-true}
use Rattle.tag_memory.specs.Cell.{Cell, cell_of, tag_number}
use Rattle.image_file.specs.Same.{same_cell}
use Rattle.image_file.specs.SameLaws.{cell_of-tag_number}
use Rattle.replay_debugger.specs.Stops.{word_differs, tags_differ}
use Rattle.replay_debugger.specs.Watches.{watched_part}

-- of a word whose tags alone are watched these are all that can differ
pub tags_part : (c d : Option Cell) → tags_differ c d ≡ word_differs (watched_part true c) (watched_part true d)
tags_part None None = refl
tags_part None (Some d) = refl
tags_part (Some c) None = refl
tags_part (Some c) (Some d) = refl

same_is : (c d : Cell) → same_cell c d ≡ true → c ≡ d
same_is c d e =
    let p = and_parts (eqb c.value d.value) (eqb (tag_number c) (tag_number d)) e in
    let v = eqb-true c.value d.value p.0 in
    let t = eqb-true (tag_number c) (tag_number d) p.1 in
    sym (cell_of-tag_number c) ∙ (λ i. cell_of (v i) (t i)) ∙ cell_of-tag_number d

from_not : (b : Bool) → not b ≡ false → b ≡ true
from_not true e = refl
from_not false e = cc

-- words that do not differ are the same
pub no_difference : (c d : Option Cell) → word_differs c d ≡ false → c ≡ d
no_difference None None e = refl
no_difference None (Some d) e = cc
no_difference (Some c) None e = cc
no_difference (Some c) (Some d) e = ap (λ x. Some x) (same_is c d (from_not (same_cell c d) e))
