use Rattle.std.proofs.Common.{◌≡◌, ◌<◌, ◌∙◌, ℕ, zero, suc, List, [], ◌∷◌, length, drop, Some, refl, sym, arith}
use Rattle.case_cells.specs.SpokenWords.{first_other}
use Rattle.case_cells.specs.declared.named_words.WordPlaces.{WordPlaces}
use Rattle.case_cells.specs.declared.line_words.SpokenWords.{SpokenWords}
use Rattle.case_cells.proofs.line_words.first_other.Goals as goal

none_left : (places : List WordPlaces) (k i : ℕ) (given own : List SpokenWords) → length own < 1 → i < length given
    → first_other places k (drop i given) own ≡ Some k
none_left places k i [] own short within = absurd (omega (arith, within))
none_left places k i (g ∷ gs) (o ∷ os) short within = absurd (omega (arith, short))
none_left places k zero (g ∷ gs) [] short within = refl
none_left places k (suc i) (g ∷ gs) [] short within = none_left places k i gs [] short (omega (arith, within))

pub returns-in-empty : goal.returns-in-empty
returns-in-empty c =
    sym (none_left c.args.places.now c.loop-words.place c.loop-words.words-index c.args.given.now c.loop-words.rest.now
    c.in-empty.len_below c.loop-words-test.true)
    ∙ c.loop-words.invariant.rest
