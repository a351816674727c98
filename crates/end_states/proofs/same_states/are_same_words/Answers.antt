use Rattle.std.proofs.lemmas.Slice.Eq.{slice_eq-Decides}
use Rattle.end_states.proofs.EqualTests.{Decides-changed_word}
use Rattle.end_states.proofs.same_states.are_same_words.Goals as goal

pub returns : goal.returns
returns c = slice_eq-Decides Decides-changed_word _ _ _ c.eq.ensures
