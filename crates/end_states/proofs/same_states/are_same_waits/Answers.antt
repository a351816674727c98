use Rattle.std.proofs.lemmas.Slice.Eq.{slice_eq-Decides}
use Rattle.end_states.proofs.EqualTests.{Decides-waiting_stream}
use Rattle.end_states.proofs.same_states.are_same_waits.Goals as goal

pub returns : goal.returns
returns c = slice_eq-Decides Decides-waiting_stream _ _ _ c.eq.ensures
