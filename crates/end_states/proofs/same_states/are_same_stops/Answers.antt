use Rattle.std.proofs.lemmas.Slice.Eq.{slice_eq-Decides}
use Rattle.end_states.proofs.EqualTests.{Decides-trap_stop}
use Rattle.end_states.proofs.same_states.are_same_stops.Goals as goal

pub returns : goal.returns
returns c = slice_eq-Decides Decides-trap_stop _ _ _ c.eq.ensures
