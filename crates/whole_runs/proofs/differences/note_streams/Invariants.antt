-- The places that are left, told behind what is there, make all told.
use Rattle.std.proofs.Common.{◌-◌, List}
use Rattle.step_views.specs.declared.places.Change.{Change}
use Rattle.whole_runs.specs.PlaceLists.{each, stream_places, AreTold}
use Rattle.whole_runs.proofs.differences.note_streams.Given as goal

abbrev pub invariant-loop-s : goal.invariant-loop-s
invariant-loop-s g l =
    (new : List Change)
    → AreTold l.one.world l.other.world (each (l.one.image.slim - l.s) l.s (stream_places l.p)) l.found.items new
    → AreTold l.one.world l.other.world (each (l.one.image.slim) 0 (stream_places l.p)) l.fn.found.items new
