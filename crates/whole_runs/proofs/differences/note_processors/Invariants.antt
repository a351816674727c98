-- The places that are left, told behind what is there, make all told.
use Rattle.std.proofs.Common.{◌-◌, List, length}
use Rattle.step_views.specs.declared.places.Change.{Change}
use Rattle.whole_runs.specs.PlaceLists.{each, processor_places, AreTold}
use Rattle.whole_runs.proofs.differences.note_processors.Given as goal

abbrev pub invariant-loop-p : goal.invariant-loop-p
invariant-loop-p g l =
    (new : List Change)
    → AreTold l.one.world l.other.world (each (length l.one.image.entries - l.p) l.p (processor_places l.one.image.slim)) l.found.items new
    → AreTold l.one.world l.other.world (each (length l.one.image.entries) 0 (processor_places l.one.image.slim)) l.fn.found.items new
