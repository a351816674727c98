-- The places that are left, told behind what is there, make all told.
use Rattle.std.proofs.Common.{◌-◌, List}
use Rattle.step_views.specs.declared.places.Change.{Change}
use Rattle.whole_runs.specs.PlaceLists.{each, register_place, AreTold}
use Rattle.whole_runs.proofs.differences.note_registers.Given as goal

abbrev pub invariant-loop-number : goal.invariant-loop-number
invariant-loop-number g l =
    (new : List Change)
    → AreTold l.one.world l.other.world (each (32 - l.number) l.number (register_place l.p l.s)) l.found.items new
    → AreTold l.one.world l.other.world (each (32) 0 (register_place l.p l.s)) l.fn.found.items new
