-- The places that are left, told behind what is there, make all told.
use Rattle.std.proofs.Common.{◌-◌, List, length}
use Rattle.step_views.specs.declared.places.Change.{Change}
use Rattle.whole_runs.specs.PlaceLists.{each, word_places, AreTold}
use Rattle.whole_runs.proofs.differences.note_words.Given as goal

abbrev pub invariant-loop-index : goal.invariant-loop-index
invariant-loop-index g l =
    (new : List Change)
    → AreTold l.one.world l.other.world (each (length l.one.image.cells - l.index) l.index (word_places)) l.found.items new
    → AreTold l.one.world l.other.world (each (length l.one.image.cells) 0 (word_places)) l.fn.found.items new
