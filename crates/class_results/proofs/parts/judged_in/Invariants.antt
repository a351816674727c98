-- The submissions so far that are judged, with those from the place on, are all that are.
use Rattle.std.proofs.Common.{◌≡◌, ◌++◌, drop, map}
use Rattle.class_results.specs.OneCall.{judged_from, judged_in}
use Rattle.class_results.proofs.parts.judged_in.Given as goal

abbrev pub invariant-loop-place : goal.invariant-loop-place
invariant-loop-place l =
    l.judged.items ++ map (λ s. s.submission) (judged_from l.part l.place (drop l.place l.class)) ≡ judged_in l.part l.class
