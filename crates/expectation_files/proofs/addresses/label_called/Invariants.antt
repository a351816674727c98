use Rattle.std.proofs.Common.{◌≡◌, drop, find}
use Rattle.source_places.specs.SourcePlaces.{labels_seen}
use Rattle.expectation_files.specs.Addresses.{has_label}
use Rattle.expectation_files.proofs.addresses.label_called.Given as goal

-- none of those before is the one
abbrev pub invariant-loop-label : goal.invariant-loop-label
invariant-loop-label l =
    find (has_label l.text) (labels_seen (drop l.label-index l.labels)) ≡ find (has_label l.text) (labels_seen l.labels)
