use Rattle.std.proofs.Common.{◌≡◌, ◌+◌, ◌≤◌, ◌++◌, length, map}
use Rattle.std.specs.Option.{option_copied}
use Rattle.asm_line.specs.Labels.{places_of}
use Rattle.asm_line.specs.Lines.{line}
use Rattle.text_parts.specs.Pieces.{pieces, rest_pieces, rest_length}
use Rattle.source_places.specs.SourceLabels.{labels_from}
use Rattle.source_places.specs.SourcePlaces.{labels_seen}
use Rattle.source_places.proofs.walks.first_labels.Given as goal

abbrev pub invariant-loop-rest : goal.invariant-loop-rest
invariant-loop-rest l = record {
  labels : labels_seen l.labels.items
      ++ labels_from (places_of l.places) l.number (map line (rest_pieces 10 (option_copied l.rest)))
      ≡ labels_from (places_of l.places) 0 (map line (pieces 10 l.text));
  number : l.number + rest_length (option_copied l.rest) ≤ length l.text + 1;
}

abbrev pub decreases-loop-rest : goal.decreases-loop-rest
decreases-loop-rest l = rest_length (option_copied l.rest)
