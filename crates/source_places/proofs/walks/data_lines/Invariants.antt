use Rattle.std.proofs.Common.{◌≡◌, ◌+◌, ◌≤◌, ◌++◌, length}
use Rattle.std.specs.Option.{option_copied}
use Rattle.tag_memory.specs.Storage.{most_memory_words}
use Rattle.asm_line.specs.Labels.{places_of}
use Rattle.text_parts.specs.Pieces.{pieces, rest_pieces, rest_length}
use Rattle.source_places.specs.DataLines.{data_lines_from}
use Rattle.source_places.specs.SourcePlaces.{data_lines_seen}
use Rattle.source_places.proofs.walks.data_lines.Given as goal

abbrev pub invariant-loop-rest : goal.invariant-loop-rest
invariant-loop-rest l = record {
  found : data_lines_seen l.found.items
      ++ data_lines_from l.outline.profile (places_of l.outline.labels) l.outline.words l.number l.here l.first
      (rest_pieces 10 (option_copied l.rest))
      ≡ data_lines_from l.outline.profile (places_of l.outline.labels) l.outline.words 0 0 0 (pieces 10 l.text);
  few : l.first ≤ most_memory_words;
  here : l.here ≤ l.number;
  number : l.number + rest_length (option_copied l.rest) ≤ length l.text + 1;
}

abbrev pub decreases-loop-rest : goal.decreases-loop-rest
decreases-loop-rest l = rest_length (option_copied l.rest)
