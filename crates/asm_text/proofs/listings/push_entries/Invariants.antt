use Rattle.std.proofs.Common.{◌≡◌, ◌++◌, map, drop}
use Rattle.std.specs.Prelude.{string_bytes}
use Rattle.listing_line.specs.DirectiveLines.{entry_line}
use Rattle.asm_text.specs.Listing.{text_of_lines}
use Rattle.asm_text.proofs.listings.push_entries.Given as goal

abbrev pub invariant-loop-processor : goal.invariant-loop-processor
invariant-loop-processor l =
    string_bytes l.text ++ text_of_lines (map entry_line (drop l.processor l.image.entries))
    ≡ string_bytes l.initial.text ++ text_of_lines (map entry_line l.image.entries)
