use Rattle.std.proofs.Common.{◌≡◌, ◌*◌, ◌++◌, drop, string_bytes}
use Rattle.trace_text.specs.WorldTexts.{changes}
use Rattle.trace_text.proofs.world_texts.push_changes.Given as goal

-- the text so far and the words to come are the whole text
abbrev pub invariant-loop-cell : goal.invariant-loop-cell
invariant-loop-cell g l = record {
  address : l.address ≡ 8 * l.cell-index;
  whole : string_bytes l.text ++ changes l.cell-index (g.T.WorldReaders.world l.readers).memory (drop l.cell-index l.cells)
      ≡ string_bytes l.initial.text ++ changes 0 (g.T.WorldReaders.world l.readers).memory l.cells;
}
