-- those so far mend the text, and stand apart
use Rattle.std.proofs.Common.{length}
use Rattle.std.specs.Prelude.{IsTrue}
use Rattle.std.specs.List.{All}
use Rattle.editor_texts.specs.Edits.{edited, edits_seen, are_apart}
use Rattle.source_fixes.specs.Mending.{Mends}
use Rattle.source_fixes.proofs.finder.mending_among.Given as goal

abbrev pub invariant-loop-fix : goal.invariant-loop-fix
invariant-loop-fix l = record {
  mend : All (λ f. Mends l.severity l.before (edited 0 l.text (edits_seen f.edits.items))) l.fixes.items;
  apart : All (λ f. IsTrue (are_apart 0 (length l.text) (edits_seen f.edits.items))) l.fixes.items;
}
