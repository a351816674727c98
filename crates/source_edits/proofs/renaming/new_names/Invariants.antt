-- The edits so far are as many as the places that were looked at, and each has the new name.
use Rattle.std.proofs.Common.{◌≡◌, length}
use Rattle.std.specs.List.{All}
use Rattle.editor_texts.specs.declared.edits.TextEdit.{TextEdit}
use Rattle.source_edits.proofs.renaming.new_names.Given as goal

abbrev pub invariant-loop-place : goal.invariant-loop-place
invariant-loop-place l =
    (length l.edits.items ≡ l.place-index) × All (λ (e : TextEdit). e.text.items ≡ l.new) l.edits.items
