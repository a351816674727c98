use Rattle.std.proofs.Common.{◌≡◌, ◌≤◌, ◌++◌, drop, length}
use Rattle.editor_texts.specs.Edits.{edited, edits_seen, are_apart}
use Rattle.editor_texts.proofs.edits.edited.Given as goal

-- what is made so far and what the edits make that are left; these stand apart if all do
abbrev pub invariant-loop-edit : goal.invariant-loop-edit
invariant-loop-edit l =
    (l.out.items ++ edited l.place l.text (edits_seen (drop l.edit-index l.edits)) ≡ edited 0 l.text (edits_seen l.edits))
    × (are_apart l.place (length l.text) (edits_seen (drop l.edit-index l.edits))
    ≡ are_apart 0 (length l.text) (edits_seen l.edits))
    × (l.place ≤ length l.text)
