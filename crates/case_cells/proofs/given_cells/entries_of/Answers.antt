-- Where there is an entry, it is one more; there is one at each place below the number of processors.
use Rattle.std.proofs.Common.{◌∷◌, [], ◌++◌, ◌∙◌, ap, sym, rules}
use Rattle.case_cells.proofs.Entries.{one_more}
use Rattle.case_cells.proofs.given_cells.entries_of.Goals as goal
use Rattle.case_cells.proofs.given_cells.entries_of.Goals.{in-Some+in_ok-push, in_default}

pub loop-processor-preserved : goal.loop-processor-preserved
loop-processor-preserved c =
    let entries = c.args.image.now.entries in
    let processor = c.loop-processor.processor in
    elim c.match-entry.branch [
      | in-Some+in_ok-push w ↦ ap (λ v. v.items) w.entries-is ∙ w.in_ok-push.ensures.items
          ∙ ap (λ xs. xs ++ w.in-Some.entry ∷ []) c.loop-processor.invariant
          ∙ sym (one_more entries processor w.in-Some.entry (sym c.entry.ensures.is ∙ w.in-Some.is))
      | in_default w ↦ search rules
    ]
