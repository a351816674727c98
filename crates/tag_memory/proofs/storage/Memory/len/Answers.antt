-- The banks keep so many words.
use Rattle.std.proofs.Common.{◌∙◌, sym, ap, length}
use Rattle.tag_memory.specs.Storage.{TaggedMemory}
use Rattle.tag_memory.proofs.BankedCells.{length-banked_cells}
use Rattle.tag_memory.proofs.storage.Memory.len.Goals as goal

pub returns-clause-is : goal.returns-clause-is
returns-clause-is c =
    sym (length-banked_cells c.self.inside.banks c.self.inside.len)
    ∙ ap (λ (m : TaggedMemory). length m.cells) c.self.view_is
