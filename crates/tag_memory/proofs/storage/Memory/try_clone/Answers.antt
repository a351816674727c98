-- The banks' clones are the banks.
use Rattle.std.proofs.Common.{◌∙◌, sym, ap, subst, List, []}
use Rattle.tag_memory.specs.Cell.{Cell}
use Rattle.tag_memory.specs.Storage.{IsWithinLimits, memory_with_chain}
use Rattle.tag_memory.specs.Banks.{banked_cells, AreBanks}
use Rattle.tag_memory.proofs.BankedCells.{same_banks}
use Rattle.tag_memory.proofs.storage.Memory.try_clone.Goals as goal

pub invariant_of-result : goal.invariant_of-result
invariant_of-result c =
    let n = c.self.inside.len in
    let clones = c.in_ok-clone.ensures.cases in
    subst
    (λ (banks : List (List Cell)).
    IsWithinLimits (memory_with_chain (banked_cells banks n) c.self.inside.chain_limit) × AreBanks banks n)
    (sym (same_banks c.self.inside.banks _ c.self.invariant.1.eight clones.long (λ k h. clones.at k [] [] h)))
    c.self.invariant

pub returns : goal.returns
returns c =
    let n = c.self.inside.len in
    let clones = c.in_ok-clone.ensures.cases in
    ap (λ (banks : List (List Cell)). memory_with_chain (banked_cells banks n) c.self.inside.chain_limit)
    (same_banks c.self.inside.banks _ c.self.invariant.1.eight clones.long (λ k h. clones.at k [] [] h))
    ∙ c.self.view_is
