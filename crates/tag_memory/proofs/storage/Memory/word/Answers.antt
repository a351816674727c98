-- The bank has the memory's word at its place.
use Rattle.std.proofs.Common.{◌/◌, ◌%◌, ◌==◌, ◌∙◌, sym, ap, arith, [], slice_get, None, if◌then◌else◌}
use Rattle.std.proofs.lemmas.List.{get_or_default}
use Rattle.tag_memory.specs.Storage.{TaggedMemory, cell_at}
use Rattle.tag_memory.specs.Banks.{banked_cells}
use Rattle.tag_memory.proofs.BankedCells.{slice_get-banked_cells}
use Rattle.tag_memory.proofs.storage.Memory.word.Goals as goal

pub returns : goal.returns
returns c =
    let banks = c.self.inside.banks in
    let n = c.self.inside.len in
    let w = c.args.address / 8 in
    let stands = get_or_default banks (w % 8) c.index-self-word.result [] (omega (arith, c.self.told)) in
    c.get.ensures
    ∙ slice_get-banked_cells banks n w _ c.self.invariant.1 stands
    ∙ sym (ap (λ r. if r == 0 then slice_get (banked_cells banks n) w else None) c.if-address-ne0.false)
    ∙ ap (λ (m : TaggedMemory). cell_at m c.args.address) c.self.view_is
