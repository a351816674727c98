-- A word of a bank written is that word of the memory written.
use Rattle.std.proofs.Common.{◌≡◌, ℕ, ◌/◌, ◌%◌, ◌<◌, ◌∙◌, sym, ap, subst, arith, List, [], length, set}
use Rattle.std.proofs.lemmas.List.{get_or_default}
use Rattle.tag_memory.specs.Cell.{Cell}
use Rattle.tag_memory.specs.Storage.{TaggedMemory, IsWithinLimits, memory_with_chain, with_cell}
use Rattle.tag_memory.specs.Banks.{banked_cells, AreBanks}
use Rattle.tag_memory.proofs.BankedCells.{length-banked_cells, within_cells, within_eighth, banked_cells-set}
use Rattle.tag_memory.proofs.BankedCells.{are_banks-set, within_limits-kept}
use Rattle.tag_memory.proofs.storage.Memory.set_word.Goals as goal

-- the word's place, by what stands there
within_memory : (banks : List (List Cell)) (n limit a : ℕ) (m : TaggedMemory)
    → memory_with_chain (banked_cells banks n) limit ≡ m → a / 8 < length m.cells → a / 8 < n
within_memory banks n limit a m same h =
    omega (arith, h, ap (λ (x : TaggedMemory). length x.cells) same, length-banked_cells banks n)

pub set-requires : goal.set-requires
set-requires c =
    let banks = c.self.inside.banks in
    let n = c.self.inside.len in
    let a = c.args.address in
    let are = c.self.invariant.1 in
    let stands_at = within_cells c.args.self.now.cells a c.requires in
    let within = within_memory banks n c.self.inside.chain_limit a c.args.self.now c.self.view_is stands_at in
    let stands = get_or_default banks (a / 8 % 8) c.index-self-place.result [] (omega (arith, are.eight)) in
    within_eighth banks n (a / 8) _ are stands within

pub invariant_of-self : goal.invariant_of-self
invariant_of-self c =
    let banks = c.self.inside.banks in
    let n = c.self.inside.len in
    let w = c.args.address / 8 in
    let limit = c.self.inside.chain_limit in
    let are = c.self.invariant.1 in
    let stands = get_or_default banks (w % 8) c.index-self-place.result [] (omega (arith, are.eight)) in
    subst
    (λ (b : List Cell).
    IsWithinLimits (memory_with_chain (banked_cells (set banks (w % 8) b) n) limit)
    × AreBanks (set banks (w % 8) b) n)
    (sym c.set.ensures)
    (within_limits-kept banks _ n limit c.self.invariant.0, are_banks-set banks n w _ c.args.word are stands)

pub returns : goal.returns
returns c =
    let banks = c.self.inside.banks in
    let n = c.self.inside.len in
    let a = c.args.address in
    let are = c.self.invariant.1 in
    let stands_at = within_cells c.args.self.now.cells a c.requires in
    let within = within_memory banks n c.self.inside.chain_limit a c.args.self.now c.self.view_is stands_at in
    let stands = get_or_default banks (a / 8 % 8) c.index-self-place.result [] (omega (arith, are.eight)) in
    subst
    (λ (b : List Cell).
    memory_with_chain (banked_cells (set banks (a / 8 % 8) b) n) c.self.inside.chain_limit
    ≡ with_cell c.args.self.now a c.args.word)
    (sym c.set.ensures)
    (ap (λ cells. memory_with_chain cells c.self.inside.chain_limit) (banked_cells-set banks n (a / 8) _ c.args.word are stands within)
    ∙ ap (λ (m : TaggedMemory). with_cell m a c.args.word) c.self.view_is)
