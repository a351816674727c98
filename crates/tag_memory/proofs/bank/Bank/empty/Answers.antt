-- Empty lists are no words.
use Rattle.std.proofs.Common.{◌∙◌, sym, ap, subst₂, refl, List, [], ℕ}
use Rattle.tag_memory.specs.Banks.{bank_cells, IsPacked}
use Rattle.tag_memory.proofs.BankCells.{bank_cells-zeros, packed-zeros}
use Rattle.tag_memory.proofs.bank.Bank.empty.Goals as goal

pub invariant_of-result : goal.invariant_of-result
invariant_of-result c =
    subst₂ (λ (vs ts : List ℕ). IsPacked vs ts) (sym c.new.ensures.items) (sym c.new-2.ensures.items)
    (packed-zeros 0 0 refl)

pub returns : goal.returns
returns c =
    ap (λ (vs : List ℕ). bank_cells vs c.new-2.result.items) c.new.ensures.items
    ∙ ap (λ (ts : List ℕ). bank_cells [] ts) c.new-2.ensures.items
    ∙ bank_cells-zeros 0 0
