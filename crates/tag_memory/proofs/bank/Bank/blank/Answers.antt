-- Lists of zeros are blank words.
use Rattle.std.proofs.Common.{◌≡◌, ℕ, ◌+◌, ◌/◌, List, sym, ◌∙◌, ap, subst₂, refl, replicate}
use Rattle.tag_memory.specs.Banks.{bank_cells, IsPacked}
use Rattle.tag_memory.proofs.BankCells.{bank_cells-zeros, packed-zeros}
use Rattle.tag_memory.proofs.bank.Bank.blank.Goals as goal

pub invariant_of-result : goal.invariant_of-result
invariant_of-result c =
    let values : c.in_ok-values.values.items ≡ replicate c.args.places 0 =
    c.in_ok-values.ensures.items_if_clones_equal (λ y e. e) in
    let tags : c.in_ok-tags.tags.items ≡ replicate ((c.args.places + 15) / 16) 0 =
    c.in_ok-tags.ensures.items_if_clones_equal (λ y e. e) in
    subst₂ (λ (vs ts : List ℕ). IsPacked vs ts) (sym values) (sym tags) (packed-zeros c.args.places _ refl)

pub returns : goal.returns
returns c =
    let values : c.in_ok-values.values.items ≡ replicate c.args.places 0 =
    c.in_ok-values.ensures.items_if_clones_equal (λ y e. e) in
    let tags : c.in_ok-tags.tags.items ≡ replicate ((c.args.places + 15) / 16) 0 =
    c.in_ok-tags.ensures.items_if_clones_equal (λ y e. e) in
    ap (λ (vs : List ℕ). bank_cells vs c.in_ok-tags.tags.items) values
    ∙ ap (λ (ts : List ℕ). bank_cells (replicate c.args.places 0) ts) tags
    ∙ bank_cells-zeros c.args.places _
