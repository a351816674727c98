-- A value with the tags of its place is the word there.
use Rattle.std.proofs.Common.{◌≡◌, ◌∙◌, ap, arith, Some, slice_get, length, List, ◌/◌, ◌%◌, ◌≤◌, ◌<◌, get_or}
use Rattle.std.proofs.lemmas.List.{get_or_read}
use Rattle.tag_memory.specs.Cell.{Cell, cell_of}
use Rattle.tag_memory.specs.Banks.{element_tags}
use Rattle.tag_memory.proofs.BankCells.{element_within, slice_get-bank_cells, slice_get-bank_cells_past}
use Rattle.tag_memory.proofs.bank.Bank.get.Goals as goal

pub returns-in_err-value : goal.returns-in_err-value
returns-in_err-value c =
    let values = c.self.inside.values.items in
    let past : length values ≤ c.args.place =
    omega (arith, c.in_err-value.ensures.lookup.3, ap length c.deref.ensures.value) in
    c.from_residual.ensures
    ∙ slice_get-bank_cells_past values c.self.inside.tags.items c.args.place past
    ∙ ap (λ (b : List Cell). slice_get b c.args.place) c.self.view_is

pub returns : goal.returns
returns c =
    let values = c.self.inside.values.items in
    let tags = c.self.inside.tags.items in
    let place = c.args.place in
    let value = c.in_ok-value.field-0.now in
    let lookup = c.in_ok-value.ensures.lookup.3 in
    let within : place < length values = omega (arith, lookup.0, ap length c.deref.ensures.value) in
    let element : c.index-element.result.now ≡ get_or tags (place / 16) 0 =
    get_or_read tags _ c.index-element.result.now (element_within values tags place c.self.invariant within)
    c.index-element.ensures 0 in
    ap (λ (w : Cell). Some w) (c.new.ensures ∙ ap (cell_of value) (c.from_bits_retain.ensures tt))
    ∙ slice_get-bank_cells values tags place value c.element_tags-tags.result within
    (lookup.1 0 ∙ ap (λ vs. get_or vs place 0) c.deref.ensures.value)
    (c.element_tags-tags.ensures.is ∙ ap (λ e. element_tags e (place % 16)) element)
    ∙ ap (λ (b : List Cell). slice_get b place) c.self.view_is
