-- The value and the tags of the place are written.
use Rattle.std.proofs.Common.{◌≡◌, ◌/◌, List, get_or, set, arith, ◌∙◌, ap}
use Rattle.std.proofs.lemmas.List.{get_or_read}
use Rattle.tag_memory.specs.Cell.{Cell}
use Rattle.tag_memory.specs.Banks.{element_tags}
use Rattle.tag_memory.proofs.BankCells.{element_within, bank_cells-set, packed-set, within_bank}
use Rattle.tag_memory.proofs.bank.Bank.set.Goals as goal

pub index_mut-requires : goal.index_mut-requires
index_mut-requires c =
    let values = c.self.inside.values.items in
    let tags = c.self.inside.tags.items in
    let h = within_bank values tags _ c.args.place c.self.view_is c.requires in
    omega (arith, h, c.self.inside.values.ok.0)

pub index-requires : goal.index-requires
index-requires c =
    let values = c.self.inside.values.items in
    let tags = c.self.inside.tags.items in
    let h = within_bank values tags _ c.args.place c.self.view_is c.requires in
    let e = element_within values tags c.args.place c.self.invariant h in
    omega (arith, e, c.self.inside.tags.ok.0)

pub index_mut-requires-2 : goal.index_mut-requires-2
index_mut-requires-2 c =
    let values = c.self.inside.values.items in
    let tags = c.self.inside.tags.items in
    let h = within_bank values tags _ c.args.place c.self.view_is c.requires in
    let e = element_within values tags c.args.place c.self.invariant h in
    omega (arith, e, c.self.inside.tags.ok.0)

pub invariant_of-self : goal.invariant_of-self
invariant_of-self c =
    let values = c.self.inside.values.items in
    let tags = c.self.inside.tags.items in
    let h = within_bank values tags _ c.args.place c.self.view_is c.requires in
    let e = element_within values tags c.args.place c.self.invariant h in
    let read : c.index.result.now ≡ get_or tags (c.args.place / 16) 0 =
    get_or_read tags _ c.index.result.now e c.index.ensures 0 in
    packed-set values tags c.args.place c.value.result c.with_element_tags-packed.result c.self.invariant h
    (λ j small other.
    c.with_element_tags-packed.ensures.others j small other ∙ ap (λ x. element_tags x j) read)

pub returns : goal.returns
returns c =
    let values = c.self.inside.values.items in
    let tags = c.self.inside.tags.items in
    let h = within_bank values tags _ c.args.place c.self.view_is c.requires in
    let e = element_within values tags c.args.place c.self.invariant h in
    let read : c.index.result.now ≡ get_or tags (c.args.place / 16) 0 =
    get_or_read tags _ c.index.result.now e c.index.ensures 0 in
    bank_cells-set values tags c.args.place c.value.result c.with_element_tags-packed.result c.tag_number.result
    c.args.word c.self.invariant h c.value.ensures c.tag_number.ensures c.with_element_tags-packed.ensures.here
    (λ j small other.
    c.with_element_tags-packed.ensures.others j small other ∙ ap (λ x. element_tags x j) read)
    ∙ ap (λ (b : List Cell). set b c.args.place c.args.word) c.self.view_is
