-- Each turn puts one word at its place.
use Rattle.std.proofs.Common.{◌≡◌, ◌≢◌, ◌+◌, ◌*◌, ◌<◌, length, get_or, ◌∙◌, ap, arith, below_more}
use Rattle.std.proofs.Common.{length-set, get_or-set_same, get_or-set_other}
use Rattle.std.proofs.lemmas.List.{length-replicate, get_or_read}
use Rattle.tag_memory.specs.Banks.{blank_cell, bank_count, bank_size}
use Rattle.tag_memory.proofs.BankCells.{every_eighth-all}
use Rattle.tag_memory.proofs.bank.Bank.every_eighth.Goals as goal

pub loop-place-init : goal.loop-place-init
loop-place-init c = (
  ap length (c.in_ok-bank.ensures) ∙ length-replicate _ blank_cell,
  λ q h. absurd (omega arith),
)

pub set-requires : goal.set-requires
set-requires c = omega (arith, c.loop-place.invariant.0)

pub loop-place-preserved : goal.loop-place-preserved
loop-place-preserved c =
    let old = c.loop-place.bank in
    let place = c.loop-place.place in
    let word = c.index-words-place.result in
    let within : place < length old = omega (arith, c.loop-place.invariant.0) in
    let within_words : place * 8 + c.args.first < length c.args.words.now = omega arith in
    let at : place * 8 + c.args.first ≡ bank_count * place + c.args.first = omega arith in (
      ap length c.set.ensures ∙ length-set old place word ∙ c.loop-place.invariant.0,
      below_more _ _
          (λ q h.
          let other : q ≢ place = λ e. omega (arith, e, h) in
          ap (λ b. get_or b q blank_cell) c.set.ensures
          ∙ get_or-set_other old place q word blank_cell other
          ∙ c.loop-place.invariant.1 q h)
          (ap (λ b. get_or b place blank_cell) c.set.ensures
          ∙ get_or-set_same old place word blank_cell within
          ∙ get_or_read c.args.words.now _ word within_words c.index-words-place.is blank_cell
          ∙ ap (λ k. get_or c.args.words.now k blank_cell) at),
    )

pub returns : goal.returns
returns c =
    let done : c.loop-place.place ≡ bank_size (length c.args.words.now) c.args.first = omega arith in
    every_eighth-all c.args.words.now c.loop-place.bank c.args.first c.loop-place.invariant.0
    (λ q h. c.loop-place.invariant.1 q (omega (arith, h, done)))
