-- The eight banks keep the words.
use Rattle.std.proofs.Common.{◌≢◌, ◌∙◌, ◌<◌, ap, arith, [], below_more, length, length-set}
use Rattle.std.proofs.Common.{get_or-set_same, get_or-set_other}
use Rattle.tag_memory.specs.Storage.{memory_with_chain}
use Rattle.tag_memory.proofs.BankedCells.{kept_eighths, banked_cells-eighths}
use Rattle.tag_memory.proofs.storage.Memory.with_chain.Goals as goal

pub loop-first-preserved : goal.loop-first-preserved
loop-first-preserved c =
    let banks = c.loop-first.banks in
    let first = c.loop-first.first in
    let bank = c.in_ok-banks.field-0 in
    let within : first < length banks = omega (arith, c.loop-first.invariant.eight) in record {
      eight = length-set banks first bank ∙ c.loop-first.invariant.eight;
      made = below_more _ _
          (λ k h.
          let other : k ≢ first = λ e. omega (arith, e, h) in
          get_or-set_other banks first k bank [] other ∙ c.loop-first.invariant.made k h)
          (get_or-set_same banks first bank [] within ∙ c.in_ok-banks.ensures);
    }

pub invariant_of-result : goal.invariant_of-result
invariant_of-result c =
    kept_eighths _ c.args.words.now c.args.limit c.loop-first.invariant.eight
    (λ k h. c.loop-first.invariant.made k (omega (arith, h)))
    (record { some = c.requires.some; few = c.requires.few; chain = c.requires.chain })

pub returns : goal.returns
returns c =
    ap (λ cells. memory_with_chain cells c.args.limit) (banked_cells-eighths _ c.args.words.now
    (λ k h. c.loop-first.invariant.made k (omega (arith, h))))
