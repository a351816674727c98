use Rattle.std.proofs.Common.{◌≡◌, true, None}
use Rattle.std.proofs.Common.{arith, ap, ◌∙◌, length-drop}
use Rattle.std.specs.Prelude.{nat_le, nat_lt}
use Rattle.std.proofs.lemmas.Bool.Decides.{nat_tests}
use Rattle.tag_memory.specs.Cell.{cell_of}
use Rattle.image_file.specs.Fields.{number_of_bytes}
use Rattle.image_file.specs.Reading.{tag_byte, cell_from, cells_from}
use Rattle.image_file.proofs.Loops.{nothing_read, fill_goes_on, fill_ends, search_begins, search_goes_on}
use Rattle.image_file.proofs.Loops.{search_finds_none}
use Rattle.image_file.proofs.reading.cells_of.Goals as goal

pub loop-init : goal.loop-init
loop-init c =
    let none = search_begins (λ t. nat_le 16 t) 9 tag_byte c.args.count c.args.bytes.now ∙ c.requires.tags in
    record {
      room = omega (arith, c.requires.long);
      sound = none;
      filled =
          rw c.in_ok-cells.ensures.items (nothing_read 9 cell_from c.args.count c.args.bytes.now);
    }

pub unreachable-requires : goal.unreachable-requires
unreachable-requires c =
    let sound =
    search_finds_none (λ t. nat_le 16 t) 9 tag_byte c.args.count c.loop.counter c.loop.rest.now c.loop-test.true
    c.loop.invariant.sound in
    let is : c.u8_of.result ≡ tag_byte c.loop.rest.now = c.u8_of.ensures ∙ ap (number_of_bytes 1) c.from_place.ensures in
    let below : nat_lt c.u8_of.result 16 ≡ true = grind (arith, nat_tests) in
    let none = rw below at c.from_number.ensures in
    c.in_default.not-Some (cell_of c.u64_of.result c.u8_of.result) none

pub loop-preserved : goal.loop-preserved
loop-preserved c =
    let sound =
    search_finds_none (λ t. nat_le 16 t) 9 tag_byte c.args.count c.loop.counter c.loop.rest.now c.loop-test.true
    c.loop.invariant.sound in
    let is : c.u8_of.result ≡ tag_byte c.loop.rest.now = c.u8_of.ensures ∙ ap (number_of_bytes 1) c.from_place.ensures in
    let below : nat_lt c.u8_of.result 16 ≡ true = grind (arith, nat_tests) in
    let some = rw below at c.from_number.ensures in
    let made : c.in-Some.cell ≡ cell_of c.u64_of.result c.u8_of.result = cc (some, c.in-Some.is) in
    let cell : c.in-Some.cell ≡ cell_from c.loop.rest.now = made ∙ (λ i. cell_of (c.u64_of.ensures i) (is i)) in
    record {
      room = rw c.from_place-rest.ensures (omega (arith, length-drop 9 c.loop.rest.now));
      sound = rw c.from_place-rest.ensures
          (search_goes_on (λ t. nat_le 16 t) 9 tag_byte c.args.count c.loop.counter c.loop.rest.now None
          c.loop-test.true sound c.loop.invariant.sound);
      filled = rw (c.in_ok-push.ensures.items, c.from_place-rest.ensures)
          (fill_goes_on 9 cell_from c.args.count c.loop.counter c.loop.rest.now c.in-Some.cell c.loop.cells.items
          (cells_from c.args.count c.args.bytes.now) c.loop-test.true cell c.loop.invariant.filled);
    }

pub returns : goal.returns
returns c =
    fill_ends 9 cell_from c.args.count c.loop.counter c.loop.rest.now c.loop.cells.items
    (cells_from c.args.count c.args.bytes.now) c.loop-test.false c.loop.invariant.filled
