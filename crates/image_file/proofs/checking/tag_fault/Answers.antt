use Rattle.std.proofs.Common.{◌≡◌, true, false, arith, ap, ◌∙◌, length-drop}
use Rattle.std.specs.Prelude.{nat_le}
use Rattle.std.proofs.lemmas.Bool.Decides.{nat_tests}
use Rattle.image_file.specs.Fields.{number_of_bytes}
use Rattle.image_file.specs.Reading.{tag_byte, tag_fault, tags_from}
use Rattle.image_file.proofs.Loops.{search_begins, search_stops, search_goes_on, search_ends}
use Rattle.image_file.proofs.checking.tag_fault.Goals as goal

pub loop-cell-init : goal.loop-cell-init
loop-cell-init c = record {
  room = omega arith;
  sought = search_begins (λ t. nat_le 16 t) 9 tag_byte c.args.count c.args.bytes.now;
}

pub returns-then-u8_of-gt15-clause-is : goal.returns-then-u8_of-gt15-clause-is
returns-then-u8_of-gt15-clause-is c =
    let is : c.u8_of.result ≡ tag_byte c.loop-cell.rest.now =
    c.u8_of.ensures ∙ ap (number_of_bytes 1) c.from_place.ensures in
    let fits : nat_le 16 (tag_byte c.loop-cell.rest.now) ≡ true = grind (arith, nat_tests) in
    search_stops (λ t. nat_le 16 t) 9 tag_byte c.args.count c.loop-cell.cell c.loop-cell.rest.now
    (tag_fault (tags_from c.args.count c.args.bytes.now)) c.loop-cell-test.true fits c.loop-cell.invariant.sought

pub loop-cell-preserved : goal.loop-cell-preserved
loop-cell-preserved c =
    let is : c.u8_of.result ≡ tag_byte c.loop-cell.rest.now =
    c.u8_of.ensures ∙ ap (number_of_bytes 1) c.from_place.ensures in
    let passes : nat_le 16 (tag_byte c.loop-cell.rest.now) ≡ false = grind (arith, nat_tests) in
    record {
      room = rw c.from_place-rest.ensures (omega (arith, length-drop 9 c.loop-cell.rest.now));
      sought = rw c.from_place-rest.ensures
          (search_goes_on (λ t. nat_le 16 t) 9 tag_byte c.args.count c.loop-cell.cell c.loop-cell.rest.now
          (tag_fault (tags_from c.args.count c.args.bytes.now)) c.loop-cell-test.true passes
          c.loop-cell.invariant.sought);
    }

pub returns-clause-is : goal.returns-clause-is
returns-clause-is c =
    search_ends (λ t. nat_le 16 t) 9 tag_byte c.args.count c.loop-cell.cell c.loop-cell.rest.now
    (tag_fault (tags_from c.args.count c.args.bytes.now)) c.loop-cell-test.false c.loop-cell.invariant.sought
