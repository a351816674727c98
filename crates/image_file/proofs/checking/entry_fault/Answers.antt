use Rattle.std.proofs.Common.{◌≡◌, true, false, arith, length-drop}
use Rattle.std.specs.Prelude.{nat_le}
use Rattle.std.proofs.lemmas.Bool.Decides.{nat_tests}
use Rattle.image_file.specs.Fields.{number_of_bytes}
use Rattle.image_file.specs.Parts.{entry_fault}
use Rattle.image_file.specs.Reading.{entries_from}
use Rattle.image_file.proofs.Loops.{search_begins, search_stops, search_goes_on, search_ends}
use Rattle.image_file.proofs.checking.entry_fault.Goals as goal

pub loop-processor-init : goal.loop-processor-init
loop-processor-init c = record {
  room = omega arith;
  sought = search_begins (λ e. nat_le c.args.words e) 4 (number_of_bytes 4) c.args.count c.args.bytes.now;
}

pub returns-then-u32_of-words-clause-is : goal.returns-then-u32_of-words-clause-is
returns-then-u32_of-words-clause-is c =
    let fits : nat_le c.args.words (number_of_bytes 4 c.loop-processor.rest.now) ≡ true =
    grind (arith, nat_tests, c.u32_of.ensures) in
    search_stops (λ e. nat_le c.args.words e) 4 (number_of_bytes 4) c.args.count c.loop-processor.processor
    c.loop-processor.rest.now (entry_fault c.args.words (entries_from c.args.count c.args.bytes.now))
    c.loop-processor-test.true fits c.loop-processor.invariant.sought

pub loop-processor-preserved : goal.loop-processor-preserved
loop-processor-preserved c =
    let passes : nat_le c.args.words (number_of_bytes 4 c.loop-processor.rest.now) ≡ false =
    grind (arith, nat_tests, c.u32_of.ensures) in
    record {
      room = rw c.from_place-rest.ensures (omega (arith, length-drop 4 c.loop-processor.rest.now));
      sought = rw c.from_place-rest.ensures
          (search_goes_on (λ e. nat_le c.args.words e) 4 (number_of_bytes 4) c.args.count c.loop-processor.processor
          c.loop-processor.rest.now (entry_fault c.args.words (entries_from c.args.count c.args.bytes.now))
          c.loop-processor-test.true passes c.loop-processor.invariant.sought);
    }

pub returns-clause-is : goal.returns-clause-is
returns-clause-is c =
    search_ends (λ e. nat_le c.args.words e) 4 (number_of_bytes 4) c.args.count c.loop-processor.processor
    c.loop-processor.rest.now (entry_fault c.args.words (entries_from c.args.count c.args.bytes.now))
    c.loop-processor-test.false c.loop-processor.invariant.sought
