use Rattle.std.proofs.Common.{arith, length-drop}
use Rattle.image_file.specs.Fields.{number_of_bytes}
use Rattle.image_file.specs.Reading.{program_from}
use Rattle.image_file.proofs.Loops.{fill_goes_on, fill_ends}
use Rattle.image_file.proofs.reading.program_of.Goals as goal

pub loop-preserved : goal.loop-preserved
loop-preserved c = record {
  room = rw c.from_place-rest.ensures (omega (arith, length-drop 8 c.loop.rest.now));
  filled = rw (c.in_ok-push.ensures.items, c.from_place-rest.ensures)
      (fill_goes_on 8 (number_of_bytes 8) c.args.count c.loop.counter c.loop.rest.now c.u64_of.result c.loop.program.items
      (program_from c.args.count c.args.bytes.now) c.loop-test.true c.u64_of.ensures c.loop.invariant.filled);
}

pub returns : goal.returns
returns c =
    fill_ends 8 (number_of_bytes 8) c.args.count c.loop.counter c.loop.rest.now c.loop.program.items
    (program_from c.args.count c.args.bytes.now) c.loop-test.false c.loop.invariant.filled
