use Rattle.std.proofs.Common.{arith, length-drop}
use Rattle.image_file.specs.Fields.{number_of_bytes}
use Rattle.image_file.specs.Reading.{entries_from}
use Rattle.image_file.proofs.Loops.{fill_goes_on, fill_ends}
use Rattle.image_file.proofs.reading.entries_of.Goals as goal

pub loop-preserved : goal.loop-preserved
loop-preserved c = record {
  room = rw c.from_place-rest.ensures (omega (arith, length-drop 4 c.loop.rest.now));
  filled = rw (c.in_ok-push.ensures.items, c.from_place-rest.ensures)
      (fill_goes_on 4 (number_of_bytes 4) c.args.count c.loop.counter c.loop.rest.now c.u32_of.result c.loop.entries.items
      (entries_from c.args.count c.args.bytes.now) c.loop-test.true c.u32_of.ensures c.loop.invariant.filled);
}

pub returns : goal.returns
returns c =
    fill_ends 4 (number_of_bytes 4) c.args.count c.loop.counter c.loop.rest.now c.loop.entries.items
    (entries_from c.args.count c.args.bytes.now) c.loop-test.false c.loop.invariant.filled
