use Rattle.std.proofs.Common.{arith, length-drop}
use Rattle.image_file.proofs.checking.body_fault.Goals as goal

pub entry_fault-requires : goal.entry_fault-requires
entry_fault-requires c = rw c.from_place-entries.ensures (omega (arith, length-drop c.entries_place.result c.args.bytes.now))
