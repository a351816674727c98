use Rattle.std.proofs.Common.{◌≡◌, ◌*◌, ◌-◌, ◌≤◌, ◌++◌, length}
use Rattle.image_file.specs.Reading.{entries_from}
use Rattle.image_file.proofs.reading.entries_of.Given as goal

abbrev pub invariant-loop : goal.invariant-loop
invariant-loop l = record {
  room : 4 * (l.count - l.counter) ≤ length l.rest;
  filled : l.entries.items ++ entries_from (l.count - l.counter) l.rest ≡ entries_from l.count l.bytes;
}
