use Rattle.std.proofs.Common.{◌≡◌, ◌*◌, ◌-◌, ◌≤◌, ◌++◌, length}
use Rattle.image_file.specs.Reading.{program_from}
use Rattle.image_file.proofs.reading.program_of.Given as goal

abbrev pub invariant-loop : goal.invariant-loop
invariant-loop l = record {
  room : 8 * (l.count - l.counter) ≤ length l.rest;
  filled : l.program.items ++ program_from (l.count - l.counter) l.rest ≡ program_from l.count l.bytes;
}
