use Rattle.std.proofs.Common.{◌≡◌, ◌*◌, ◌-◌, ◌≤◌, ◌++◌, length, None}
use Rattle.std.specs.Prelude.{nat_le}
use Rattle.std.specs.List.{position_from}
use Rattle.image_file.specs.Reading.{cells_from, tags_from}
use Rattle.image_file.proofs.reading.cells_of.Given as goal

abbrev pub invariant-loop : goal.invariant-loop
invariant-loop l = record {
  room : 9 * (l.count - l.counter) ≤ length l.rest;
  sound : position_from (λ t. nat_le 16 t) l.counter (tags_from (l.count - l.counter) l.rest) ≡ None;
  filled : l.cells.items ++ cells_from (l.count - l.counter) l.rest ≡ cells_from l.count l.bytes;
}
