use Rattle.std.proofs.Common.{◌≡◌, ◌*◌, ◌-◌, ◌≤◌, length}
use Rattle.std.specs.Prelude.{nat_le}
use Rattle.std.specs.List.{position_from}
use Rattle.image_file.specs.Reading.{tags_from, tag_fault}
use Rattle.image_file.proofs.checking.tag_fault.Given as goal

abbrev pub invariant-loop-cell : goal.invariant-loop-cell
invariant-loop-cell l = record {
  room : 9 * (l.count - l.cell) ≤ length l.rest;
  sought : position_from (λ t. nat_le 16 t) l.cell (tags_from (l.count - l.cell) l.rest)
      ≡ tag_fault (tags_from l.count l.bytes);
}
