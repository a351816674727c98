use Rattle.std.proofs.Common.{◌≡◌, ◌*◌, ◌-◌, ◌≤◌, length}
use Rattle.std.specs.Prelude.{nat_le}
use Rattle.std.specs.List.{position_from}
use Rattle.image_file.specs.Parts.{entry_fault}
use Rattle.image_file.specs.Reading.{entries_from}
use Rattle.image_file.proofs.checking.entry_fault.Given as goal

abbrev pub invariant-loop-processor : goal.invariant-loop-processor
invariant-loop-processor l = record {
  room : 4 * (l.count - l.processor) ≤ length l.rest;
  sought : position_from (λ e. nat_le l.words e) l.processor (entries_from (l.count - l.processor) l.rest)
      ≡ entry_fault l.words (entries_from l.count l.bytes);
}
