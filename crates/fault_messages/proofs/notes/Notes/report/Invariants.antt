use Rattle.std.proofs.Common.{◌≡◌, ◌&&◌, ◌||◌, nat_lt, length}
use Rattle.fault_messages.specs.Messages.{is_error, has_error}
use Rattle.fault_messages.proofs.notes.Notes.report.Given as goal

abbrev pub invariant-loop-one : goal.invariant-loop-one
invariant-loop-one l =
    has_error l.messages.items
    ≡ (has_error l.initial.messages.items || (is_error l.severity && nat_lt 0 (length l.yielded)))
