-- What is kept of the parts that are left makes what is kept of all.
use Rattle.std.proofs.Common.{◌+◌, ◌-◌, ◌≤◌, List, vec_len, vec_capacity}
use Rattle.step_views.specs.declared.places.Change.{Change}
use Rattle.step_views.specs.Comparing.{register_parts}
use Rattle.step_views.proofs.Parts.{ArePartsKept}
use Rattle.step_views.proofs.differences.note_registers.Given as goal

abbrev pub invariant-loop-number : goal.invariant-loop-number
invariant-loop-number l = record {
  left : (new : List Change)
      → ArePartsKept l.p l.s l.before l.after (register_parts (32 - l.number) l.number) l.changes.items new
      → ArePartsKept l.p l.s l.before l.after (register_parts 32 0) l.fn.changes.items new;
  few : vec_len l.changes ≤ vec_len l.fn.changes + l.number;
  capacity : vec_capacity l.fn.changes ≤ vec_capacity l.changes;
}
