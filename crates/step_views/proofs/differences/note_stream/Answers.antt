use Rattle.std.proofs.Common.{◌++◌}
use Rattle.step_views.specs.Comparing.{part_entries, state_parts, register_parts, target_parts, stream_entries}
use Rattle.step_views.proofs.Entries.{kept_join}
use Rattle.step_views.proofs.differences.note_stream.Goals as goal

pub returns-clause-kept : goal.returns-clause-kept
unfolding stream_entries
returns-clause-kept c =
    let b = c.args.before.now in
    let a = c.args.after.now in
    let states = part_entries c.args.p c.args.s b a state_parts in
    let registers = part_entries c.args.p c.args.s b a (register_parts 32 0) in
    let targets = part_entries c.args.p c.args.s b a (target_parts 8 0) in
    let old = c.args.changes.now.items in
    let mid = c.note_registers.new.changes.items in
    kept_join (states ++ registers) targets old mid c.note_targets.new.changes.items
    (kept_join states registers old c.note_states.new.changes.items mid c.note_states.ensures.kept
    c.note_registers.ensures.kept)
    c.note_targets.ensures.kept
