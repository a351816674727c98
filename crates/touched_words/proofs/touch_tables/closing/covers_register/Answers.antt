use Rattle.std.proofs.Common.{sym, ◌∙◌}
use Rattle.touched_words.proofs.Writing.{within_known}
use Rattle.touched_words.proofs.touch_tables.closing.covers_register.Goals as goal

pub returns-in-Some : goal.returns-in-Some
returns-in-Some c =
    λ yes few same s value grant holds.
    within_known c.args.row.now c.args.insn.now c.args.register c.known_after.result c.in-Some.few few
    (sym c.in-Some.is ∙ same) c.known_after.ensures (c.is_within.ensures yes) s value grant holds
