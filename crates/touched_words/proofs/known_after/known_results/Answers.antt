use Rattle.std.proofs.Common.{sym, ◌∙◌}
use Rattle.touched_words.proofs.Writing.{arithmetic_known}
use Rattle.touched_words.proofs.known_after.known_results.Goals as goal

pub returns : goal.returns
returns c =
    arithmetic_known c.args.row.now c.args.a.now c.results.result c.in_ok-first.first c.in_ok-second.second
    (sym c.known_by.ensures ∙ c.in_ok-first.was) c.in_ok-second.ensures c.results.ensures
