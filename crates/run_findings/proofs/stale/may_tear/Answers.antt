use Rattle.std.proofs.Common.{sym, ◌∙◌}
use Rattle.std.proofs.lemmas.Option.{slice_get-get_or}
use Rattle.run_findings.proofs.Looks.{none_by_change, none_by_looks}
use Rattle.run_findings.proofs.stale.may_tear.Goals as goal

pub returns-in-Some : goal.returns-in-Some
returns-in-Some c none g are =
    let ds = c.args.actions.now in
    let k = c.args.write in
    none_by_looks ds g c.args.looks.now k c.in-Some.word _ (slice_get-get_or ds k _ c.requires.write_in)
    (sym c.word_changed.ensures ∙ c.in-Some.is) are (c.is_looked_at.ensures none g k)

pub returns-in-None : goal.returns-in-None
returns-in-None c none g are =
    let ds = c.args.actions.now in
    let k = c.args.write in
    none_by_change ds g k _ (slice_get-get_or ds k _ c.requires.write_in) (sym c.word_changed.ensures ∙ c.in-None.is)
