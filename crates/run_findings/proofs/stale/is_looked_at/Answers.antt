use Rattle.std.proofs.Common.{◌+◌, ◌<◌, ◌++◌, length, get_or, sym, ap, ◌∙◌, arith}
use Rattle.run_findings.specs.Found.{list_of}
use Rattle.run_findings.specs.TornReads.{torn_by_read, is_load_of}
use Rattle.run_findings.proofs.Looks.{in_more, unloaded}
use Rattle.run_findings.proofs.stale.is_looked_at.Goals as goal

pub loop-look-preserved : goal.loop-look-preserved
loop-look-preserved c g k =
    let ds = c.args.actions.now in
    let a = c.args.word in
    let looks = c.args.looks.now in
    let i = c.loop-look.look-index in
    let look = get_or looks i 0 in
    let below : i < length looks = c.loop-look-test.true in
    in_more (torn_by_read ds g a k) looks i (i + 1) 0 (omega arith) below
    ∙ ap (λ x. x ++ list_of (torn_by_read ds g a k look)) (c.loop-look.invariant g k)
    ∙ ap list_of (unloaded ds g a k look _ (c.requires.looks_in i 0 below)
    (ap (λ w. is_load_of w a) (sym c.word_loaded.ensures) ∙ sym c.is_load_of.ensures ∙ c.if-is_load_of.false))
