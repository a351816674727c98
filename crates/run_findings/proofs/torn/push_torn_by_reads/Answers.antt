use Rattle.std.proofs.Common.{◌+◌, ◌++◌, get_or, take, sym, ap, ◌∙◌, arith, append_assoc}
use Rattle.run_findings.specs.Found.{list_of}
use Rattle.run_findings.specs.TornReads.{torn_by_read}
use Rattle.run_findings.specs.Stale.{found_in}
use Rattle.run_findings.proofs.Looks.{in_more}
use Rattle.run_findings.proofs.torn.push_torn_by_reads.Goals as goal

pub loop-look-preserved : goal.loop-look-preserved
loop-look-preserved c =
    let at = torn_by_read c.args.actions.now c.args.glimpse.now c.args.stale c.args.write in
    let before = c.args.found.now.items in
    let looks = c.args.looks.now in
    let i = c.loop-look.look-index in
    let so_far = found_in at (take i looks) in
    let here = list_of (at (get_or looks i 0)) in
    c.in_ok-push_torn_by_read.ensures
    ∙ ap (λ x. x ++ here) c.loop-look.invariant
    ∙ append_assoc before so_far here
    ∙ ap (λ x. before ++ x) (sym (in_more at looks i (i + 1) 0 (omega arith) c.loop-look-test.true))
