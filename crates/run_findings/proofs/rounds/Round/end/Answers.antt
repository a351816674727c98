use Rattle.std.proofs.Common.{sym, ◌∙◌, arith}
use Rattle.run_findings.proofs.Parted.{parted_behind}
use Rattle.run_findings.proofs.rounds.Round.end.Goals as goal

pub returns-then-is_parted_by-clause-parted : goal.returns-then-is_parted_by-clause-parted
returns-then-is_parted_by-clause-parted c a k low high =
    let s = c.args.self in
    parted_behind c.args.actions.now s.way s.stream s.word c.loop-step.step c.args.place (omega arith)
    (sym c.is_parted_by.ensures ∙ c.if-is_parted_by.true) a k (omega arith)
