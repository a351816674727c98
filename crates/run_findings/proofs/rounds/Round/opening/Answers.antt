use Rattle.std.proofs.Common.{◌<◌, sym, ap, ◌∙◌, arith}
use Rattle.std.proofs.lemmas.Option.{slice_get-get_or}
use Rattle.run_findings.specs.Actions.{is_by}
use Rattle.run_findings.specs.Places.{passes}
use Rattle.run_findings.proofs.Parted.{parted_before, parted_by_news}
use Rattle.run_findings.proofs.rounds.Round.opening.Goals as goal

pub returns-then-closes-clause-parted : goal.returns-then-closes-clause-parted
returns-then-closes-clause-parted c a k n low high =
    let s = c.args.self in
    parted_before c.args.actions.now s.way s.stream s.word c.args.step n high (sym c.closes.ensures ∙ c.if-closes.true) a
    k low

pub returns-clause-parted : goal.returns-clause-parted
returns-clause-parted c a k n low high =
    let s = c.args.self in
    let ds = c.args.actions.now in
    let before : k < c.args.step = omega arith in
    parted_by_news ds s.way s.stream a s.word k c.args.step n before high
    (ap (passes (is_by s.stream)) (slice_get-get_or ds c.args.step _ c.requires.step_in)
    ∙ sym c.is_by.ensures
    ∙ c.if-not-is_by.false)
    (c.last_news.ensures.news k low)
