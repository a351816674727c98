use Rattle.judgements.proofs.ReadCases.{with_status}
use Rattle.judgements.proofs.by_case.judged_by_case.Goals as goal

pub returns-clause-known : goal.returns-clause-known
returns-clause-known g c =
    with_status c.args.asked c.args.submission.image.now c.args.submission.text.now c.args.case.now c.in_ok-known.known
    c.with_status.result c.in_ok-known.ensures.known c.with_status.ensures.kind c.with_status.ensures.known
    c.with_status.ensures.reason c.with_status.ensures.ends c.with_status.ensures.status
    c.with_status.ensures.exact c.in_ok-known.ensures.status
