-- The cases so far are judged, one judgement each.
use Rattle.std.proofs.Common.{◌≡◌, length}
use Rattle.judgements.specs.Verdicts.{AreJudgedBefore}
use Rattle.judgements.proofs.submissions.judged_submission.Given as goal

abbrev pub invariant-loop-place : goal.invariant-loop-place
invariant-loop-place g l =
    (length l.judged.items ≡ l.place)
    × AreJudgedBefore l.asked l.submission.image.now l.submission.text.now l.cases l.judged.items l.place
