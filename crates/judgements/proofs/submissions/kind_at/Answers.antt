use Rattle.std.proofs.Common.{length, refl, ap, sym}
use Rattle.std.proofs.lemmas.Option.{slice_get_read}
use Rattle.judgements.specs.declared.case_judgements.CaseJudgement.{CaseJudgement}
use Rattle.judgements.proofs.submissions.kind_at.Goals as goal

pub returns : goal.returns
returns c =
    let cases = c.args.cases.now in
    let x = c.index-cases-place.result in (
      x,
      slice_get_read cases (length cases) c.args.place x refl c.requires c.index-cases-place.is,
      ap (λ (v : CaseJudgement). v.kind) (sym c.index-cases-place.is),
    )
