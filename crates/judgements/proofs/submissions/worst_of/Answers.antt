use Rattle.std.proofs.Common.{◌≡◌, ◌∙◌, ap, length, refl, sym, arith}
use Rattle.std.proofs.lemmas.Option.{slice_get_read, slice_get_within}
use Rattle.judgements.specs.Severity.{severity_of}
use Rattle.judgements.specs.declared.case_judgements.CaseJudgement.{CaseJudgement}
use Rattle.judgements.proofs.Worst.{first_one, newer, older}
use Rattle.judgements.proofs.submissions.worst_of.Goals.{then-severity-most, else-severity-most}
use Rattle.judgements.proofs.submissions.worst_of.Goals as goal

pub loop-place-init : goal.loop-place-init
loop-place-init c =
    let cases = c.args.cases.now in
    let x = c.index-cases-0.result in
    first_one cases c.severity-most.result x
    (slice_get_read cases (length cases) 0 x refl c.requires c.index-cases-0.is)
    (ap (λ (v : CaseJudgement). severity_of v.kind) c.index-cases-0.is ∙ sym c.severity-most.ensures)

pub loop-place-preserved : goal.loop-place-preserved
loop-place-preserved c =
    let cases = c.args.cases.now in
    let place = c.loop-place.place in
    let x = c.index-cases-place.result in
    let there = slice_get_read cases (length cases) place x refl c.loop-place-test.true c.index-cases-place.is in
    let severe : severity_of x.kind ≡ c.severity-severity.result =
    ap (λ (v : CaseJudgement). severity_of v.kind) c.index-cases-place.is ∙ sym c.severity-severity.ensures in
    elim c.if-severity-most.branch [
      | then-severity-most w ↦ rw w.worst-is (rw w.most-is (newer cases c.loop-place.worst c.loop-place.most place
          c.severity-severity.result x c.loop-place.invariant there severe w.if-severity-most.true))
      | else-severity-most w ↦ rw w.worst-is (rw w.most-is (older cases c.loop-place.worst c.loop-place.most place
          c.severity-severity.result x c.loop-place.invariant there severe w.if-severity-most.false))
    ]

pub returns : goal.returns
returns c =
    let cases = c.args.cases.now in
    let before = c.loop-place.invariant in
    record {
      worst = before.worst;
      there = before.there;
      most = λ k j read.
          let within = slice_get_within cases k j read in
          let less = before.each k (omega (arith, within, c.loop-place-test.false)) j read in
          omega (arith, less, before.severe);
      first = λ k j read earlier.
          let less = before.first k earlier j read in
          omega (arith, less, before.severe);
    }
