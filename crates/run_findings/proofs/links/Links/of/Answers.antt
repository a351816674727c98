use Rattle.std.proofs.Common.{◌≡◌, ◌+◌, ◌<◌, length, sym, subst, ap, ◌∙◌, arith}
use Rattle.run_findings.specs.Places.{last_before}
use Rattle.run_findings.specs.Links.{AreLinksSoFar, latest_of, latest_in, with_step, has_word, same_at, link_at, word_at}
use Rattle.run_findings.specs.declared.parting.Meeting.TheVariants as meeting
use Rattle.run_findings.proofs.Words.{latest_more, same_made, same_within, count_more, links_more, links_all}
use Rattle.run_findings.proofs.links.Links.of.Goals as goal

pub link_by-write-requires-clause-within : goal.link_by-write-requires-clause-within
link_by-write-requires-clause-within c =
    let ds = c.args.actions.now in
    let step = c.loop-step.step in
    let inside : step < length ds = omega arith in
    let count = c.loop-step.invariant.writes_count in
    let shown = ap length c.deref.ensures.value in
    same_within ds step (length c.deref.result.now) (word_at ds step) c.in_ok-same.same (omega (arith, count, shown))
    (c.in_ok-same.ensures.before ∙ ap (latest_in c.loop-step.latest) c.word_of.ensures
    ∙ same_made ds step step _ c.loop-step.latest inside c.loop-step.invariant.latest)

pub link_by-read-requires-clause-within : goal.link_by-read-requires-clause-within
link_by-read-requires-clause-within c =
    let ds = c.args.actions.now in
    let step = c.loop-step.step in
    let inside : step < length ds = omega arith in
    let count = c.loop-step.invariant.reads_count in
    let shown = ap length c.deref-in-loop-step.ensures.value in
    same_within ds step (length c.deref-in-loop-step.result.now) (word_at ds step) c.in_ok-same.same (omega (arith, count, shown))
    (c.in_ok-same.ensures.before ∙ ap (latest_in c.loop-step.latest) c.word_of.ensures
    ∙ same_made ds step step _ c.loop-step.latest inside c.loop-step.invariant.latest)

pub loop-step-preserved : goal.loop-step-preserved
loop-step-preserved c =
    let ds = c.args.actions.now in
    let step = c.loop-step.step in
    let latest = c.loop-step.latest in
    let writes = c.loop-step.writes.items in
    let reads = c.loop-step.reads.items in
    let within : step < length ds = omega arith in
    let same : c.in_ok-same.same ≡ same_at ds step =
    c.in_ok-same.ensures.before ∙ ap (latest_in latest) c.word_of.ensures
    ∙ same_made ds step step _ latest within c.loop-step.invariant.latest in
    let write : c.link_by-write.result ≡ link_at meeting.Writes ds step = c.link_by-write.ensures step (word_at ds step) same in
    let read : c.link_by-read.result ≡ link_at meeting.Reads ds step = c.link_by-read.ensures step (word_at ds step) same in
    let writes_count = c.loop-step.invariant.writes_count in
    let reads_count = c.loop-step.invariant.reads_count in
    record {
      writes_count = ap length c.in_ok-push.ensures.items ∙ count_more writes step _ writes_count;
      writes = subst (AreLinksSoFar meeting.Writes ds) (sym c.in_ok-push.ensures.items)
          (links_more meeting.Writes ds writes step _ writes_count within c.loop-step.invariant.writes write);
      reads_count = ap length c.in_ok-push-2.ensures.items ∙ count_more reads step _ reads_count;
      reads = subst (AreLinksSoFar meeting.Reads ds) (sym c.in_ok-push-2.ensures.items)
          (links_more meeting.Reads ds reads step _ reads_count within c.loop-step.invariant.reads read);
      latest = λ a.
          c.in_ok-same.ensures.noted a
          ∙ ap (λ w. with_step a w step (latest_of latest a)) c.word_of.ensures
          ∙ latest_more ds step (step + 1) a _ (latest_of latest a) (omega arith) within
          (c.loop-step.invariant.latest a);
    }

pub returns : goal.returns
returns c =
    let ds = c.args.actions.now in
    let all : c.loop-step.step ≡ length ds = omega arith in
    record {
      writes = links_all meeting.Writes ds _ (c.loop-step.invariant.writes_count ∙ all) c.loop-step.invariant.writes;
      reads = links_all meeting.Reads ds _ (c.loop-step.invariant.reads_count ∙ all) c.loop-step.invariant.reads;
      latest = λ a. c.loop-step.invariant.latest a ∙ ap (last_before (has_word a) ds) all;
    }
