use Rattle.std.proofs.Common.{◌≡◌, length, sym, subst, ap, ◌∙◌, arith}
use Rattle.run_findings.specs.Links.{AreLinksSoFar, latest_in, same_to, word_at}
use Rattle.run_findings.specs.declared.parting.Meeting.TheVariants as meeting
use Rattle.run_findings.proofs.Words.{same_made, same_within, all_links}
use Rattle.run_findings.proofs.links.Links.last_write.Goals as goal

pub link_by-requires-clause-within : goal.link_by-requires-clause-within
link_by-requires-clause-within c =
    let ds = c.args.actions.now in
    let links = c.requires.linked in
    let count = links.writes.count in
    let last : c.before-last.result ≡ same_to ds (length ds) (word_at ds c.args.step) =
    c.before-last.ensures ∙ ap (latest_in c.args.self.now.latest) c.word_of.ensures
    ∙ same_made ds (length ds) c.args.step _ c.args.self.now.latest c.requires.step_in links.latest in
    let shown = ap length c.deref.ensures.value in
    same_within ds (length ds) (length c.deref.result.now) (word_at ds c.args.step) c.before-last.result
    (omega (arith, count, shown)) last

pub link_by-requires-clause-links : goal.link_by-requires-clause-links
link_by-requires-clause-links c =
    subst (AreLinksSoFar meeting.Writes c.args.actions.now) (sym c.deref.ensures.value)
    (all_links meeting.Writes c.args.actions.now c.args.self.now.writes.items c.requires.linked.writes)

pub returns : goal.returns
returns c =
    let ds = c.args.actions.now in
    c.link_by.ensures (length ds) (word_at ds c.args.step)
    (c.before-last.ensures ∙ ap (latest_in c.args.self.now.latest) c.word_of.ensures
    ∙ same_made ds (length ds) c.args.step _ c.args.self.now.latest c.requires.step_in c.requires.linked.latest)
