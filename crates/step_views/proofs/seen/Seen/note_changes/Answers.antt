use Rattle.std.proofs.Common.{◌++◌, subst}
use Rattle.machine.specs.Processor.World.{counts_of}
use Rattle.step_views.specs.Places.{used_stream}
use Rattle.step_views.specs.Comparing.{AreKept, stream_compared, started_compared, counts_compared}
use Rattle.step_views.specs.Comparing.{word_compared, compared}
use Rattle.step_views.proofs.Entries.{kept_join}
use Rattle.step_views.proofs.seen.Seen.note_changes.Goals as goal

pub returns : goal.returns
unfolding compared
returns g c =
    let seen = c.args.self.now in
    let w = c.args.machine.now.world in
    let t = c.args.step in
    let stepped = stream_compared t.p t.s seen.stream (used_stream w t.p t.s) in
    let started = started_compared t.p seen.free seen.counts w in
    let counts = counts_compared t.p seen.counts (counts_of w t.p) in
    let word = word_compared seen.word w.memory in
    let old = c.args.changes.now.items in
    let one = c.note_streams.new.changes.items in
    let two = c.note_started.new.changes.items in
    let three = c.note_counts.new.changes.items in
    let first = subst (λ o. AreKept (stream_compared t.p t.s seen.stream o) old one) c.stream_of-now.ensures
    c.note_streams.ensures.kept in
    let streams = kept_join stepped started old one two first c.note_started.ensures.kept in
    kept_join ((stepped ++ started) ++ counts) word old three c.note_word.new.changes.items
    (kept_join (stepped ++ started) counts old two three streams c.note_counts.ensures.kept)
    c.note_word.ensures.kept
