use Rattle.std.proofs.Common.{rules, ◌≡◌, Some, slice_get}
use Rattle.processor.proofs.ShortRow.{short_begun}
use Rattle.processor.proofs.counted_streams.CountedStreams.short_fetch.Goals as goal

pub returns : goal.returns
returns g c =
    let there : slice_get c.args.self.now.streams c.args.place ≡ Some c.in_ok-used.field-0.now = search rules in
    short_begun c.args.image.now c.args.self.now c.args.place c.in_ok-used.field-0.now c.program.result.now
    c.fetch_short.result there c.program.ensures.is c.fetch_short.ensures
