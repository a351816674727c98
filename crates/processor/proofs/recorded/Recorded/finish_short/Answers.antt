use Rattle.std.proofs.Common.{refl, sym, lit<}
use Rattle.processor.proofs.ShortRow.{short_next}
use Rattle.processor.proofs.recorded.Recorded.finish_short.Goals as goal

pub finish_local-requires : goal.finish_local-requires
finish_local-requires g c =
    let now = c.args.self.now in
    let found = c.requires.fetch in
    let next = short_next now.image now.state c.args.s c.args.short.now found in
    (lit< tt, (λ i. record { next = next i; fetch = sym found i }, (refl, c.requires.room)))
