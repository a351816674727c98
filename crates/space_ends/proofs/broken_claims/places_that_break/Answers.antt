use Rattle.std.proofs.Common.{◌≡◌, ap, ◌∙◌, true, false, arith}
use Rattle.std.specs.Prelude.{not}
use Rattle.claims.specs.Holding.{holds}
use Rattle.seed_verdicts.specs.ScheduleSpace.Spaces.{world_of}
use Rattle.space_ends.proofs.Broken.{kept_more, left_more}
use Rattle.space_ends.proofs.broken_claims.places_that_break.Goals as goal
use Rattle.space_ends.proofs.broken_claims.places_that_break.Goals.{then-not-holds+in_ok-push, else-not-holds}

pub loop-place-preserved : goal.loop-place-preserved
loop-place-preserved g c =
    let m = c.args.marks.now in
    let place = c.loop-place.place in
    let found = c.loop-place.places.items in
    let found_so : c.in_ok-holds.holds ≡ holds (world_of m.space place) m.claim = c.in_ok-holds.ensures in
    elim c.if-not-holds.branch [
      | then-not-holds+in_ok-push w ↦
          let test = w.if-not-holds.true in
          let so : not (holds (world_of m.space place) m.claim) ≡ true = first_of (cc, grind arith) in
          let more = kept_more (λ k. not (holds (world_of m.space k) m.claim)) place found so c.loop-place.invariant in
          ap (λ p. p.items) w.places-is ∙ w.in_ok-push.ensures.items ∙ more
      | else-not-holds w ↦
          let test = w.if-not-holds.false in
          let so : not (holds (world_of m.space place) m.claim) ≡ false = first_of (cc, grind arith) in
          let more = left_more (λ k. not (holds (world_of m.space k) m.claim)) place found so c.loop-place.invariant in
          ap (λ p. p.items) w.places-is ∙ more
    ]
