use Rattle.std.proofs.Common.{◌≡◌, ◌<◌, ◌∙◌, false, inl, inr, rules, arith, ap, subst, length, slice_index_or, Contains}
use Rattle.std.proofs.lemmas.Bool.{cases_lt}
use Rattle.std.proofs.lemmas.List.{get_or_default}
use Rattle.fair_rounds.specs.declared.graphs.Standing.{Standing}
use Rattle.starving_streams.specs.Graphs.{HasAdded}
use Rattle.starving_streams.proofs.standings.streams_of.Goals as goal

pub loop-number-preserved : goal.loop-number-preserved
loop-number-preserved c i d within =
    let standings = c.args.standings.now in
    let n = c.loop-number.number in
    let none : Standing = record { place = 0; step = record { p = 0; s = 0 }; can_complete = false } in
    let who = (slice_index_or standings n none).step in
    let has : HasAdded c.loop-number.streams.items who c.push_new.new.streams.items = search rules in
    let below : n < length standings = search rules in
    elim (cases_lt i n) [
      | inl less ↦ has.kept (slice_index_or standings i d).step (c.loop-number.invariant i d less)
      | inr most ↦
          let here : n ≡ i = omega (arith, within, most) in
          let same : who ≡ (slice_index_or standings i d).step =
          ap (λ (s : Standing). s.step)
          (get_or_default standings n none d below ∙ ap (λ m. slice_index_or standings m d) here) in
          subst (Contains c.push_new.new.streams.items) same has.there
    ]

pub returns : goal.returns
returns c = λ s there.
    subst (λ (x : Standing). Contains c.loop-number.streams.items x.step) there.2
    (c.loop-number.invariant there.0 s (search rules))
