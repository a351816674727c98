use Rattle.std.proofs.Common.{◌≡◌, ap, arith, length, sym, refl, ◌∙◌, true, false}
use Rattle.std.proofs.lemmas.List.{length-set}
use Rattle.std.proofs.lemmas.Option.{slice_get_within}
use Rattle.image_file.specs.ImageValue.{ImageValue}
use Rattle.shared_history.proofs.Places.{read-at}
use Rattle.shared_history.proofs.Comparing.{met-more, met-past, met-torn, met-all, met-few, entries-more, first-unlike}
use Rattle.shared_history.proofs.Comparing.{first-torn}
use Rattle.shared_history.proofs.part_faults.first_torn.Goals as goal
use Rattle.shared_history.proofs.part_faults.first_torn.Goals.{then-p-torn+then-is_next_pair}
use Rattle.shared_history.proofs.part_faults.first_torn.Goals.{then-p-torn+else-is_next_pair, else-p-torn}

pub loop-entry-preserved : goal.loop-entry-preserved
loop-entry-preserved g c =
    let so = c.loop-entry.invariant in
    let e = c.entry-item.result in
    let read = read-at c.entries-entry-items.result.now c.loop-entry.entry-index e c.loop-entry-test.true
    c.entry-item.is in
    let h = rw c.entries-entry-items.ensures.is at read in
    let few = c.processors-count.ensures.few in
    let count = c.processors-count.ensures.is ∙ ap (λ (i : ImageValue). length i.entries) c.image-image.ensures in
    elim c.if-p-torn.branch [
      | then-p-torn+then-is_next_pair w ↦
          let here = read-at c.args.records.now e.p w.index-records-p.result
          (omega (arith, w.if-p-torn.true, c.from-p.ensures, so.1.torn_in)) (rw c.from-p.ensures at w.index-records-p.is) in
          let next = w.is_next_pair.ensures.0 w.if-is_next_pair.true in
          rw (w.torn-is, w.taken-is, c.from-p.ensures) (
            length-set c.loop-entry.taken e.p _ ∙ so.0,
            met-more _ _ c.loop-entry.taken c.loop-entry.entry-index _ _ e w.index-records-p.result h here
                (omega (arith, w.if-p-torn.true, c.from-p.ensures, so.1.torn_in, so.0, few, count, c.requires.one_each))
                refl (rw (w.pairs.ensures, c.from-p.ensures) at next) so.1,
          )
      | then-p-torn+else-is_next_pair w ↦
          let here = read-at c.args.records.now e.p w.index-records-p.result
          (omega (arith, w.if-p-torn.true, c.from-p.ensures, so.1.torn_in)) (rw c.from-p.ensures at w.index-records-p.is) in
          let only = rw (w.pairs.ensures, c.from-p.ensures) at w.is_next_pair.ensures.1 in
          rw (w.torn-is, w.taken-is, c.from-p.ensures) (
            so.0,
            met-torn _ _ c.loop-entry.taken c.loop-entry.entry-index c.loop-entry.torn _ e w.index-records-p.result h here
                (omega (arith, w.if-p-torn.true, c.from-p.ensures))
                refl (λ m. let f : false ≡ true = sym w.if-is_next_pair.false ∙ only m in let z : ⊥ = cc in z) so.1,
          )
      | else-p-torn w ↦
          rw (w.torn-is, w.taken-is) (
            so.0,
            met-past _ _ c.loop-entry.taken c.loop-entry.entry-index c.loop-entry.torn e h
                (omega (arith, w.if-p-torn.false, c.from-p.ensures)) so.1,
          )
    ]

pub returns-then-place-pairs : goal.returns-then-place-pairs
returns-then-place-pairs g c =
    let so = c.loop-entry.invariant in
    let here = read-at c.args.records.now c.loop-p.p c.index-records-p-in-loop-p.result
    (omega (arith, c.loop-p-test.true, so.1.torn_in)) c.index-records-p-in-loop-p.is in
    first-unlike _ _ c.loop-p.p c.index-records-p-in-loop-p.result here
    (met-few c.args.records.now c.args.shared.now.history c.loop-entry.taken c.loop-entry.entry-index c.loop-entry.torn
    c.loop-p.p _ c.index-records-p-in-loop-p.result
    (omega (arith, c.loop-entry-test.false, ap length c.entries-entry-items.ensures.is)) here c.loop-p-test.true refl
    (omega (arith, c.if-place-pairs.true, ap length c.pairs-in-loop-p.ensures)) so.1)
    c.loop-p.invariant

pub loop-p-preserved : goal.loop-p-preserved
loop-p-preserved g c =
    let so = c.loop-entry.invariant in
    let here = read-at c.args.records.now c.loop-p.p c.index-records-p-in-loop-p.result
    (omega (arith, c.loop-p-test.true, so.1.torn_in)) c.index-records-p-in-loop-p.is in
    entries-more _ _ c.loop-p.p c.index-records-p-in-loop-p.result here
    (met-all c.args.records.now c.args.shared.now.history c.loop-entry.taken c.loop-entry.entry-index c.loop-entry.torn
    c.loop-p.p _ c.index-records-p-in-loop-p.result
    (omega (arith, c.loop-entry-test.false, ap length c.entries-entry-items.ensures.is)) here c.loop-p-test.true refl
    (omega (arith, c.if-place-pairs.false, ap length c.pairs-in-loop-p.ensures)) so.1)
    c.loop-p.invariant

pub returns-then-torn-count : goal.returns-then-torn-count
returns-then-torn-count g c =
    let count = c.processors-count.ensures.is ∙ ap (λ (i : ImageValue). length i.entries) c.image-image.ensures in
    first-torn _ _ _ _ c.loop-entry.torn c.loop-p.p c.loop-entry.invariant.1
    (omega (arith, c.if-torn-count.true, count, c.requires.one_each)) c.loop-p-test.false c.loop-p.invariant

pub returns-else-torn-count : goal.returns-else-torn-count
returns-else-torn-count g c =
    let count = c.processors-count.ensures.is ∙ ap (λ (i : ImageValue). length i.entries) c.image-image.ensures in
    λ p r h. c.loop-p.invariant p r
    (omega (
      arith,
      c.loop-p-test.false,
      c.if-torn-count.false,
      slice_get_within c.args.records.now p r h,
      count,
      c.requires.one_each,
    )) h
