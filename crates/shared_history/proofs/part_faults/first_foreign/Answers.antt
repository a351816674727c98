use Rattle.std.proofs.Common.{◌≡◌, ◌∙◌, ap, arith, sym, length, true, false}
use Rattle.image_file.specs.ImageValue.{ImageValue}
use Rattle.shared_history.proofs.Places.{read-at}
use Rattle.shared_history.proofs.Belonging.{first-misfit, first-missing, belongs-more, all-belong}
use Rattle.shared_history.proofs.part_faults.first_foreign.Goals as goal
use Rattle.shared_history.proofs.part_faults.first_foreign.Goals.{then-p-count-via-then-p-count}
use Rattle.shared_history.proofs.part_faults.first_foreign.Goals.{then-p-count-via-else-p-count+then-from-p}
use Rattle.shared_history.proofs.part_faults.first_foreign.Goals.{}
use Rattle.shared_history.proofs.part_faults.first_foreign.Goals.{then-p-count-via-else-p-count+else-from-p+then-not-is_same_image}

pub returns-then-p-count : goal.returns-then-p-count
returns-then-p-count g c =
    let here = read-at c.args.records.now c.loop-p.p c.index-records-p.result c.loop-p-test.true
    c.index-records-p.is in
    let count = c.processors-count.ensures.is ∙ ap (λ (i : ImageValue). length i.entries) c.image-image.ensures in
    first-misfit c.args.shared.now.image c.args.records.now c.loop-p.p c.index-records-p.result here
    (elim c.then-p-count.branch [
      | then-p-count-via-then-p-count w ↦ λ k. omega (arith, k.0, w.if-p-count.true, count)
      | then-p-count-via-else-p-count+then-from-p w ↦ λ k.
          absurd (w.if-from-p.true (w.from.ensures ∙ w.number.ensures.is ∙ k.2))
      | then-p-count-via-else-p-count+else-from-p+then-not-is_same_image w ↦ λ k.
          let f : false ≡ true = sym w.if-not-is_same_image.true
          ∙ w.is_same_image.ensures.1 (w.image.ensures ∙ k.1 ∙ sym c.image-image.ensures) in
          let e : ⊥ = cc in e
    ])
    c.loop-p.invariant

pub loop-p-preserved : goal.loop-p-preserved
loop-p-preserved g c =
    let here = read-at c.args.records.now c.loop-p.p c.index-records-p.result c.loop-p-test.true
    c.index-records-p.is in
    let count = c.processors-count.ensures.is ∙ ap (λ (i : ImageValue). length i.entries) c.image-image.ensures in
    belongs-more c.args.shared.now.image c.args.records.now c.loop-p.p c.index-records-p.result here
    (omega (arith, c.if-p-count.false, count))
    (sym c.image.ensures ∙ c.is_same_image.ensures.0 c.if-not-is_same_image.false ∙ c.image-image.ensures)
    (omega (arith, c.number.ensures.is, c.from.ensures, c.if-from-p.false)) c.number.ensures.kept c.loop-p.invariant

pub returns-then-records-count : goal.returns-then-records-count
returns-then-records-count g c =
    let count = c.processors-count.ensures.is ∙ ap (λ (i : ImageValue). length i.entries) c.image-image.ensures in
    first-missing c.args.shared.now.image c.args.records.now c.loop-p.p c.loop-p-test.false
    (omega (arith, c.if-records-count.true, count)) c.loop-p.invariant

pub returns : goal.returns
returns g c =
    let count = c.processors-count.ensures.is ∙ ap (λ (i : ImageValue). length i.entries) c.image-image.ensures in
    all-belong c.args.shared.now c.args.records.now c.loop-p.p c.loop-p-test.false
    (omega (arith, c.if-records-count.false, count)) c.loop-p.invariant
