-- At the start: the image's processor, and empty lists.
use Rattle.std.proofs.Common.{◌≡◌, ◌<◌, ◌∙◌, ℕ, [], List, length, sym, ap, arith}
use Rattle.std.specs.Prelude.{slice_index}
use Rattle.std.proofs.lemmas.Option.{slice_get-get_or}
use Rattle.image_file.specs.ImageValue.{ImageValue}
use Rattle.processor.specs.Processors.{ProcessorValue, opening}
use Rattle.processor.specs.Records.{StepsValue, IsPlaced}
use Rattle.processor.specs.OwnSteps.{IsOwn}
use Rattle.processor.specs.declared.steps.Asked.{Asked}
use Rattle.processor.proofs.Keeping.{opening-own, opening-placed}
use Rattle.processor.proofs.recorded.Recorded.new.Goals as goal

new-own : (image : ImageValue) (p q : ℕ) (ss : List ℕ) (rs : List Asked) (state : ProcessorValue)
    → p < length image.entries → q ≡ p → ss ≡ [] → rs ≡ [] → state ≡ opening image (slice_index image.entries q)
    → IsOwn image p ss rs state
new-own image p q ss rs state stands same no_steps no_pairs is =
    rw (no_steps, no_pairs, is, same) (opening-own image p (slice_index image.entries p)
    (slice_get-get_or image.entries p 0 stands))

new-placed : (image : ImageValue) (p : ℕ) (ss : List ℕ) (rs : List Asked) (places : List ℕ) → ss ≡ [] → rs ≡ []
    → places ≡ [] → IsPlaced image p ss rs places
new-placed image p ss rs places no_steps no_pairs none = rw (no_steps, no_pairs, none) (opening-placed image p)

pub invariant_of-result : goal.invariant_of-result
invariant_of-result g c =
    let none = ap (λ (v : StepsValue). v.numbers) c.new-2.ensures in
    let spare = ap (λ (v : StepsValue). v.spare) c.new-2.ensures in (
      new-own c.args.image.now c.args.number c.from.result _ _ _ c.requires.stands c.from.ensures none
          c.new-3.ensures.items c.in_ok-processor.ensures.is,
      new-placed c.args.image.now c.args.number _ _ _ none c.new-3.ensures.items c.new-4.ensures.items,
      sym c.in_ok-processor.ensures.slim,
      omega (arith, c.new-3.ensures.len, spare),
      omega (arith, c.new-4.ensures.len, spare),
    )
