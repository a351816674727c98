-- The records of new parts, one by one.
use Rattle.std.proofs.Common.{◌≡◌, ℕ, ◌+◌, sym, refl, ◌∙◌, ap, subst, arith, List, [], ◌∷◌, ◌++◌, length}
use Rattle.std.proofs.Common.{max, Some, inl, inr}
use Rattle.std.specs.Prelude.{slice_get}
use Rattle.std.proofs.lemmas.List.{length_push}
use Rattle.image_file.specs.ImageValue.{ImageValue}
use Rattle.processor.specs.Processors.{ProcessorValue}
use Rattle.processor.specs.Records.{RecordValue}
use Rattle.shared_history.specs.Parts.{IsNewRecord}
use Rattle.shared_history.proofs.Places.{get-push}

-- a new record with room
pub new-record : (image : ImageValue) (p fuel : ℕ) (state : ProcessorValue) (r with_room : RecordValue)
    → r ≡ record { image = image; number = p; steps = []; pairs = []; state = state; spare = 0 }
    → with_room ≡ record r { spare = max r.spare fuel } → IsNewRecord image p fuel with_room
new-record image p fuel state r with_room new is =
    let made : RecordValue = record { image = image; number = p; steps = []; pairs = []; state = state; spare = 0 } in
    let more : RecordValue → RecordValue = λ x. record x { spare = max x.spare fuel } in
    let all : with_room ≡ more made = is ∙ ap more new in
    let P : RecordValue → Type 0 = λ x. IsNewRecord image p fuel x in
    subst P (sym all)
    (record { image_is = refl; number_is = refl; steps = refl; pairs = refl; room_is = omega arith })

pub new-more : (image : ImageValue) (fuel n : ℕ) (old new : List RecordValue) (r : RecordValue)
    → (length old ≡ n) × ((p : ℕ) (x : RecordValue) → slice_get old p ≡ Some x → IsNewRecord image p fuel x)
    → IsNewRecord image n fuel r → new ≡ old ++ r ∷ []
    → (length new ≡ n + 1) × ((p : ℕ) (x : RecordValue) → slice_get new p ≡ Some x → IsNewRecord image p fuel x)
new-more image fuel n old new r so h is = (
  ap length is ∙ length_push old r ∙ ap (λ k. k + 1) so.0,
  λ p x here. elim (get-push old r p x (ap (λ l. slice_get l p) (sym is) ∙ here)) [
    | inl a ↦ so.1 p x a
    | inr b ↦
        let P : ℕ → Type 0 = λ k. IsNewRecord image k fuel r in
        let Q : RecordValue → Type 0 = λ y. IsNewRecord image p fuel y in
        subst Q (sym b.1) (subst P (sym (b.0 ∙ so.0)) h)
  ],
)
