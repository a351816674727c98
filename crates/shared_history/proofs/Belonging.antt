-- What the part_faults of the records show.
use Rattle.std.proofs.Common.{◌≡◌, ℕ, ◌+◌, ◌<◌, ◌≤◌, sym, refl, ◌∙◌, subst, arith, inl, inr, length, List, Option}
use Rattle.std.proofs.Common.{Some}
use Rattle.std.proofs.Common.{None}
use Rattle.std.specs.Prelude.{slice_get}
use Rattle.std.proofs.lemmas.Bool.Decides.{leb_tells, eqb_tells}
use Rattle.std.proofs.lemmas.Option.{same_Some, slice_get_within, slice_get_past}
use Rattle.image_file.specs.ImageValue.{ImageValue}
use Rattle.processor.specs.Records.{RecordValue, IsKept}
use Rattle.shared_history.specs.SharedMemory.{SharedValue}
use Rattle.shared_history.specs.Parts.{Belongs, HasEntries, FailsFirst, AllBelong, AllHaveEntries}
use Rattle.shared_history.proofs.Places.{get-within, past}

-- From lists of records to single places.

belongs-at : (shared : SharedValue) (records : List RecordValue) (q : ℕ) (o : Option RecordValue)
    → slice_get records q ≡ o → AllBelong shared records → Belongs shared.image q o
belongs-at shared records q None h all = omega (arith, past records q h, all.one_each)
belongs-at shared records q (Some r) h all =
    let of = all.belongs q r h in
    (omega (arith, slice_get_within records q r h, all.one_each), of.0, of.1)

pub each-belongs : (shared : SharedValue) (records : List RecordValue) → AllBelong shared records → (q : ℕ)
    → Belongs shared.image q (slice_get records q)
each-belongs shared records all q = belongs-at shared records q (slice_get records q) refl all

entries-at : (shared : SharedValue) (records : List RecordValue) (q : ℕ) (o : Option RecordValue)
    → slice_get records q ≡ o → AllHaveEntries shared records → HasEntries shared.history q o
entries-at shared records q None h all = tt
entries-at shared records q (Some r) h all = all q r h

pub each-has-entries : (shared : SharedValue) (records : List RecordValue) → AllHaveEntries shared records → (q : ℕ)
    → HasEntries shared.history q (slice_get records q)
each-has-entries shared records all q = entries-at shared records q (slice_get records q) refl all

-- The scan for what does not belong.

-- the records below p belong there
abbrev pub BelongBelow : ImageValue → List RecordValue → ℕ → Type 0
BelongBelow image records p =
    (q : ℕ) (x : RecordValue) → q < p → slice_get records q ≡ Some x
    → (q < length image.entries) × (x.image ≡ image) × (x.number ≡ q) × IsKept x

below-all : (image : ImageValue) (records : List RecordValue) (p : ℕ) → p ≤ length records
    → BelongBelow image records p → (q : ℕ) → q < p → Belongs image q (slice_get records q)
below-all image records p le before q w =
    let g = get-within records q (omega (arith, le, w)) in
    let B : Option RecordValue → Type 0 = λ o. Belongs image q o in
    let b = before q g.0 w g.1 in
    subst B (sym g.1) (b.0, b.1, b.2)

-- one record more that belongs
pub belongs-more : (image : ImageValue) (records : List RecordValue) (p : ℕ) (r : RecordValue)
    → slice_get records p ≡ Some r → p < length image.entries → r.image ≡ image → r.number ≡ p → IsKept r
    → BelongBelow image records p → BelongBelow image records (p + 1)
belongs-more image records p r h w is number kept before q x le k =
    elim (eqb_tells p q) [
      | inl t ↦
          let D : ℕ → Type 0 = λ n. slice_get records n ≡ Some x
          → (n < length image.entries) × (x.image ≡ image) × (x.number ≡ n) × IsKept x in
          let X : RecordValue → Type 0 = λ y.
          (p < length image.entries) × (y.image ≡ image) × (y.number ≡ p) × IsKept y in
          let here : D p = λ m. subst X (same_Some _ _ (sym h ∙ m)) (w, is, number, kept) in
          subst D t.1 here k
      | inr t ↦ before q x (omega (arith, t.1, le)) k
    ]

-- the first that does not
pub first-misfit : (image : ImageValue) (records : List RecordValue) (p : ℕ) (r : RecordValue)
    → slice_get records p ≡ Some r
    → ((p < length image.entries) × (r.image ≡ image) × (r.number ≡ p) → ⊥)
    → BelongBelow image records p → FailsFirst (λ q. Belongs image q (slice_get records q)) p
first-misfit image records p r h misfit before =
    let B : Option RecordValue → Type 0 = λ o. Belongs image p o in
    record {
      fails = λ k. misfit (subst B h k);
      before = below-all image records p (omega (arith, slice_get_within records p r h)) before;
    }

-- the first processor without a record
pub first-missing : (image : ImageValue) (records : List RecordValue) (p : ℕ) → length records ≤ p
    → length records < length image.entries → BelongBelow image records p
    → FailsFirst (λ q. Belongs image q (slice_get records q)) (length records)
first-missing image records p le short before =
    let n = length records in
    let B : Option RecordValue → Type 0 = λ o. Belongs image n o in
    let before_n : BelongBelow image records n = λ q x w h. before q x (omega (arith, w, le)) h in
    record {
      fails = λ k.
          let wide : length image.entries ≤ n = subst B (slice_get_past records n (omega arith)) k in
          omega (arith, wide, short);
      before = below-all image records n (omega arith) before_n;
    }

pub all-belong : (shared : SharedValue) (records : List RecordValue) (p : ℕ) → length records ≤ p
    → length shared.image.entries ≤ length records → BelongBelow shared.image records p → AllBelong shared records
all-belong shared records p le wide before =
    let at : (q : ℕ) (x : RecordValue) → slice_get records q ≡ Some x
    → (q < length shared.image.entries) × (x.image ≡ shared.image) × (x.number ≡ q) × IsKept x =
    λ q x h. before q x (omega (arith, slice_get_within records q x h, le)) h in
    record {
      one_each = elim (leb_tells (length records) (length shared.image.entries)) [
        | inl t ↦ omega (arith, t.1, wide)
        | inr t ↦
            let g = get-within records (length shared.image.entries) t.1 in
            absurd (omega (arith, (at (length shared.image.entries) g.0 g.1).0))
      ];
      belongs = λ q x h. let b = at q x h in (b.1, b.2);
      kept = λ q x h. (at q x h).3;
    }
