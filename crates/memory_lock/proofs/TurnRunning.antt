-- A run of two, from what is known of each place.
use Rattle.std.proofs.Common.{◌≡◌, ◌<◌, ℕ, List, [], Option, Some, None, length, refl, sym, ◌∙◌, ap, arith, subst}
use Rattle.std.proofs.Common.{get_or, drop}
use Rattle.std.specs.Prelude.{slice_get}
use Rattle.std.proofs.lemmas.Option.{slice_get_within, get_or_from_slice_get, slice_get-get_or}
use Rattle.image_file.specs.ImageValue.{ImageValue}
use Rattle.processor.specs.Histories.{pairs_of}
use Rattle.processor.specs.Records.{RecordValue}
use Rattle.processor.specs.declared.steps.Asked.{Asked}
use Rattle.processor.specs.declared.steps.Entry.{Entry}
use Rattle.shared_history.specs.SharedMemory.{SharedValue}
use Rattle.shared_history.specs.Parts.{PartsValue, AreNewParts, HasEntries}
use Rattle.shared_history.specs.Gathering.{Refuses}
use Rattle.shared_history.specs.declared.gathering.GatherFault.{GatherFault}
use Rattle.shared_history.specs.declared.gathering.GatherFault.TheVariants.{Torn}
use Rattle.memory_lock.specs.Runs.{IsRunOfThreads}
use Rattle.memory_lock.specs.TurnRuns.{HaveNewEntries}

pub new-entries : (old new : PartsValue) (before after : List RecordValue) (history : List Entry)
    → before ≡ old.records → new.records ≡ after → new.shared.history ≡ history
    → ((p : ℕ) (d : RecordValue) → p < length before
    → pairs_of p history ≡ drop (length (get_or before p d).pairs) (get_or after p d).pairs)
    → HaveNewEntries old new
new-entries old new before after history b a h made p r x there now =
    let at : slice_get before p ≡ Some r = ap (λ l. slice_get l p) b ∙ there in
    let to : slice_get after p ≡ Some x = ap (λ l. slice_get l p) (sym a) ∙ now in
    let F : RecordValue → RecordValue → List Asked = λ s t. drop (length s.pairs) t.pairs in
    ap (pairs_of p) h ∙ made p r (slice_get_within before p r at)
    ∙ (λ i. F (get_or_from_slice_get before p r r at i) (get_or_from_slice_get after p x r to i))

-- a record of a run from the start has just its processor's entries
has-entries : (image : ImageValue) (fuel : ℕ) (old new : PartsValue) → AreNewParts image fuel old → IsRunOfThreads old new
    → HaveNewEntries old new → (q : ℕ) (o : Option RecordValue) → slice_get new.records q ≡ o
    → HasEntries new.shared.history q o
has-entries image fuel old new begins run made q None e = tt
has-entries image fuel old new begins run made q (Some x) e =
    let within : q < length old.records = omega (arith, slice_get_within new.records q x e, run.one_each) in
    let r : RecordValue = get_or old.records q x in
    let there : slice_get old.records q ≡ Some r = slice_get-get_or old.records q x within in
    let none : r.pairs ≡ [] = (begins.records_are q r there).pairs in
    sym (made q r x there e ∙ ap (λ l. drop (length l) x.pairs) none)

-- what a run of two from the start leaves is not torn
pub not-torn : (image : ImageValue) (fuel : ℕ) (old new : PartsValue) (fault : GatherFault) (p : ℕ)
    → AreNewParts image fuel old → IsRunOfThreads old new
    → (length old.records ≡ 2 → old.shared.history ≡ [] → HaveNewEntries old new) → Refuses new fault
    → length image.entries ≡ 2 → fault ≡ Torn p → ⊥
not-torn image fuel old new fault p begins run made refuses two is =
    let m = made (begins.one_each ∙ two) (ap (λ (s : SharedValue). s.history) begins.shared_is) in
    let r : Refuses new (Torn p) = subst (Refuses new) is refuses in
    r.2.fails (has-entries image fuel old new begins run m p (slice_get new.records p) refl)
