-- What a run of all records leaves.
use Rattle.std.proofs.Common.{ℕ, zero, suc, subst, ◌≡◌, ◌<◌, ◌≤◌, List, [], ◌∷◌, Option, Some, length, refl, sym, ◌∙◌, ap}
use Rattle.std.proofs.Common.{arith, get_or}
use Rattle.std.specs.Prelude.{slice_get}
use Rattle.std.proofs.lemmas.Option.{slice_get_within, get_or_from_slice_get, slice_get-get_or}
use Rattle.image_file.specs.ImageValue.{ImageValue}
use Rattle.processor.specs.Records.{RecordValue}
use Rattle.shared_history.specs.SharedMemory.{SharedValue}
use Rattle.shared_history.specs.Parts.{PartsValue, AreNewParts, HasFinished}
use Rattle.shared_history.specs.Schedule.{WovenValue}
use Rattle.shared_history.specs.Gathering.{IsGathered}
use Rattle.memory_lock.specs.Driving.{IsGrown}
use Rattle.memory_lock.specs.Runs.{HaveRoom, IsContinued, IsRunOfThreads, IsThreaded}

-- a memory that went on, seen from the parts
pub continued : {old new before after : SharedValue} → before ≡ old → new ≡ after → IsContinued before after
    → IsContinued old new
continued {old} {new} {before} {after} b a is =
    let P : SharedValue × SharedValue → Type 0 = λ x. IsContinued x.0 x.1 in
    subst P (λ i. (b i, sym a i)) is

pub is-run : (old new : PartsValue) (fuel : ℕ) (before after : List RecordValue) → fuel ≡ old.fuel → new.fuel ≡ fuel
    → before ≡ old.records → new.records ≡ after → length after ≡ length before
    → ((p : ℕ) (d : RecordValue) → p < length before → IsGrown fuel (get_or before p d) (get_or after p d))
    → IsContinued old.shared new.shared → IsRunOfThreads old new
is-run old new fuel before after f g b a len grown shared = record {
  fuel = g ∙ f;
  shared = shared;
  one_each = ap length a ∙ len ∙ ap length b;
  each = λ p r x h k.
      let at : slice_get before p ≡ Some r = ap (λ l. slice_get l p) b ∙ h in
      let to : slice_get after p ≡ Some x = ap (λ l. slice_get l p) (sym a) ∙ k in
      let one = grown p r (omega (arith, slice_get_within before p r at)) in
      let P : ℕ → Type 0 = λ n. IsGrown n r x in
      subst P f (rw (← get_or_from_slice_get before p r r at, ← get_or_from_slice_get after p x r to) one);
}

there-in : (records : List RecordValue) (p : ℕ) → p < length records
    → (r : RecordValue) × (slice_get records p ≡ Some r)
there-in [] p h = absurd (omega arith)
there-in (r ∷ rs) zero h = (r, refl)
there-in (r ∷ rs) (suc p) h = there-in rs p (omega arith)

-- a record of the run took at most so many steps
bounded : (image : ImageValue) (fuel : ℕ) (before parts : PartsValue) (p : ℕ) (x : RecordValue)
    → AreNewParts image fuel before → IsRunOfThreads before parts → slice_get parts.records p ≡ Some x
    → length x.steps ≤ fuel
bounded image fuel before parts p x new run there =
    let at = there-in before.records p (omega (arith, slice_get_within parts.records p x there, run.one_each)) in
    let grown = run.each p at.0 x at.1 there in
    let none : length at.0.steps ≡ 0 = ap (λ (l : List ℕ). length l) (new.records_are p at.0 at.1).steps in
    omega (arith, grown.bound, none, new.fuel_is)

pub is-threaded : (image : ImageValue) (fuel : ℕ) (before parts : PartsValue) (w : WovenValue)
    → AreNewParts image fuel before → IsRunOfThreads before parts → IsGathered parts w → IsThreaded image fuel w
is-threaded image fuel before parts w new run g =
    let fuel_is : parts.fuel ≡ fuel = run.fuel ∙ new.fuel_is in
    let F : ℕ → List RecordValue → Type 0 = λ n l. (p : ℕ) → HasFinished n (slice_get l p) in
    let G : List RecordValue → Type 0 = λ l. F fuel l in
    let H : ℕ → Type 0 = λ n. F n parts.records in
    record {
      parts = parts;
      left = record { before = before; new = new; run = run };
      gathered = g;
      image_is = ap (λ (s : SharedValue). s.image) g.shared_is ∙ run.shared.image
          ∙ ap (λ (s : SharedValue). s.image) new.shared_is;
      woven = g.woven;
      bound = λ p r h.
          bounded image fuel before parts p r new run (ap (λ l. slice_get l p) (sym g.records_are) ∙ h);
      finished = subst G (sym g.records_are) (subst H fuel_is g.finished);
    }

-- each record has room for what is missing to fuel again
pub room-again : (old new : PartsValue) → IsRunOfThreads old new → HaveRoom new
room-again old new run = λ p d below.
    let x : RecordValue = get_or new.records p d in
    let at = there-in old.records p (omega (arith, below, run.one_each)) in
    let room = (run.each p at.0 x at.1 (slice_get-get_or new.records p d below)).room in
    omega (arith, room, run.fuel)
