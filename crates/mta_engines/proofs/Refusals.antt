-- Which faults a run of an image's processors can have.
use Rattle.std.proofs.Common.{◌≡◌, ◌≢◌, ◌∙◌, sym, subst, ℕ, List, length, Option, Some, None, IfSome, Result, Ok, Err, IsErrAnd}
use Rattle.std.proofs.Common.{◌⊎◌, inl, inr, refl, IfErr}
use Rattle.image_file.specs.ImageValue.{ImageValue}
use Rattle.image_file.specs.Spelling.{Stands}
use Rattle.image_file.proofs.ReadBack.{image_again}
use Rattle.shared_history.specs.Parts.{PartsValue}
use Rattle.shared_history.specs.Gathering.{Refuses}
use Rattle.shared_history.specs.declared.parts.PartsFault.TheVariants as parts
use Rattle.shared_history.specs.declared.parts.PartsFault.TheVariants.{TooLong}
use Rattle.shared_history.specs.declared.gathering.GatherFault.{GatherFault}
use Rattle.shared_history.specs.declared.gathering.GatherFault.TheVariants as gather
use Rattle.memory_lock.specs.Runs.{AreRunParts}
use Rattle.memory_lock.specs.declared.threaded_runs.ThreadsFault.{ThreadsFault}
use Rattle.memory_lock.specs.declared.threaded_runs.ThreadsFault.TheVariants as threads
use Rattle.mta_engines.specs.Faults.{IsFaultBy, IsOfThreads}
use Rattle.mta_engines.specs.InputOutput.{HasInput}
use Rattle.mta_engines.specs.Images.{IsImageOf, HasImageFault}
use Rattle.mta_engines.specs.ThreadsOutput.{IsTooLong, HasRefusal}
use Rattle.mta_engines.specs.declared.tool_fault.ToolFault.{ToolFault}
use Rattle.mta_engines.specs.declared.tool_fault.ToolFault.TheVariants.{Read, Write, TooLarge, NoMemory, Words}
use Rattle.mta_engines.specs.declared.tool_fault.ToolFault.TheVariants.{Asm, Image, Schedule, Build, Gather}
use Rattle.mta_engines.proofs.ImageFaults.{image_without_fault}

-- a fault of the reader of an image comes from outside
outside : (bytes : List ℕ) (i : ImageValue) (fault : ToolFault) → IsImageOf bytes i
    → IsFaultBy (HasImageFault bytes) fault → IsFaultBy (λ f. f ≡ Build TooLong) fault
outside bytes i Read is has = tt
outside bytes i Write is has = tt
outside bytes i NoMemory is has = tt
outside bytes i TooLarge is has = absurd (image_without_fault bytes i TooLarge is.within is.stands has)
outside bytes i (Words line) is has = absurd has
outside bytes i (Asm fault) is has = absurd has
outside bytes i (Image fault) is has = absurd (image_without_fault bytes i (Image fault) is.within is.stands has)
outside bytes i (Schedule fault) is has = absurd has
outside bytes i (Build fault) is has = absurd has
outside bytes i (Gather fault) is has = absurd has

abbrev IsRefused : {A : Type 0} → Result A ToolFault → Type 0
IsRefused r = IsErrAnd r (λ fault. (fault ≢ Write) × IsFaultBy (λ f. f ≡ Build TooLong) fault)

-- the reader failed
pub unread : {A : Type 0} (r : Result A ToolFault) (fault : ToolFault) (o : Option (List ℕ)) (asked : ImageValue)
    (fuel : ℕ) → IsErrAnd r (λ answer. answer ≡ fault) → fault ≢ Write
    → IfSome o (λ bytes. IsFaultBy (HasImageFault bytes) fault)
    → IfSome o (λ bytes. IsImageOf bytes asked → IsTooLong asked fuel → IsRefused r)
unread (Ok x) fault o asked fuel is not h = absurd is
unread (Err answer) fault None asked fuel is not h = tt
unread (Err answer) fault (Some bytes) asked fuel is not h = λ image long.
    let P : ToolFault → Type 0 = λ f. (f ≢ Write) × IsFaultBy (λ g. g ≡ Build TooLong) f in
    subst P (sym is) (not, outside bytes asked fault image h)

-- the image that was read is the one that is asked about
pub asked_for : (o : Option (List ℕ)) (image asked : ImageValue) (fuel : ℕ) (Q : Type 0)
    → HasInput o (λ bytes. IsImageOf bytes image) → (IsTooLong image fuel → Q)
    → IfSome o (λ bytes. IsImageOf bytes asked → IsTooLong asked fuel → Q)
asked_for None image asked fuel Q input then = tt
asked_for (Some bytes) image asked fuel Q input then = λ is long.
    let here : Stands bytes image = subst (λ (b : List ℕ). Stands b image) input.same input.holds.stands in
    let same : asked ≡ image = sym (image_again bytes asked is.stands) ∙ image_again bytes image here in
    then (subst (λ (i : ImageValue). IsTooLong i fuel) same long)

-- the run was refused
pub refused : {A : Type 0} (r : Result A ToolFault) (fault : ToolFault) → IsErrAnd r (λ answer. answer ≡ fault)
    → (fault ≡ NoMemory) ⊎ (fault ≡ Build TooLong) → IsRefused r
refused (Ok x) fault is why = absurd is
refused (Err answer) fault is why = elim why [
  | inl e ↦ let P : ToolFault → Type 0 = λ f. (f ≢ Write) × IsFaultBy (λ g. g ≡ Build TooLong) f in
      subst P (sym (is ∙ e)) ((λ w. cc), tt)
  | inr e ↦ let P : ToolFault → Type 0 = λ f. (f ≢ Write) × IsFaultBy (λ g. g ≡ Build TooLong) f in
      subst P (sym (is ∙ e)) ((λ w. cc), refl)
]

-- the run's own fault, as the tool tells it
pub told_of : {A : Type 0} {size : ℕ} (r : Result A ToolFault) (found : ThreadsFault size) (image : ImageValue) (fuel : ℕ)
    → IsErrAnd r (λ answer. IsOfThreads found answer) → (found ≡ threads.Build parts.Streams → ⊥)
    → (found ≡ threads.Build parts.TooLong → IsTooLong image fuel)
    → ((left : PartsValue) (fault : GatherFault) → found ≡ threads.Gather left fault
    → AreRunParts image fuel left × Refuses left fault)
    → (length image.entries ≡ 2 → (left : PartsValue) (p : ℕ) → found ≢ threads.Gather left (gather.Torn p))
    → IfErr r (λ fault. (fault ≡ NoMemory) ⊎ HasRefusal image fuel fault)
told_of (Ok x) found image fuel is room long left two = tt
told_of (Err answer) (threads.Build parts.Streams) image fuel is room long left two = absurd (room refl)
told_of (Err answer) (threads.Build parts.TooLong) image fuel is room long left two =
    inr (subst (HasRefusal image fuel) (sym (is.1 (λ e. cc))) (long refl))
told_of (Err answer) (threads.Build parts.NoMemory) image fuel is room long left two = inl (is.0 refl)
told_of (Err answer) (threads.Gather x (gather.Foreign p)) image fuel is room long left two =
    let why = left x (gather.Foreign p) refl in
    inr (subst (HasRefusal image fuel) (sym (is.1 (λ e. cc))) (record { left = x; run = why.0; refused = why.1 }))
told_of (Err answer) (threads.Gather x (gather.Short p)) image fuel is room long left two =
    let why = left x (gather.Short p) refl in
    inr (subst (HasRefusal image fuel) (sym (is.1 (λ e. cc))) (record { left = x; run = why.0; refused = why.1 }))
told_of (Err answer) (threads.Gather x (gather.Torn p)) image fuel is room long left two =
    let why = left x (gather.Torn p) refl in
    inr (subst (HasRefusal image fuel) (sym (is.1 (λ e. cc)))
    (λ both. two both x p refl, record { left = x; run = why.0; refused = why.1 }))
told_of (Err answer) (threads.Gather x gather.NoMemory) image fuel is room long left two = inl (is.0 refl)
