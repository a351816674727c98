-- Bytes of an image have no fault, and the fault of other bytes is told.
use Rattle.std.proofs.Common.{◌≡◌, ◌⊎◌, ◌≤◌, ℕ, List, length, arith, Some, None, Result, Ok, Err, IfErr, IsErrAnd}
use Rattle.std.proofs.Common.{subst, sym, refl, inl, inr, ⊎_elim}
use Rattle.image_file.specs.Answers.{SaysFault}
use Rattle.image_file.specs.ImageValue.{ImageValue}
use Rattle.image_file.specs.declared.fault.ImageFault.{ImageFault}
use Rattle.image_file.specs.declared.fault.ImageFault.TheVariants as image
use Rattle.image_file.specs.Spelling.{Stands}
use Rattle.image_file.specs.Reading.{image_fault}
use Rattle.image_file.proofs.Sound.{no_fault}
use Rattle.image_file.proofs.ReadBack.{sound_again}
use Rattle.mta_engines.specs.Input.{input_limit}
use Rattle.mta_engines.specs.Images.{HasImageFault}
use Rattle.mta_engines.specs.Faults.{IsFaultBy, IsOfImage}
use Rattle.mta_engines.specs.declared.tool_fault.ToolFault.{ToolFault}
use Rattle.mta_engines.specs.declared.tool_fault.ToolFault.TheVariants.{Read, Write, TooLarge, NoMemory, Words}
use Rattle.mta_engines.specs.declared.tool_fault.ToolFault.TheVariants.{Asm, Image, Schedule, Build, Gather}

pub image_without_fault : (bytes : List ℕ) (i : ImageValue) (fault : ToolFault) → length bytes ≤ input_limit
    → Stands bytes i → HasImageFault bytes fault → ⊥
image_without_fault bytes i TooLarge within stands has = omega (arith, within, has)
image_without_fault bytes i (Image fault) within stands has =
    let none : image_fault bytes ≡ None = no_fault bytes (sound_again bytes i stands) in
    let some : image_fault bytes ≡ Some fault = has.1 in
    cc
image_without_fault bytes i Read within stands has = has
image_without_fault bytes i Write within stands has = has
image_without_fault bytes i NoMemory within stands has = has
image_without_fault bytes i (Words line) within stands has = has
image_without_fault bytes i (Asm fault) within stands has = has
image_without_fault bytes i (Schedule fault) within stands has = has
image_without_fault bytes i (Build fault) within stands has = has
image_without_fault bytes i (Gather fault) within stands has = has

-- a refusal of memory is the tool's own, and another fault is told as it is
kept_or_told : (found : ImageFault) (fault : ToolFault) → IsOfImage found fault
    → (fault ≡ NoMemory) ⊎ (fault ≡ Image found)
kept_or_told image.NoMemory fault told = inl (told.0 refl)
kept_or_told image.Short fault told = inr (told.1 (λ e. cc))
kept_or_told image.Magic fault told = inr (told.1 (λ e. cc))
kept_or_told image.Version fault told = inr (told.1 (λ e. cc))
kept_or_told (image.Count field) fault told = inr (told.1 (λ e. cc))
kept_or_told (image.Entry processor) fault told = inr (told.1 (λ e. cc))
kept_or_told (image.TagByte cell) fault told = inr (told.1 (λ e. cc))
kept_or_told image.Trailing fault told = inr (told.1 (λ e. cc))

pub image_fault_told : {A : Type 0} (r : Result A ToolFault) (bytes : List ℕ) (found : ImageFault)
    → length bytes ≤ input_limit → SaysFault found (image_fault bytes) → IsErrAnd r (IsOfImage found)
    → IfErr r (IsFaultBy (HasImageFault bytes))
image_fault_told (Ok x) bytes found within says told = tt
image_fault_told (Err fault) bytes found within says told =
    let Says : ToolFault → Type 0 = IsFaultBy (HasImageFault bytes) in
    ⊎_elim
    (λ has. ⊎_elim (λ none. subst Says (sym none) tt) (λ is. subst Says (sym is) (within, has))
    (kept_or_told found fault told))
    (λ none. subst Says (sym (told.0 none.0)) tt)
    says
