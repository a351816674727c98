-- What was found in the first steps of a schedule, with what is found in the others, is what is found in all.
use Rattle.std.proofs.Common.{◌≡◌, ℕ, suc, ◌+◌, ◌<◌, ◌≤◌, refl, sym, ap, ◌∙◌, add-one, Bool, true, false}
use Rattle.std.proofs.Common.{List, [], ◌∷◌, ◌++◌, length, drop, get_or, append_assoc, append-nil}
use Rattle.std.proofs.Math.Seq.{drop-cons}
use Rattle.std.proofs.Math.ListN.{drop_of_length-le}
use Rattle.image_file.specs.ImageValue.{ImageValue}
use Rattle.machine.specs.Processor.World.{World, after}
use Rattle.machine.specs.ProcessorTypes.Step.{Step}
use Rattle.claims.specs.declared.claim.Claim.{Claim}
use Rattle.claims.specs.Holding.{holds}
use Rattle.claims.specs.Breaks.{breaks_from, unless_so}

unless-more : (so : Bool) (n : ℕ) (ns : List ℕ) → unless_so so n ns ≡ unless_so so n [] ++ ns
unless-more true n ns = refl
unless-more false n ns = refl

-- the rest of a list from place i on, by its next entry
behind : (ts : List Step) (t : Step) (i : ℕ) → i < length ts → t ≡ get_or ts i t → drop i ts ≡ t ∷ drop (i + 1) ts
behind ts t i below read =
    drop-cons ts i t below
    ∙ ap (λ x. x ∷ drop (suc i) ts) (sym read)
    ∙ ap (λ k. t ∷ drop k ts) (sym (add-one i))

pub breaks_step : (c : Claim) (image : ImageValue) (w : World) (i : ℕ) (t : Step) (ts : List Step) (found all : List ℕ)
    → i < length ts → t ≡ get_or ts i t → found ++ breaks_from c image w i (drop i ts) ≡ all
    → (found ++ unless_so (holds w c) i []) ++ breaks_from c image (after image w t) (i + 1) (drop (i + 1) ts) ≡ all
breaks_step c image w i t ts found all below read h =
    let later : List ℕ = breaks_from c image (after image w t) (i + 1) (drop (i + 1) ts) in
    append_assoc found (unless_so (holds w c) i []) later
    ∙ ap (λ x. found ++ x) (sym (unless-more (holds w c) i later))
    ∙ sym (ap (λ us. found ++ breaks_from c image w i us) (behind ts t i below read))
    ∙ h

pub breaks_end : (c : Claim) (image : ImageValue) (w : World) (i : ℕ) (ts : List Step) (found all : List ℕ)
    → length ts ≤ i → found ++ breaks_from c image w i (drop i ts) ≡ all → found ≡ all
breaks_end c image w i ts found all past h =
    sym (append-nil found) ∙ sym (ap (λ us. found ++ breaks_from c image w i us) (drop_of_length-le ts past)) ∙ h
