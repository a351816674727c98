-- A history with one entry more.
use Rattle.std.proofs.Common.{◌≡◌, ◌<◌, sym, refl, ◌∙◌, ap, subst, List, [], ◌∷◌, ◌++◌, inl, inr}
use Rattle.std.proofs.Common.{length}
use Rattle.tag_memory.specs.Storage.{TaggedMemory}
use Rattle.tag_memory.specs.Answer.{answer}
use Rattle.image_file.specs.ImageValue.{ImageValue}
use Rattle.processor.specs.World.{image_memory}
use Rattle.processor.specs.Histories.{replay}
use Rattle.processor.specs.declared.steps.Entry.{Entry}
use Rattle.processor.proofs.Histories.{memory_after-append, legal-append}
use Rattle.shared_history.specs.SharedMemory.{IsReplayed}
use Rattle.shared_history.proofs.Places.{get-push}

-- nothing was asked yet
pub new-replayed : (image : ImageValue) → IsReplayed image [] (image_memory image)
new-replayed image = record { replays = refl; legal = tt; processors = λ k e h. absurd (let f : ⊥ = cc in f) }

-- one request more
pub replayed-more : (image : ImageValue) (es : List Entry) (m after : TaggedMemory) (e : Entry)
    → IsReplayed image es m → e.p < length image.entries → (after, e.reply) ≡ answer m e.request
    → IsReplayed image (es ++ e ∷ []) after
replayed-more image es m after e h below is =
    let start = image_memory image in
    let answered : (after, e.reply) ≡ answer (replay image es) e.request =
    is ∙ ap (λ x. answer x e.request) h.replays in
    let Below : Entry → Type 0 = λ x. x.p < length image.entries in
    record {
      replays = ap (λ x. x.0) answered ∙ sym (memory_after-append start es (e ∷ []));
      legal = legal-append start es (e ∷ []) h.legal (ap (λ x. x.1) answered, tt);
      processors = λ k x q. elim (get-push es e k x q) [
        | inl a ↦ h.processors k x a
        | inr b ↦ subst Below (sym b.1) below
      ];
    }
