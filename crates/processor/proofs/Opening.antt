-- A processor at its start.
use Rattle.std.proofs.Common.{◌≡◌, ℕ, zero, suc, ◌<◌, ◌≤◌, true, refl, sym, ap, ◌∙◌, subst, arith, zero-add}
use Rattle.std.proofs.Common.{List, length, set, replicate, slice_get, slice_index, Some}
use Rattle.std.proofs.lemmas.Option.{get_or_from_slice_get}
use Rattle.std.proofs.lemmas.List.{length-set, length-replicate, get_or-replicate}
use Rattle.image_file.specs.ImageValue.{ImageValue}
use Rattle.stream_core.specs.Streams.{StreamValue, idle}
use Rattle.processor.specs.Processors.{ProcessorValue, is_idle, count_current, IsCounted, stream_at}
use Rattle.processor.specs.Processors.{first_stream, opening}
use Rattle.processor.proofs.Counting.{count-set, weight_awake, weight_idle, awake-zeros, zeros-set}

-- it has as many streams as its image says
pub opening-length : (image : ImageValue) (entry : ℕ) → length (opening image entry).streams ≡ image.slim
unfolding opening
opening-length image entry =
    length-set (replicate image.slim idle) 0 (first_stream image entry) ∙ length-replicate image.slim idle

count-idle : (n : ℕ) → count_current (replicate n idle) ≡ 0
count-idle zero = refl
count-idle (suc n) = zero-add (count_current (replicate n idle)) ∙ count-idle n

replicate-zeros : (n k : ℕ) → stream_at (replicate n idle) k ≡ idle
replicate-zeros zero k = refl
replicate-zeros (suc n) zero = refl
replicate-zeros (suc n) (suc k) = replicate-zeros n k

pub counted_opening : (image : ImageValue) (entry : ℕ) → 1 ≤ image.slim → IsCounted (opening image entry)
unfolding opening
counted_opening image entry some =
    let ss = replicate image.slim idle in
    let all : length ss ≡ image.slim = length-replicate image.slim idle in
    let there : 0 < length ss = omega (arith, all) in
    let was : is_idle (stream_at ss 0) ≡ true = ap is_idle (get_or-replicate image.slim 0 idle idle (omega arith)) in
    let first = first_stream image entry in
    let change = count-set ss 0 first there in
    let before = weight_idle (stream_at ss 0) was in
    record {
      counts = omega (arith, change, count-idle image.slim, before, weight_awake first refl);
      within_sres = omega arith;
      within_slim = omega (arith, length-set ss 0 first, all);
      zeros = zeros-set ss 0 first (awake-zeros first refl) (λ k e. replicate-zeros image.slim k);
    }

-- a processor made of a table with its first stream
pub opened : (image : ImageValue) (number entry slim : ℕ) (first : StreamValue) (ss : List StreamValue)
    → Some entry ≡ slice_get image.entries number → slim ≡ image.slim → first ≡ first_stream image entry
    → ss ≡ set (replicate slim idle) 0 first
    → record { streams = ss; scur = 1; sres = 1 } ≡ opening image (slice_index image.entries number)
unfolding opening
opened image number entry slim first ss stands same child_stream all =
    let there = get_or_from_slice_get image.entries number entry 0 (sym stands) in
    let filled = all ∙ ap (λ f. set (replicate slim idle) 0 f) (child_stream ∙ ap (first_stream image) (sym there))
    ∙ ap (λ k. set (replicate k idle) 0 (first_stream image (slice_index image.entries number))) same in
    λ i. record { streams = filled i; scur = 1; sres = 1 }

pub counted_opened : (image : ImageValue) (number : ℕ) (p : ProcessorValue) (slim : ℕ) → 1 ≤ slim → slim ≡ image.slim
    → p ≡ opening image (slice_index image.entries number) → IsCounted p
counted_opened image number p slim some same opens =
    let P : ProcessorValue → Type 0 = λ x. IsCounted x in
    subst P (sym opens) (counted_opening image (slice_index image.entries number) (omega arith))

pub opened-length : (image : ImageValue) (number : ℕ) (p : ProcessorValue)
    → p ≡ opening image (slice_index image.entries number) → length p.streams ≡ image.slim
opened-length image number p opens =
    ap (λ (q : ProcessorValue). length q.streams) opens
    ∙ opening-length image (slice_index image.entries number)
