-- Worlds that hold the same in all places are the same.
use Rattle.std.proofs.Common.{◌≡◌, ℕ, suc, ◌+◌, ◌<◌, Bool, true, false, refl, sym, ap, ◌∙◌}
use Rattle.std.proofs.Common.{arith, Option, Some, None, List, [], ◌∷◌, length, get_or, if◌then◌else◌, slice_get}
use Rattle.std.specs.Option.{option_map}
use Rattle.std.proofs.lemmas.Option.{same_Some}
use Rattle.tag_memory.specs.declared.tag_set.Tags.{Tags}
use Rattle.tag_memory.specs.Cell.{Cell, has_bit, tag_number}
use Rattle.tag_memory.specs.Storage.{cell_at}
use Rattle.tag_memory.specs.Answer.{IsDeterminedByWords}
use Rattle.stream_core.specs.StatusWords.{status_at}
use Rattle.stream_core.specs.Streams.{StreamValue}
use Rattle.stream_core.specs.declared.status_words.StatusWord.{StatusWord}
use Rattle.machine.specs.Processor.Processors.{ProcessorValue}
use Rattle.machine.specs.Processor.World.{World}
use Rattle.step_views.specs.declared.places.StreamPart.{StreamPart}
use Rattle.step_views.specs.declared.places.StreamPart.TheVariants as part
use Rattle.step_views.specs.declared.places.Place.{Place}
use Rattle.step_views.specs.declared.places.Place.TheVariants as place
use Rattle.step_views.specs.declared.places.Content.TheVariants as content
use Rattle.step_views.specs.Places.{part_content, used_stream_in, used_stream, part_in, tags_content, content_of}
use Rattle.step_views.specs.Laws.{HasRegisters, AreAllPlaces}
use Rattle.step_views.proofs.StreamEntries.{register_there, target_there}

-- Lists.

-- lists with the same at each index are the same
pub lists_same : {A : Type 0} (xs ys : List A) → ((k : ℕ) → slice_get xs k ≡ slice_get ys k) → xs ≡ ys
lists_same [] [] e = refl
lists_same [] (y ∷ ys) e = absurd (let h = e 0 in let f : ⊥ = cc in f)
lists_same (x ∷ xs) [] e = absurd (let h = e 0 in let f : ⊥ = cc in f)
lists_same (x ∷ xs) (y ∷ ys) e =
    let first : x ≡ y = same_Some _ _ (e 0) in
    let rest : xs ≡ ys = lists_same xs ys (λ k. e (suc k)) in
    λ i. first i ∷ rest i

-- lists of one length with the same below it
below_same : {A : Type 0} (d : A) (xs ys : List A) → length xs ≡ length ys
    → ((k : ℕ) → k < length xs → get_or xs k d ≡ get_or ys k d) → xs ≡ ys
below_same d [] [] e h = refl
below_same d [] (y ∷ ys) e h = absurd (omega arith)
below_same d (x ∷ xs) [] e h = absurd (omega arith)
below_same d (x ∷ xs) (y ∷ ys) e h =
    let first : x ≡ y = h 0 (omega arith) in
    let rest : xs ≡ ys = below_same d xs ys (omega arith) (λ k below. h (suc k) (omega arith)) in
    λ i. first i ∷ rest i

-- What a content is of.

number_is : (m n : ℕ) → Some (content.Number m) ≡ Some (content.Number n) → m ≡ n
number_is m n e = cc

target_is : (a b : StatusWord) → Some (content.Target a) ≡ Some (content.Target b) → a ≡ b
target_is a b e = cc

tags_are : (a b : Tags) → Some (content.Tags a) ≡ Some (content.Tags b) → a ≡ b
tags_are a b e = cc

-- Streams.

stream_same : (a b : StreamValue) → length a.registers ≡ 32 → length b.registers ≡ 32 → length a.targets ≡ 8
    → length b.targets ≡ 8 → ((x : StreamPart) → part_content a x ≡ part_content b x) → a ≡ b
stream_same a b many others few most e =
    let pc : a.ssw.pc ≡ b.ssw.pc = number_is _ _ (e part.Pc) in
    let codes : a.ssw.codes ≡ b.ssw.codes = let h = e part.Codes in cc in
    let mask : a.ssw.mask ≡ b.ssw.mask = let h = e part.Mask in cc in
    let in_trap : a.ssw.in_trap ≡ b.ssw.in_trap = let h = e part.InTrap in cc in
    let xr : a.xr ≡ b.xr = number_is _ _ (e part.TrapRegister) in
    let retries : a.retries ≡ b.retries = number_is _ _ (e part.Retries) in
    let status : a.status ≡ b.status = let h = e part.Status in cc in
    let registers : a.registers ≡ b.registers = below_same 0 a.registers b.registers (many ∙ sym others)
    (λ k below. number_is _ _
    (sym (register_there a k (omega arith)) ∙ e (part.Register k) ∙ register_there b k (omega arith))) in
    let targets : a.targets ≡ b.targets = below_same (status_at 0) a.targets b.targets (few ∙ sym most)
    (λ k below. target_is _ _
    (sym (target_there a k (omega arith)) ∙ e (part.Target k) ∙ target_there b k (omega arith))) in
    λ i. record {
      registers = registers i;
      targets = targets i;
      ssw = record { pc = pc i; codes = codes i; mask = mask i; in_trap = in_trap i };
      xr = xr i;
      retries = retries i;
      status = status i;
    }

maybe_stream_same : (o q : Option StreamValue) → ((v : StreamValue) → o ≡ Some v → length v.registers ≡ 32)
    → ((v : StreamValue) → q ≡ Some v → length v.registers ≡ 32)
    → ((v : StreamValue) → o ≡ Some v → length v.targets ≡ 8)
    → ((v : StreamValue) → q ≡ Some v → length v.targets ≡ 8)
    → ((x : StreamPart) → part_in o x ≡ part_in q x) → o ≡ q
maybe_stream_same None None many others few most e = refl
maybe_stream_same None (Some b) many others few most e = absurd (let h = e part.Pc in let f : ⊥ = cc in f)
maybe_stream_same (Some a) None many others few most e = absurd (let h = e part.Pc in let f : ⊥ = cc in f)
maybe_stream_same (Some a) (Some b) many others few most e =
    ap Some (stream_same a b (many a refl) (others b refl) (few a refl) (most b refl) e)

used_same : (w v : World) → HasRegisters w → HasRegisters v → ((x : Place) → content_of w x ≡ content_of v x)
    → (p s : ℕ) → used_stream w p s ≡ used_stream v p s
unfolding content_of
used_same w v h k e p s =
    maybe_stream_same (used_stream w p s) (used_stream v p s) (h.general p s) (k.general p s) (h.target p s)
    (k.target p s)
    (λ x. e (place.Stream p s x))

-- Processors.

processor_same : (o q : Option ProcessorValue)
    → option_map (λ (d : ProcessorValue). content.Number d.scur) o
    ≡ option_map (λ (d : ProcessorValue). content.Number d.scur) q
    → option_map (λ (d : ProcessorValue). content.Number d.sres) o
    ≡ option_map (λ (d : ProcessorValue). content.Number d.sres) q
    → ((s : ℕ) → used_stream_in o s ≡ used_stream_in q s) → o ≡ q
processor_same None None current reserved used = refl
processor_same None (Some b) current reserved used = absurd (let f : ⊥ = cc in f)
processor_same (Some a) None current reserved used = absurd (let f : ⊥ = cc in f)
processor_same (Some a) (Some b) current reserved used =
    let streams : a.streams ≡ b.streams = lists_same a.streams b.streams used in
    let scur : a.scur ≡ b.scur = number_is _ _ current in
    let sres : a.sres ≡ b.sres = number_is _ _ reserved in
    λ i. Some (record { streams = streams i; scur = scur i; sres = sres i })

processors_same : (w v : World) → HasRegisters w → HasRegisters v → ((x : Place) → content_of w x ≡ content_of v x)
    → w.processors ≡ v.processors
unfolding content_of
processors_same w v h k e =
    lists_same w.processors v.processors (λ p.
    processor_same (slice_get w.processors p) (slice_get v.processors p) (e (place.Current p)) (e (place.Reserved p))
    (used_same w v h k e p))

-- Words.

bits_told : (f w a b : Bool)
    → let n = (if f then 1 else 0) + (if w then 2 else 0) + (if a then 4 else 0) + (if b then 8 else 0) in
    (has_bit n 0 ≡ f) × (has_bit n 1 ≡ w) × (has_bit n 2 ≡ a) × (has_bit n 3 ≡ b)
bits_told false false false false = (refl, refl, refl, refl)
bits_told false false false true = (refl, refl, refl, refl)
bits_told false false true false = (refl, refl, refl, refl)
bits_told false false true true = (refl, refl, refl, refl)
bits_told false true false false = (refl, refl, refl, refl)
bits_told false true false true = (refl, refl, refl, refl)
bits_told false true true false = (refl, refl, refl, refl)
bits_told false true true true = (refl, refl, refl, refl)
bits_told true false false false = (refl, refl, refl, refl)
bits_told true false false true = (refl, refl, refl, refl)
bits_told true false true false = (refl, refl, refl, refl)
bits_told true false true true = (refl, refl, refl, refl)
bits_told true true false false = (refl, refl, refl, refl)
bits_told true true false true = (refl, refl, refl, refl)
bits_told true true true false = (refl, refl, refl, refl)
bits_told true true true true = (refl, refl, refl, refl)

cell_same : (c d : Cell) → c.value ≡ d.value → tag_number c ≡ tag_number d → c ≡ d
cell_same c d value tags =
    let of = bits_told c.full c.forward c.trap0 c.trap1 in
    let is = bits_told d.full d.forward d.trap0 d.trap1 in
    let full : c.full ≡ d.full = sym of.0 ∙ ap (λ n. has_bit n 0) tags ∙ is.0 in
    let forward : c.forward ≡ d.forward = sym of.1 ∙ ap (λ n. has_bit n 1) tags ∙ is.1 in
    let trap0 : c.trap0 ≡ d.trap0 = sym of.2 ∙ ap (λ n. has_bit n 2) tags ∙ is.2 in
    let trap1 : c.trap1 ≡ d.trap1 = sym of.3 ∙ ap (λ n. has_bit n 3) tags ∙ is.3 in
    λ i. record { value = value i; full = full i; forward = forward i; trap0 = trap0 i; trap1 = trap1 i }

word_same : (o q : Option Cell)
    → option_map (λ (c : Cell). content.Number c.value) o ≡ option_map (λ (c : Cell). content.Number c.value) q
    → option_map tags_content o ≡ option_map tags_content q → o ≡ q
word_same None None value tags = refl
word_same None (Some b) value tags = absurd (let f : ⊥ = cc in f)
word_same (Some a) None value tags = absurd (let f : ⊥ = cc in f)
word_same (Some a) (Some b) value tags =
    let same : tag_number a ≡ tag_number b = ap (λ (t : Tags). t.0) (tags_are _ _ tags) in
    ap Some (cell_same a b (number_is _ _ value) same)

memory_same : IsDeterminedByWords → (w v : World) → w.memory.chain_limit ≡ v.memory.chain_limit
    → ((x : Place) → content_of w x ≡ content_of v x) → w.memory ≡ v.memory
unfolding content_of
memory_same law w v chain e =
    law w.memory v.memory chain
    (λ a. word_same (cell_at w.memory a) (cell_at v.memory a) (e (place.Value a)) (e (place.Tags a)))

pub all_places : IsDeterminedByWords → AreAllPlaces
all_places law w v h k chain e =
    let processors = processors_same w v h k e in
    let memory = memory_same law w v chain e in
    λ i. record { processors = processors i; memory = memory i }
