-- Parts of a stream that are compared one after another.
use Rattle.std.proofs.Common.{◌≡◌, ℕ, suc, ◌+◌, ◌-◌, ◌<◌, ◌≤◌, List, ◌∷◌, refl, sym, ap, subst, arith}
use Rattle.stream_core.specs.Streams.{StreamValue}
use Rattle.step_views.specs.declared.places.StreamPart.{StreamPart}
use Rattle.step_views.specs.declared.places.StreamPart.TheVariants as part
use Rattle.step_views.specs.declared.places.Place.TheVariants as place
use Rattle.step_views.specs.declared.places.Change.{Change}
use Rattle.step_views.specs.Places.{part_content}
use Rattle.step_views.specs.Comparing.{AreKept, part_entry, part_entries, register_parts, target_parts}
use Rattle.step_views.proofs.Entries.{kept_join}

-- what is kept of a part
abbrev pub IsPartKept : ℕ → ℕ → StreamValue → StreamValue → StreamPart → List Change → List Change → Type 0
IsPartKept p s b a x old new = AreKept (part_entry (place.Stream p s x) (part_content b x) (part_content a x)) old new

-- what is kept of parts
abbrev pub ArePartsKept : ℕ → ℕ → StreamValue → StreamValue → List StreamPart → List Change → List Change → Type 0
ArePartsKept p s b a xs old new = AreKept (part_entries p s b a xs) old new

part_first : (p s : ℕ) (b a : StreamValue) (x : StreamPart) (xs : List StreamPart) (old mid new : List Change)
    → IsPartKept p s b a x old mid → ArePartsKept p s b a xs mid new → ArePartsKept p s b a (x ∷ xs) old new
part_first p s b a x xs old mid new h k =
    kept_join (part_entry (place.Stream p s x) (part_content b x) (part_content a x)) (part_entries p s b a xs)
    old mid new h k

-- Registers.

registers_from : (i : ℕ) → i < 32 → register_parts (32 - i) i ≡ part.Register i ∷ register_parts (32 - (i + 1)) (i + 1)
unfolding register_parts
registers_from i below =
    let e : 32 - i ≡ suc (32 - (i + 1)) = omega arith in
    ap (λ n. register_parts n i) e

pub registers_more : (p s : ℕ) (b a : StreamValue) (i : ℕ) (old mid new : List Change) → i < 32
    → IsPartKept p s b a (part.Register i) old mid
    → ArePartsKept p s b a (register_parts (32 - (i + 1)) (i + 1)) mid new
    → ArePartsKept p s b a (register_parts (32 - i) i) old new
registers_more p s b a i old mid new below h k =
    subst (λ (xs : List StreamPart). ArePartsKept p s b a xs old new) (sym (registers_from i below))
    (part_first p s b a (part.Register i) (register_parts (32 - (i + 1)) (i + 1)) old mid new h k)

pub registers_end : (p s : ℕ) (b a : StreamValue) (i : ℕ) (l : List Change) → 32 ≤ i
    → ArePartsKept p s b a (register_parts (32 - i) i) l l
unfolding register_parts
registers_end p s b a i l past =
    let e : 0 ≡ 32 - i = omega arith in
    subst (λ n. ArePartsKept p s b a (register_parts n i) l l) e refl

-- Target registers.

targets_from : (i : ℕ) → i < 8 → target_parts (8 - i) i ≡ part.Target i ∷ target_parts (8 - (i + 1)) (i + 1)
unfolding target_parts
targets_from i below =
    let e : 8 - i ≡ suc (8 - (i + 1)) = omega arith in
    ap (λ n. target_parts n i) e

pub targets_more : (p s : ℕ) (b a : StreamValue) (i : ℕ) (old mid new : List Change) → i < 8
    → IsPartKept p s b a (part.Target i) old mid
    → ArePartsKept p s b a (target_parts (8 - (i + 1)) (i + 1)) mid new
    → ArePartsKept p s b a (target_parts (8 - i) i) old new
targets_more p s b a i old mid new below h k =
    subst (λ (xs : List StreamPart). ArePartsKept p s b a xs old new) (sym (targets_from i below))
    (part_first p s b a (part.Target i) (target_parts (8 - (i + 1)) (i + 1)) old mid new h k)

pub targets_end : (p s : ℕ) (b a : StreamValue) (i : ℕ) (l : List Change) → 8 ≤ i
    → ArePartsKept p s b a (target_parts (8 - i) i) l l
unfolding target_parts
targets_end p s b a i l past =
    let e : 0 ≡ 8 - i = omega arith in
    subst (λ n. ArePartsKept p s b a (target_parts n i) l l) e refl
