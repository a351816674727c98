-- The entries of the places of an image cover all places of two worlds of it: what is kept of them are the changes.
use Rattle.std.proofs.Common.{◌≡◌, ℕ, ◌*◌, ◌/◌, ◌%◌, ◌==◌, ◌<◌, ◌≤◌, false, inl, inr, refl, sym, ap}
use Rattle.std.proofs.Common.{◌∙◌, ◌⊎◌, arith, List, [], ◌∷◌, ◌++◌, length, get_or, Option, Some, None, slice_get}
use Rattle.std.specs.Option.{option_map}
use Rattle.std.proofs.lemmas.Bool.{cases_lt, cases_Bool, cond_above, eqb-true}
use Rattle.std.proofs.lemmas.Option.{slice_get_past, slice_get-get_or}
use Rattle.tag_memory.specs.Cell.{Cell}
use Rattle.tag_memory.specs.Storage.{cell_at}
use Rattle.image_file.specs.ImageValue.{ImageValue}
use Rattle.stream_core.specs.Streams.{StreamValue, idle}
use Rattle.stream_core.specs.Registers.{register_at, target_at}
use Rattle.processor.specs.Processors.{ProcessorValue}
use Rattle.processor.specs.World.{World}
use Rattle.machine.specs.MachineValue.{MachineValue, IsMachine}
use Rattle.step_views.specs.declared.places.StreamPart.{StreamPart}
use Rattle.step_views.specs.declared.places.StreamPart.TheVariants as part
use Rattle.step_views.specs.declared.places.Place.{Place}
use Rattle.step_views.specs.declared.places.Place.TheVariants as place
use Rattle.step_views.specs.declared.places.Content.{Content}
use Rattle.step_views.specs.declared.places.Content.TheVariants as content
use Rattle.step_views.specs.declared.places.Change.{Change}
use Rattle.step_views.specs.Places.{part_content, part_in, used_stream, used_stream_in, tags_content, content_of}
use Rattle.step_views.specs.Changes.{AreChanges}
use Rattle.step_views.proofs.StreamEntries.{register_there, target_there}
use Rattle.step_views.proofs.Covering.{IsCovered, changes_kept}
use Rattle.whole_runs.specs.PlaceLists.{each, state_places, register_place, target_place, stream_places}
use Rattle.whole_runs.specs.PlaceLists.{processor_places, word_places, places_of, place_entries, AreTold}
use Rattle.whole_runs.specs.Differences.{IsMemoryOf}
use Rattle.whole_runs.proofs.Among.{IsAmong, among_left, among_right, among_each, places_other}
use Rattle.whole_runs.proofs.PlaceEntries.{of_places, places_apart, places_have}

-- Worlds of an image.

pub record IsWorldOf (image : ImageValue) (w : World) : Type 0 where
  pub one_each : length w.processors ≡ length image.entries
  pub slims : (k : ℕ) (d : ProcessorValue) → k < length w.processors
      → length (get_or w.processors k d).streams ≡ image.slim
  pub cells : length w.memory.cells ≡ length image.cells

pub world_of : (size : ℕ) (image : ImageValue) (m : MachineValue) → IsMachine size m → m.image ≡ image
    → IsMemoryOf image m.world.memory → IsWorldOf image m.world
world_of size image m machine same memory = record {
  one_each = machine.one_each ∙ ap (λ (i : ImageValue). length i.entries) same;
  slims = λ k d below. machine.slims k d below ∙ ap (λ (i : ImageValue). i.slim) same;
  cells = memory.cells;
}

-- in both worlds nothing stands there, or in both something, and the place is one of the image's
abbrev IsCoveredBy : ImageValue → World → World → Place → Type 0
IsCoveredBy image w v x = IsCovered (place_entries w v (places_of image)) w v x

by_nothing : (image : ImageValue) (w v : World) (x : Place) → content_of w x ≡ None → content_of v x ≡ None
    → IsCoveredBy image w v x
by_nothing image w v x e f = inr (f ∙ sym e)

by_entry : (image : ImageValue) (w v : World) (x : Place) (k l : Content) → IsAmong (places_of image) x
    → content_of w x ≡ Some k → content_of v x ≡ Some l → IsCoveredBy image w v x
by_entry image w v x k l among e f = inl (places_have w v (places_of image) x k l among e f)

-- Places of processors.

among_processor : (image : ImageValue) (p : ℕ) (x : Place) → p < length image.entries
    → IsAmong (processor_places image.slim p) x → IsAmong (places_of image) x
among_processor image p x below h =
    among_left (each (length image.entries) 0 (processor_places image.slim)) (each (length image.cells) 0 word_places) x
    (among_each (processor_places image.slim) (length image.entries) 0 p x (omega arith) (omega (arith, below)) h)

among_counts : (image : ImageValue) (p : ℕ) (x : Place) → p < length image.entries
    → IsAmong (place.Current p ∷ place.Reserved p ∷ []) x → IsAmong (places_of image) x
among_counts image p x below h =
    among_processor image p x below
    (among_left (place.Current p ∷ place.Reserved p ∷ []) (each image.slim 0 (stream_places p)) x h)

among_stream : (image : ImageValue) (p s : ℕ) (x : Place) → p < length image.entries → s < image.slim
    → IsAmong (stream_places p s) x → IsAmong (places_of image) x
among_stream image p s x below within h =
    among_processor image p x below
    (among_right (place.Current p ∷ place.Reserved p ∷ []) (each image.slim 0 (stream_places p)) x
    (among_each (stream_places p) image.slim 0 s x (omega arith) (omega (arith, within)) h))

-- what stands in a place of a processor that is there, and of one that is not

no_processor : ProcessorValue
no_processor = record { streams = []; scur = 0; sres = 0 }

processor_there : (image : ImageValue) (w : World) (p : ℕ) → IsWorldOf image w → p < length image.entries
    → slice_get w.processors p ≡ Some (get_or w.processors p no_processor)
processor_there image w p is below = slice_get-get_or w.processors p no_processor (omega (arith, is.one_each, below))

processor_missing : (image : ImageValue) (w : World) (p : ℕ) → IsWorldOf image w → length image.entries ≤ p
    → slice_get w.processors p ≡ None
processor_missing image w p is past = slice_get_past w.processors p (omega (arith, is.one_each, past))

current_at : (w : World) (p : ℕ) (o : Option ProcessorValue) → slice_get w.processors p ≡ o
    → content_of w (place.Current p) ≡ option_map (λ (d : ProcessorValue). content.Number d.scur) o
unfolding content_of
current_at w p o e = ap (option_map (λ (d : ProcessorValue). content.Number d.scur)) e

reserved_at : (w : World) (p : ℕ) (o : Option ProcessorValue) → slice_get w.processors p ≡ o
    → content_of w (place.Reserved p) ≡ option_map (λ (d : ProcessorValue). content.Number d.sres) o
unfolding content_of
reserved_at w p o e = ap (option_map (λ (d : ProcessorValue). content.Number d.sres)) e

current_covered : (image : ImageValue) (w v : World) → IsWorldOf image w → IsWorldOf image v → (p : ℕ)
    → IsCoveredBy image w v (place.Current p)
current_covered image w v is are p =
    elim (cases_lt p (length image.entries)) [
      | inl below ↦
          by_entry image w v (place.Current p) _ _ (among_counts image p (place.Current p) below (inl refl))
          (current_at w p _ (processor_there image w p is below))
          (current_at v p _ (processor_there image v p are below))
      | inr past ↦
          by_nothing image w v (place.Current p) (current_at w p None (processor_missing image w p is past))
          (current_at v p None (processor_missing image v p are past))
    ]

reserved_covered : (image : ImageValue) (w v : World) → IsWorldOf image w → IsWorldOf image v → (p : ℕ)
    → IsCoveredBy image w v (place.Reserved p)
reserved_covered image w v is are p =
    elim (cases_lt p (length image.entries)) [
      | inl below ↦
          by_entry image w v (place.Reserved p) _ _ (among_counts image p (place.Reserved p) below (inr (inl refl)))
          (reserved_at w p _ (processor_there image w p is below))
          (reserved_at v p _ (processor_there image v p are below))
      | inr past ↦
          by_nothing image w v (place.Reserved p) (reserved_at w p None (processor_missing image w p is past))
          (reserved_at v p None (processor_missing image v p are past))
    ]

-- Places of streams.

stream_at : (w : World) (p s : ℕ) (x : StreamPart) (o : Option StreamValue) → used_stream w p s ≡ o
    → content_of w (place.Stream p s x) ≡ part_in o x
unfolding content_of
stream_at w p s x o e = ap (λ y. part_in y x) e

used_there : (image : ImageValue) (w : World) (p s : ℕ) → IsWorldOf image w → p < length image.entries
    → s < image.slim
    → used_stream w p s ≡ Some (get_or (get_or w.processors p no_processor).streams s idle)
used_there image w p s is below within =
    let many : length (get_or w.processors p no_processor).streams ≡ image.slim =
    is.slims p no_processor (omega (arith, is.one_each, below)) in
    ap (λ o. used_stream_in o s) (processor_there image w p is below)
    ∙ slice_get-get_or (get_or w.processors p no_processor).streams s idle (omega (arith, many, within))

used_past : (image : ImageValue) (w : World) (p s : ℕ) → IsWorldOf image w → p < length image.entries
    → image.slim ≤ s → used_stream w p s ≡ None
used_past image w p s is below past =
    let many : length (get_or w.processors p no_processor).streams ≡ image.slim =
    is.slims p no_processor (omega (arith, is.one_each, below)) in
    ap (λ o. used_stream_in o s) (processor_there image w p is below)
    ∙ slice_get_past (get_or w.processors p no_processor).streams s (omega (arith, many, past))

used_missing : (image : ImageValue) (w : World) (p s : ℕ) → IsWorldOf image w → length image.entries ≤ p
    → used_stream w p s ≡ None
used_missing image w p s is past = ap (λ o. used_stream_in o s) (processor_missing image w p is past)

-- a part is one of the stream's places and something stands there, or nothing stands there
abbrev IsPart : ℕ → ℕ → StreamValue → StreamValue → StreamPart → Type 0
IsPart p s b a x =
    (IsAmong (stream_places p s) (place.Stream p s x)
    × (k : Content) × (l : Content) × (part_content b x ≡ Some k) × (part_content a x ≡ Some l))
    ⊎ ((part_content b x ≡ None) × (part_content a x ≡ None))

in_states : (p s : ℕ) (x : Place) → IsAmong (state_places p s) x → IsAmong (stream_places p s) x
in_states p s x h =
    among_left (state_places p s ++ each 32 0 (register_place p s)) (each 8 0 (target_place p s)) x
    (among_left (state_places p s) (each 32 0 (register_place p s)) x h)

register_among : (p s r : ℕ) → r < 32 → IsAmong (stream_places p s) (place.Stream p s (part.Register r))
register_among p s r below =
    let x = place.Stream p s (part.Register r) in
    among_left (state_places p s ++ each 32 0 (register_place p s)) (each 8 0 (target_place p s)) x
    (among_right (state_places p s) (each 32 0 (register_place p s)) x
    (among_each (register_place p s) 32 0 r x (omega arith) (omega (arith, below)) (inl refl)))

target_among : (p s t : ℕ) → t < 8 → IsAmong (stream_places p s) (place.Stream p s (part.Target t))
target_among p s t below =
    let x = place.Stream p s (part.Target t) in
    among_right (state_places p s ++ each 32 0 (register_place p s)) (each 8 0 (target_place p s)) x
    (among_each (target_place p s) 8 0 t x (omega arith) (omega (arith, below)) (inl refl))

register_none : (v : StreamValue) (r : ℕ) → 32 ≤ r → part_content v (part.Register r) ≡ None
register_none v r above = sym (cond_above r 32 (Some (content.Number (register_at v.registers r))) None None above refl)

target_none : (v : StreamValue) (t : ℕ) → 8 ≤ t → part_content v (part.Target t) ≡ None
target_none v t above = sym (cond_above t 8 (Some (content.Target (target_at v.targets t))) None None above refl)

is_part : (p s : ℕ) (b a : StreamValue) (x : StreamPart) → IsPart p s b a x
is_part p s b a part.Pc = inl (in_states p s _ (inl refl), _, _, refl, refl)
is_part p s b a part.Codes = inl (in_states p s _ (inr (inl refl)), _, _, refl, refl)
is_part p s b a part.Mask = inl (in_states p s _ (inr (inr (inl refl))), _, _, refl, refl)
is_part p s b a part.InTrap = inl (in_states p s _ (inr (inr (inr (inl refl)))), _, _, refl, refl)
is_part p s b a part.TrapRegister = inl (in_states p s _ (inr (inr (inr (inr (inl refl))))), _, _, refl, refl)
is_part p s b a part.Retries = inl (in_states p s _ (inr (inr (inr (inr (inr (inl refl)))))), _, _, refl, refl)
is_part p s b a part.Status =
    inl (in_states p s _ (inr (inr (inr (inr (inr (inr (inl refl))))))), _, _, refl, refl)
is_part p s b a (part.Register r) =
    elim (cases_lt r 32) [
      | inl below ↦ inl (register_among p s r below, _, _, register_there b r below, register_there a r below)
      | inr above ↦ inr (register_none b r above, register_none a r above)
    ]
is_part p s b a (part.Target t) =
    elim (cases_lt t 8) [
      | inl below ↦ inl (target_among p s t below, _, _, target_there b t below, target_there a t below)
      | inr above ↦ inr (target_none b t above, target_none a t above)
    ]

stream_covered : (image : ImageValue) (w v : World) → IsWorldOf image w → IsWorldOf image v → (p s : ℕ)
    (x : StreamPart) → IsCoveredBy image w v (place.Stream p s x)
stream_covered image w v is are p s x =
    let at = place.Stream p s x in
    elim (cases_lt p (length image.entries)) [
      | inr past ↦
          by_nothing image w v at (stream_at w p s x None (used_missing image w p s is past))
          (stream_at v p s x None (used_missing image v p s are past))
      | inl below ↦ elim (cases_lt s image.slim) [
        | inr past ↦
            by_nothing image w v at (stream_at w p s x None (used_past image w p s is below past))
            (stream_at v p s x None (used_past image v p s are below past))
        | inl within ↦
            let b = get_or (get_or w.processors p no_processor).streams s idle in
            let a = get_or (get_or v.processors p no_processor).streams s idle in
            let one = stream_at w p s x (Some b) (used_there image w p s is below within) in
            let other = stream_at v p s x (Some a) (used_there image v p s are below within) in
            elim (is_part p s b a x) [
              | inl h ↦
                  by_entry image w v at h.1 h.2 (among_stream image p s at below within h.0) (one ∙ h.3) (other ∙ h.4)
              | inr h ↦ by_nothing image w v at (one ∙ h.0) (other ∙ h.1)
            ]
      ]
    ]

-- Places of words.

value_at : (w : World) (a : ℕ) (o : Option Cell) → cell_at w.memory a ≡ o
    → content_of w (place.Value a) ≡ option_map (λ (c : Cell). content.Number c.value) o
unfolding content_of
value_at w a o e = ap (option_map (λ (c : Cell). content.Number c.value)) e

tags_at : (w : World) (a : ℕ) (o : Option Cell) → cell_at w.memory a ≡ o
    → content_of w (place.Tags a) ≡ option_map tags_content o
unfolding content_of
tags_at w a o e = ap (option_map tags_content) e

-- an address has a word in both memories, and is one of the image's, or in neither
abbrev IsAddress : ImageValue → World → World → ℕ → Type 0
IsAddress image w v a =
    ((a / 8 < length image.cells) × (a / 8 * 8 ≡ a) × (c : Cell) × (d : Cell)
    × (cell_at w.memory a ≡ Some c) × (cell_at v.memory a ≡ Some d))
    ⊎ ((cell_at w.memory a ≡ None) × (cell_at v.memory a ≡ None))

no_cell : Cell
no_cell = record { value = 0; full = false; forward = false; trap0 = false; trap1 = false }

is_address : (image : ImageValue) (w v : World) → IsWorldOf image w → IsWorldOf image v → (a : ℕ)
    → IsAddress image w v a
is_address image w v is are a =
    elim (cases_Bool (a % 8 == 0)) [
      | inr e ↦ inr (rw e refl, rw e refl)
      | inl e ↦
          let even : a % 8 ≡ 0 = eqb-true (a % 8) 0 e in
          elim (cases_lt (a / 8) (length image.cells)) [
            | inl below ↦
                inl (
                  below,
                  omega (arith, even),
                  get_or w.memory.cells (a / 8) no_cell,
                  get_or v.memory.cells (a / 8) no_cell,
                  rw e (slice_get-get_or w.memory.cells (a / 8) no_cell (omega (arith, is.cells, below))),
                  rw e (slice_get-get_or v.memory.cells (a / 8) no_cell (omega (arith, are.cells, below))),
                )
            | inr past ↦
                inr (
                  rw e (slice_get_past w.memory.cells (a / 8) (omega (arith, is.cells, past))),
                  rw e (slice_get_past v.memory.cells (a / 8) (omega (arith, are.cells, past))),
                )
          ]
    ]

among_word : (image : ImageValue) (k : ℕ) (x : Place) → k < length image.cells → IsAmong (word_places k) x
    → IsAmong (places_of image) x
among_word image k x below h =
    among_right (each (length image.entries) 0 (processor_places image.slim))
    (each (length image.cells) 0 word_places) x
    (among_each word_places (length image.cells) 0 k x (omega arith) (omega (arith, below)) h)

value_covered : (image : ImageValue) (w v : World) → IsWorldOf image w → IsWorldOf image v → (a : ℕ)
    → IsCoveredBy image w v (place.Value a)
value_covered image w v is are a =
    elim (is_address image w v is are a) [
      | inl h ↦
          by_entry image w v (place.Value a) _ _
          (among_word image (a / 8) (place.Value a) h.0 (inl (ap place.Value h.1)))
          (value_at w a (Some h.2) h.4) (value_at v a (Some h.3) h.5)
      | inr h ↦ by_nothing image w v (place.Value a) (value_at w a None h.0) (value_at v a None h.1)
    ]

tags_covered : (image : ImageValue) (w v : World) → IsWorldOf image w → IsWorldOf image v → (a : ℕ)
    → IsCoveredBy image w v (place.Tags a)
tags_covered image w v is are a =
    elim (is_address image w v is are a) [
      | inl h ↦
          by_entry image w v (place.Tags a) _ _
          (among_word image (a / 8) (place.Tags a) h.0 (inr (inl (ap place.Tags h.1))))
          (tags_at w a (Some h.2) h.4) (tags_at v a (Some h.3) h.5)
      | inr h ↦ by_nothing image w v (place.Tags a) (tags_at w a None h.0) (tags_at v a None h.1)
    ]

-- All places.

all_covered : (image : ImageValue) (w v : World) → IsWorldOf image w → IsWorldOf image v → (x : Place)
    → IsCoveredBy image w v x
all_covered image w v is are (place.Stream p s x) = stream_covered image w v is are p s x
all_covered image w v is are (place.Current p) = current_covered image w v is are p
all_covered image w v is are (place.Reserved p) = reserved_covered image w v is are p
all_covered image w v is are (place.Value a) = value_covered image w v is are a
all_covered image w v is are (place.Tags a) = tags_covered image w v is are a

pub changes_told : (image : ImageValue) (w v : World) → IsWorldOf image w → IsWorldOf image v
    → (changes : List Change) → AreTold w v (places_of image) [] changes → AreChanges w v changes
changes_told image w v is are changes told =
    changes_kept w v (place_entries w v (places_of image)) changes
    (record {
      right = λ c h. (of_places w v (places_of image) c h).right;
      apart = places_apart w v (places_of image) (places_other image);
      all = all_covered image w v is are;
    })
    told
