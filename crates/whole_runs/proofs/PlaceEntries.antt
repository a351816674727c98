-- The entries of places: each is right and of its place, no two are of one place, and each place that has something has one.
use Rattle.std.proofs.Common.{◌≡◌, inl, inr, refl, sym, ap}
use Rattle.std.proofs.Common.{◌∙◌, subst, List, [], ◌∷◌, Option, Some, None}
use Rattle.processor.specs.World.{World}
use Rattle.step_views.specs.declared.places.Place.{Place}
use Rattle.step_views.specs.declared.places.Content.{Content}
use Rattle.step_views.specs.declared.places.Change.{Change}
use Rattle.step_views.specs.Places.{content_of}
use Rattle.step_views.specs.Comparing.{entry, part_entry}
use Rattle.step_views.proofs.Entries.{In, in_left, in_right, in_either, AreApart, apart_join}
use Rattle.step_views.proofs.Covering.{IsRight}
use Rattle.whole_runs.specs.PlaceLists.{place_entries}
use Rattle.whole_runs.proofs.Among.{IsAmong, AreOther}

-- the entry is right, and of the place
record IsOfPlace (w v : World) (x : Place) (c : Change) : Type 0 where
  pub at : x ≡ c.place
  pub right : IsRight w v c

of_entry : (w v : World) (x : Place) (o q : Option Content) (c : Change) → content_of w x ≡ o → content_of v x ≡ q
    → In (part_entry x o q) c → IsOfPlace w v x c
of_entry w v x None q c e f h = absurd h
of_entry w v x (Some k) None c e f h = absurd h
of_entry w v x (Some k) (Some l) c e f (inr h) = absurd h
of_entry w v x (Some k) (Some l) c e f (inl same) =
    let at : x ≡ c.place = ap (λ (d : Change). d.place) same in
    record {
      at = at;
      right = (
        ap (content_of w) (sym at) ∙ e ∙ ap (λ (d : Change). Some d.before) same,
        ap (content_of v) (sym at) ∙ f ∙ ap (λ (d : Change). Some d.after) same,
      );
    }

-- the entry is right, and of one of the places
pub record IsOfPlaces (w v : World) (xs : List Place) (c : Change) : Type 0 where
  pub among : IsAmong xs c.place
  pub right : IsRight w v c

pub of_places : (w v : World) (xs : List Place) (c : Change) → In (place_entries w v xs) c → IsOfPlaces w v xs c
of_places w v [] c h = absurd h
of_places w v (x ∷ xs) c h =
    elim (in_either (part_entry x (content_of w x) (content_of v x)) (place_entries w v xs) c h) [
      | inl k ↦
          let of = of_entry w v x (content_of w x) (content_of v x) c refl refl k in
          record { among = inl of.at; right = of.right }
      | inr k ↦ let of = of_places w v xs c k in record { among = inr of.among; right = of.right }
    ]

entry_apart : (x : Place) (o q : Option Content) → AreApart (part_entry x o q)
entry_apart x None q = tt
entry_apart x (Some k) None = tt
entry_apart x (Some k) (Some l) = (λ c h. absurd h, tt)

pub places_apart : (w v : World) (xs : List Place) → AreOther xs → AreApart (place_entries w v xs)
places_apart w v [] other = tt
places_apart w v (x ∷ xs) other =
    apart_join (part_entry x (content_of w x) (content_of v x)) (place_entries w v xs)
    (entry_apart x (content_of w x) (content_of v x)) (places_apart w v xs other.1)
    (λ c d h k same.
    let first = of_entry w v x (content_of w x) (content_of v x) c refl refl h in
    let second = of_places w v xs d k in
    other.0 d.place second.among (first.at ∙ same))

-- an entry of the place
abbrev pub HasEntry : List Change → Place → Type 0
HasEntry es x = (c : Change) × In es c × (c.place ≡ x)

entry_there : (x : Place) (k l : Content) (o q : Option Content) → o ≡ Some k → q ≡ Some l
    → HasEntry (part_entry x o q) x
entry_there x k l o q e f =
    let P : Option Content → Type 0 = λ y. HasEntry (part_entry x y q) x in
    let Q : Option Content → Type 0 = λ y. HasEntry (part_entry x (Some k) y) x in
    subst P (sym e) (subst Q (sym f) (entry x k l, inl refl, refl))

pub places_have : (w v : World) (xs : List Place) (x : Place) (k l : Content) → IsAmong xs x → content_of w x ≡ Some k
    → content_of v x ≡ Some l → HasEntry (place_entries w v xs) x
places_have w v [] x k l h e f = absurd h
places_have w v (y ∷ ys) x k l (inl same) e f =
    let first = part_entry y (content_of w y) (content_of v y) in
    let found = entry_there y k l (content_of w y) (content_of v y) (ap (content_of w) same ∙ e)
    (ap (content_of v) same ∙ f) in
    (found.0, in_left first (place_entries w v ys) found.0 found.1, found.2 ∙ same)
places_have w v (y ∷ ys) x k l (inr h) e f =
    let first = part_entry y (content_of w y) (content_of v y) in
    let found = places_have w v ys x k l h e f in
    (found.0, in_right first (place_entries w v ys) found.0 found.1, found.2)
