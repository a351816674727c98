-- Entries that cover all places of two worlds: what is kept of them are the changes.
use Rattle.std.proofs.Common.{◌≡◌, ◌≢◌, ◌⊎◌, inl, inr, sym, ap, ◌∙◌, subst, List, [], Some}
use Rattle.std.proofs.lemmas.Option.{same_Some}
use Rattle.machine.specs.Processor.World.{World}
use Rattle.step_views.specs.declared.places.Place.{Place}
use Rattle.step_views.specs.declared.places.Change.{Change}
use Rattle.step_views.specs.Places.{content_of}
use Rattle.step_views.specs.Changes.{IsChange, AreChanges}
use Rattle.step_views.specs.Comparing.{AreKept}
use Rattle.step_views.proofs.Entries.{In, Contains-from_in, in_from_Contains, AreApart, AllPairs-from_apart}
use Rattle.step_views.proofs.Entries.{AreSelected, kept_selected, selected_in, selected_or_same, selected_apart}

-- the place has an entry, or holds the same
abbrev pub IsCovered : List Change → World → World → Place → Type 0
IsCovered es w v x = ((c : Change) × In es c × (c.place ≡ x)) ⊎ (content_of v x ≡ content_of w x)

-- the entry has what stands in its place in both worlds
abbrev pub IsRight : World → World → Change → Type 0
IsRight w v c = (content_of w c.place ≡ Some c.before) × (content_of v c.place ≡ Some c.after)

-- the entries are right, no two of one place, and each place without one holds the same
pub record AreEntries (w v : World) (es : List Change) : Type 0 where
  pub right : (c : Change) → In es c → IsRight w v c
  pub apart : AreApart es
  pub all : (x : Place) → IsCovered es w v x

-- two entries of one place in the same worlds are one
same_change : (w v : World) (c d : Change) → c.place ≡ d.place → IsRight w v c → IsRight w v d → c ≡ d
same_change w v c d same is are =
    let before = same_Some _ _ (sym is.0 ∙ ap (content_of w) same ∙ are.0) in
    let after = same_Some _ _ (sym is.1 ∙ ap (content_of v) same ∙ are.1) in
    λ i. record { place = same i; before = before i; after = after i }

selected_change : (w v : World) (es changes : List Change) → AreEntries w v es → AreSelected es changes
    → (c : Change) → In changes c → IsChange w v c
selected_change w v es changes h is c among =
    let found = selected_in es changes c is among in
    let stands = h.right c found.0 in
    record { was = stands.0; is = stands.1; differs = found.1 }

change_selected : (w v : World) (es changes : List Change) → AreEntries w v es → AreSelected es changes
    → (c : Change) → IsChange w v c → In changes c
change_selected w v es changes h is c change =
    elim (h.all c.place) [
      | inl e ↦
          let same = same_change w v e.0 c e.2 (h.right e.0 e.1) (change.was, change.is) in
          elim (selected_or_same es changes c is (subst (In es) same e.1)) [
            | inl m ↦ m
            | inr equal ↦ absurd (change.differs equal)
          ]
      | inr stays ↦ absurd (change.differs (same_Some _ _ (sym change.was ∙ sym stays ∙ change.is)))
    ]

others_stay : (w v : World) (es changes : List Change) → AreEntries w v es → AreSelected es changes
    → (x : Place) → ((c : Change) → In changes c → c.place ≢ x) → content_of v x ≡ content_of w x
others_stay w v es changes h is x unlisted =
    elim (h.all x) [
      | inl e ↦
          let stands = h.right e.0 e.1 in
          elim (selected_or_same es changes e.0 is e.1) [
            | inl m ↦ absurd (unlisted e.0 m e.2)
            | inr equal ↦
                ap (content_of v) (sym e.2) ∙ stands.1 ∙ ap Some (sym equal) ∙ sym stands.0 ∙ ap (content_of w) e.2
          ]
      | inr stays ↦ stays
    ]

pub changes_kept : (w v : World) (es changes : List Change) → AreEntries w v es → AreKept es [] changes
    → AreChanges w v changes
changes_kept w v es changes h kept =
    let is = kept_selected es changes kept in
    record {
      exact = λ c. (
        λ m. selected_change w v es changes h is c (in_from_Contains changes c m),
        λ k. Contains-from_in changes c (change_selected w v es changes h is c k),
      );
      once = AllPairs-from_apart changes (selected_apart es changes is h.apart);
      others = λ x unlisted. others_stay w v es changes h is x (λ c m. unlisted c (Contains-from_in changes c m));
    }
