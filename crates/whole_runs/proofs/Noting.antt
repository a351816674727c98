-- Places that are noted one after another.
use Rattle.std.proofs.Common.{◌≡◌, ℕ, suc, ◌+◌, ◌-◌, ◌<◌, ◌≤◌, refl, sym, ap, ◌∙◌, subst, arith}
use Rattle.std.proofs.Common.{List, [], ◌∷◌, ◌++◌, append_assoc}
use Rattle.processor.specs.World.{World}
use Rattle.step_views.specs.declared.places.Place.{Place}
use Rattle.step_views.specs.declared.places.Change.{Change}
use Rattle.step_views.specs.Places.{content_of}
use Rattle.step_views.specs.Comparing.{AreKept, part_entry}
use Rattle.step_views.proofs.Entries.{kept_join}
use Rattle.whole_runs.specs.PlaceLists.{each, place_entries, AreTold}

entries_join : (w v : World) (xs ys : List Place)
    → place_entries w v (xs ++ ys) ≡ place_entries w v xs ++ place_entries w v ys
entries_join w v [] ys = refl
entries_join w v (x ∷ xs) ys =
    let first = part_entry x (content_of w x) (content_of v x) in
    ap (λ l. first ++ l) (entries_join w v xs ys)
    ∙ sym (append_assoc first (place_entries w v xs) (place_entries w v ys))

pub told_join : (w v : World) (xs ys : List Place) (old mid new : List Change) → AreTold w v xs old mid
    → AreTold w v ys mid new → AreTold w v (xs ++ ys) old new
told_join w v xs ys old mid new h k =
    subst (λ (l : List Change). AreKept l old new) (sym (entries_join w v xs ys))
    (kept_join (place_entries w v xs) (place_entries w v ys) old mid new h k)

each_from : (f : ℕ → List Place) (n i : ℕ) → i < n → each (n - i) i f ≡ f i ++ each (n - (i + 1)) (i + 1) f
unfolding each
each_from f n i below =
    let e : n - i ≡ suc (n - (i + 1)) = omega arith in
    ap (λ m. each m i f) e

pub each_more : (w v : World) (f : ℕ → List Place) (n i : ℕ) (old mid new : List Change) → i < n
    → AreTold w v (f i) old mid → AreTold w v (each (n - (i + 1)) (i + 1) f) mid new
    → AreTold w v (each (n - i) i f) old new
each_more w v f n i old mid new below h k =
    subst (λ (xs : List Place). AreTold w v xs old new) (sym (each_from f n i below))
    (told_join w v (f i) (each (n - (i + 1)) (i + 1) f) old mid new h k)

pub each_end : (w v : World) (f : ℕ → List Place) (n i : ℕ) (l : List Change) → n ≤ i
    → AreTold w v (each (n - i) i f) l l
unfolding each
each_end w v f n i l past =
    let e : 0 ≡ n - i = omega arith in
    subst (λ m. AreTold w v (each m i f) l l) e refl
