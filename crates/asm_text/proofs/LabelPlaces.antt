-- A label's place is the least line that it stands on.
use Rattle.std.proofs.Common.{◌≡◌, ◌≢◌, ℕ, zero, suc, ◌+◌, ◌<◌, Bool, true, false, cond, List, [], ◌∷◌, take}
use Rattle.std.proofs.Common.{Option, Some, None, count_by, option_map, refl, sym, ◌∙◌, ap, subst, arith}
use Rattle.std.proofs.Common.{add-one}
use Rattle.std.proofs.lemmas.Bool.{false≢true}
use Rattle.std.proofs.lemmas.List.Sums.{sum_by-cons}
use Rattle.std.proofs.lemmas.Slice.Eq.{bytes_eq-Decides}
use Rattle.asm_line.specs.Lines.{Line, place, stands, further, is_word}
use Rattle.asm_line.specs.declared.place.Place.{Place}
use Rattle.asm_text.specs.LabelLaws.{label_at, IsFirstPlace, LabelsStandFirst, MissingLabels}

stood : (name : List ℕ) (o : Option (List ℕ)) → stands name o ≡ true → o ≡ Some name
stood name None e = absurd (false≢true e)
stood name (Some label) e = ap (λ (n : List ℕ). Some n) ((bytes_eq-Decides label name).0 e)

not_stood : (name : List ℕ) (o : Option (List ℕ)) → stands name o ≡ false → o ≢ Some name
not_stood name o none is =
    false≢true (sym none ∙ ap (stands name) is ∙ (bytes_eq-Decides name name).1 refl)

none_at : (k : ℕ) (name : List ℕ) → label_at [] k ≢ Some name
none_at k name is = cc

place-none : (name : List ℕ) → place [] name ≡ None
unfolding place
place-none name = refl

place-cons : (l : Line) (ls : List Line) (name : List ℕ)
    → place (l ∷ ls) name
    ≡ cond (stands name l.label) (Some (record { line = 0; value = 0 })) (option_map (further l) (place ls name))
unfolding place
place-cons l ls name = refl

-- on the first line
at_first : (l : Line) (ls : List Line) (name : List ℕ) → l.label ≡ Some name
    → IsFirstPlace (l ∷ ls) name (record { line = 0; value = 0 })
at_first l ls name is = record { stands = is; least = λ k less. absurd (omega arith); value = refl }

none_before : (l : Line) (ls : List Line) (name : List ℕ) (n : ℕ) → l.label ≢ Some name
    → ((k : ℕ) → k < n → label_at ls k ≢ Some name)
    → (k : ℕ) → k < n + 1 → label_at (l ∷ ls) k ≢ Some name
none_before l ls name n other rest zero less is = other is
none_before l ls name n other rest (suc k) less is = rest k (omega arith) is

-- behind the first line
at_further : (l : Line) (ls : List Line) (name : List ℕ) (p : Place) → l.label ≢ Some name → IsFirstPlace ls name p
    → IsFirstPlace (l ∷ ls) name (further l p)
at_further l ls name p other f = record {
  stands = rw add-one f.stands;
  least = none_before l ls name p.line other f.least;
  value =
      rw add-one (omega (
        arith,
        f.value,
        sum_by-cons (λ (m : Line). cond (is_word m.statement) 1 0) l (take p.line ls),
      ));
}

first_by : (l : Line) (ls : List Line) (name : List ℕ) (p : Place) (here : Bool) (o : Option Place)
    → stands name l.label ≡ here
    → cond here (Some (record { line = 0; value = 0 })) (option_map (further l) o) ≡ Some p
    → ((q : Place) → o ≡ Some q → IsFirstPlace ls name q)
    → IsFirstPlace (l ∷ ls) name p
first_by l ls name p true o test is rest =
    let at : record { line = 0; value = 0 } ≡ p = cc in
    subst (IsFirstPlace (l ∷ ls) name) at (at_first l ls name (stood name l.label test))
first_by l ls name p false None test is rest = absurd cc
first_by l ls name p false (Some q) test is rest =
    let at : further l q ≡ p = cc in
    subst (IsFirstPlace (l ∷ ls) name) at (at_further l ls name q (not_stood name l.label test) (rest q refl))

is_first : (ls : List Line) (name : List ℕ) (p : Place) → place ls name ≡ Some p → IsFirstPlace ls name p
is_first [] name p is = let no : ◌≡◌ {A = Option Place} None (Some p) = sym (place-none name) ∙ is in absurd cc
is_first (l ∷ ls) name p is =
    first_by l ls name p (stands name l.label) (place ls name) refl
    (sym (place-cons l ls name) ∙ is) (is_first ls name)

nowhere_by : (l : Line) (ls : List Line) (name : List ℕ) (here : Bool) (o : Option Place) (k : ℕ)
    → stands name l.label ≡ here
    → cond here (Some (record { line = 0; value = 0 })) (option_map (further l) o) ≡ None
    → (o ≡ None → (n : ℕ) → label_at ls n ≢ Some name)
    → label_at (l ∷ ls) k ≢ Some name
nowhere_by l ls name true o k test is rest = absurd cc
nowhere_by l ls name false (Some q) k test is rest = absurd cc
nowhere_by l ls name false None zero test is rest = not_stood name l.label test
nowhere_by l ls name false None (suc k) test is rest = rest refl k

nowhere : (ls : List Line) (name : List ℕ) → place ls name ≡ None → (k : ℕ) → label_at ls k ≢ Some name
nowhere [] name is k = none_at k name
nowhere (l ∷ ls) name is k =
    nowhere_by l ls name (stands name l.label) (place ls name) k refl (sym (place-cons l ls name) ∙ is)
    (nowhere ls name)

-- there is one first place
one_line : (ls : List Line) (name : List ℕ) (p q : Place) → IsFirstPlace ls name p → IsFirstPlace ls name q
    → (p.line < q.line → ⊥) × (q.line < p.line → ⊥)
one_line ls name p q f g = (λ less. g.least p.line less f.stands, λ less. f.least q.line less g.stands)

same_place : (p q : Place) → p.line ≡ q.line → p.value ≡ q.value → p ≡ q
same_place p q lines values = λ i. record { line = lines i; value = values i }

one_place : (ls : List Line) (name : List ℕ) (p q : Place) → IsFirstPlace ls name p → IsFirstPlace ls name q → p ≡ q
one_place ls name p q f g =
    let either = one_line ls name p q f g in
    let lines : p.line ≡ q.line = omega (arith, either.0, either.1) in
    same_place p q lines
    (f.value ∙ ap (λ n. count_by (λ (l : Line). is_word l.statement) (take n ls)) lines ∙ sym g.value)

place_is : (ls : List Line) (name : List ℕ) (p : Place) (o : Option Place) → place ls name ≡ o
    → IsFirstPlace ls name p → place ls name ≡ Some p
place_is ls name p None is f = absurd (nowhere ls name is p.line f.stands)
place_is ls name p (Some q) is f =
    is ∙ ap (λ (r : Place). Some r) (one_place ls name q p (is_first ls name q is) f)

place_missing : (ls : List Line) (name : List ℕ) (o : Option Place) → place ls name ≡ o
    → ((k : ℕ) → label_at ls k ≢ Some name) → place ls name ≡ None
place_missing ls name None is none = is
place_missing ls name (Some q) is none = absurd (none q.line (is_first ls name q is).stands)

pub stand_first : LabelsStandFirst
stand_first ls name p = (is_first ls name p, place_is ls name p (place ls name) refl)

pub missing : MissingLabels
missing ls name = (nowhere ls name, place_missing ls name (place ls name) refl)
