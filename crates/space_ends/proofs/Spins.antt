-- Sets of worlds that spin, and what an added one leaves of the listed ends.
use Rattle.std.proofs.Common.{◌≡◌, ℕ, zero, suc, ◌<◌, ◌≤◌, Bool, true, false, refl, sym, ap, ◌∙◌, subst, cond, set, arith}
use Rattle.std.proofs.Common.{List, [], ◌∷◌, ◌++◌, length, get_or, map, inl, inr}
use Rattle.std.specs.List.{All, filter, list_all}
use Rattle.std.proofs.lemmas.Bool.{cases_lt}
use Rattle.std.proofs.lemmas.List.{map-append, map-set, get_or-map, length-map}
use Rattle.std.proofs.lemmas.List.Elements.{All-nil, All-cons, All-head, All-tail, All-push, All-append, All-weaker, filter-append}
use Rattle.std.proofs.lemmas.List.Sums.{AllPass-from_list_all}
use Rattle.seed_verdicts.specs.ScheduleSpace.Spaces.{SpaceValue, count, world_of, IsComplete, HasAllEdges}
use Rattle.seed_verdicts.specs.ScheduleSpace.Followed.{AllFollowed}
use Rattle.seed_verdicts.specs.ScheduleSpace.Reaching.{CanEnd, IsMarked}
use Rattle.space_ends.specs.EndsOfSpace.{ListedEnd, listed_of, are_ends, ends_in}
use Rattle.space_ends.specs.Spinning.{are_spinning, spinning_in, SpinsAt, SaysWhatCanEnd, AreSpinning, IsUnmarked}
use Rattle.space_ends.specs.Spinning.{SomeUnmarked, AreUnmarked}
use Rattle.space_ends.specs.declared.end_values.SpaceEnd.{SpaceEnd}
use Rattle.space_ends.proofs.Keeping.{kept_set}

-- Marks.

pub some_unmarked : (marks : List Bool) → list_all (λ b. b) marks ≡ false → SomeUnmarked marks
some_unmarked [] e = absurd (cc)
some_unmarked (true ∷ marks) e =
    let found = some_unmarked marks e in
    (suc found.0, record { within = omega (arith, found.1.within); is = found.1.is })
some_unmarked (false ∷ marks) e = (0, record { within = omega arith; is = refl })

pub none_unmarked : (marks : List Bool) → list_all (λ b. b) marks ≡ true → ¬ (SomeUnmarked marks)
none_unmarked marks all some =
    let marked = AllPass-from_list_all (λ b. b) marks all some.0 false some.1.within in
    let e : true ≡ false = sym marked ∙ some.1.is in
    absurd (cc)

-- A filtered list, of which one element is written.

tail_all : (P : ListedEnd → Type 0) (b : Bool) (x : ListedEnd) (xs : List ListedEnd) → All P (cond b (x ∷ xs) xs)
    → All P xs
tail_all P true x xs all = All-tail P x xs all
tail_all P false x xs all = all

cons_all : (P : ListedEnd → Type 0) (b : Bool) (x : ListedEnd) (xs : List ListedEnd) → P x → All P xs
    → All P (cond b (x ∷ xs) xs)
cons_all P true x xs here all = All-cons P x xs here all
cons_all P false x xs here all = all

with_tail : (P : ListedEnd → Type 0) (b : Bool) (x : ListedEnd) (xs ys : List ListedEnd)
    → All P (cond b (x ∷ xs) xs) → All P ys → All P (cond b (x ∷ ys) ys)
with_tail P true x xs ys all new = All-cons P x ys (All-head P x xs all) new
with_tail P false x xs ys all new = new

all_kept_set : (P : ListedEnd → Type 0) (test : ListedEnd → Bool) (xs : List ListedEnd) (i : ℕ) (y : ListedEnd)
    → All P (filter test xs) → P y → All P (filter test (set xs i y))
all_kept_set P test [] i y all here = all
all_kept_set P test (x ∷ xs) zero y all here =
    cons_all P (test y) y (filter test xs) here (tail_all P (test x) x (filter test xs) all)
all_kept_set P test (x ∷ xs) (suc i) y all here =
    with_tail P (test x) x (filter test xs) (filter test (set xs i y)) all
    (all_kept_set P test xs i y (tail_all P (test x) x (filter test xs) all) here)

found_in : (P : ListedEnd → Type 0) (test : ListedEnd → Bool) (xs : List ListedEnd) (i : ℕ) (d : ListedEnd)
    → All P (filter test xs) → i < length xs → test (get_or xs i d) ≡ true → P (get_or xs i d)
found_in P test [] i d all below passes = absurd (omega (arith, below))
found_in P test (x ∷ xs) zero d all below passes =
    All-head P x (filter test xs)
    (subst (λ (b : Bool). All P (cond b (x ∷ filter test xs) (filter test xs))) passes all)
found_in P test (x ∷ xs) (suc i) d all below passes =
    found_in P test xs i d (tail_all P (test x) x (filter test xs) all) (omega (arith, below)) passes

longer : (b : Bool) (x : ListedEnd) (xs : List ListedEnd) → 0 < length xs → 0 < length (cond b (x ∷ xs) xs)
longer true x xs some = omega arith
longer false x xs some = some

some_kept_set : (test : ListedEnd → Bool) (xs : List ListedEnd) (i : ℕ) (y : ListedEnd) → test y ≡ true
    → i < length xs → 0 < length (filter test (set xs i y))
some_kept_set test [] i y passes below = absurd (omega (arith, below))
some_kept_set test (x ∷ xs) zero y passes below =
    let some : 0 < length (y ∷ filter test xs) = omega arith in
    subst (λ (b : Bool). 0 < length (cond b (y ∷ filter test xs) (filter test xs))) (sym passes) some
some_kept_set test (x ∷ xs) (suc i) y passes below =
    longer (test x) x (filter test (set xs i y)) (some_kept_set test xs i y passes (omega (arith, below)))

pushed_kept : (test : ListedEnd → Bool) (xs : List ListedEnd) (y : ListedEnd) → test y ≡ true
    → filter test (xs ++ y ∷ []) ≡ filter test xs ++ y ∷ []
pushed_kept test xs y passes =
    filter-append test xs (y ∷ []) ∙ ap (λ (b : Bool). filter test xs ++ cond b (y ∷ []) []) passes

-- A set that spins, added to the end of its line or as a new one.

-- an end at this place of a list is written anew, and both spin
pub record IsSpunAnew (items : List SpaceEnd) (i : ℕ) (x y : SpaceEnd) : Type 0 where
  pub below : i < length items
  pub here : x ≡ get_or items i x
  pub was : are_spinning x.kind ≡ true
  pub is : are_spinning y.kind ≡ true
  pub was_none : are_ends x.kind ≡ false
  pub is_none : are_ends y.kind ≡ false

read_at : (items : List SpaceEnd) (i : ℕ) (x y : SpaceEnd) → IsSpunAnew items i x y
    → get_or (map listed_of items) i (listed_of x) ≡ listed_of x
read_at items i x y anew = get_or-map listed_of items i x (listed_of x) anew.below ∙ sym (ap listed_of anew.here)

pub ends_stay : (items : List SpaceEnd) (i : ℕ) (x y : SpaceEnd) → IsSpunAnew items i x y
    → ends_in (set items i y) ≡ ends_in items
ends_stay items i x y anew =
    ap (filter (λ (e : ListedEnd). are_ends e.kind)) (map-set listed_of items i y)
    ∙ kept_set (λ (e : ListedEnd). are_ends e.kind) (map listed_of items) i (listed_of x) (listed_of y)
    (ap (λ (e : ListedEnd). are_ends e.kind) (read_at items i x y anew) ∙ anew.was_none) anew.is_none

pub spun_some : (items : List SpaceEnd) (i : ℕ) (x y : SpaceEnd) → IsSpunAnew items i x y
    → 0 < length (spinning_in (set items i y))
spun_some items i x y anew =
    let test : ListedEnd → Bool = λ e. are_spinning e.kind in
    let long = length-map items listed_of in
    subst (λ (xs : List ListedEnd). 0 < length (filter test xs)) (sym (map-set listed_of items i y))
    (some_kept_set test (map listed_of items) i (listed_of y) anew.is (omega (arith, anew.below, long)))

pub spun_each : (items : List SpaceEnd) (i : ℕ) (x y : SpaceEnd) (marks : List Bool) (more : List ℕ)
    → IsSpunAnew items i x y → y.places.items ≡ x.places.items ++ more → All (IsUnmarked marks) more
    → AreUnmarked marks (spinning_in items) → AreUnmarked marks (spinning_in (set items i y))
spun_each items i x y marks more anew places new all =
    let test : ListedEnd → Bool = λ e. are_spinning e.kind in
    let P : ListedEnd → Type 0 = λ e. All (IsUnmarked marks) e.places in
    let long = length-map items listed_of in
    let read = read_at items i x y anew in
    let old : P (listed_of x) =
    subst P read
    (found_in P test (map listed_of items) i (listed_of x) all (omega (arith, anew.below, long))
    (ap test read ∙ anew.was)) in
    let both : All (IsUnmarked marks) (x.places.items ++ more) =
    All-append (IsUnmarked marks) x.places.items more old new in
    let here : P (listed_of y) = subst (All (IsUnmarked marks)) (sym places) both in
    subst (λ (xs : List ListedEnd). All P (filter test xs)) (sym (map-set listed_of items i y))
    (all_kept_set P test (map listed_of items) i (listed_of y) all here)

pushed_in : (items : List SpaceEnd) (y : SpaceEnd) → are_spinning y.kind ≡ true
    → spinning_in (items ++ y ∷ []) ≡ spinning_in items ++ listed_of y ∷ []
pushed_in items y is =
    ap (filter (λ (e : ListedEnd). are_spinning e.kind)) (map-append listed_of items (y ∷ []))
    ∙ pushed_kept (λ (e : ListedEnd). are_spinning e.kind) (map listed_of items) (listed_of y) is

some_pushed : (xs : List ListedEnd) (y : ListedEnd) → 0 < length (xs ++ y ∷ [])
some_pushed [] y = omega arith
some_pushed (x ∷ xs) y = omega arith

pub push_some : (items : List SpaceEnd) (y : SpaceEnd) → are_spinning y.kind ≡ true
    → 0 < length (spinning_in (items ++ y ∷ []))
push_some items y is =
    subst (λ (xs : List ListedEnd). 0 < length xs) (sym (pushed_in items y is))
    (some_pushed (spinning_in items) (listed_of y))

pub push_each : (items : List SpaceEnd) (y : SpaceEnd) (marks : List Bool) → are_spinning y.kind ≡ true
    → All (IsUnmarked marks) y.places.items → AreUnmarked marks (spinning_in items)
    → AreUnmarked marks (spinning_in (items ++ y ∷ []))
push_each items y marks is new all =
    let P : ListedEnd → Type 0 = λ e. All (IsUnmarked marks) e.places in
    subst (All P) (sym (pushed_in items y is)) (All-push P (spinning_in items) (listed_of y) all new)

-- What the marks of a space say.

-- the marks say of each place of a space whether an end can be reached from there, as far as the space has what it takes
pub record AreReachMarks (v : SpaceValue) (marks : List Bool) : Type 0 where
  pub each : length marks ≡ count v
  pub reach : (k : ℕ) → k < count v → IsMarked marks k → CanEnd v.image (world_of v k)
  pub all : IsComplete v → HasAllEdges v → (k : ℕ) → k < count v → CanEnd v.image (world_of v k) → IsMarked marks k
  pub followed : AllFollowed v → (k : ℕ) → k < count v → CanEnd v.image (world_of v k) → IsMarked marks k

not_both : (b : Bool) → b ≡ true → b ≡ false → ⊥
not_both b passes fails = let e : true ≡ false = sym passes ∙ fails in absurd (cc)

unmarked_or : (b : Bool) → ¬ (b ≡ true) → b ≡ false
unmarked_or true never = absurd (never refl)
unmarked_or false never = refl

spins_unmarked : (v : SpaceValue) (marks : List Bool) (k : ℕ) → AreReachMarks v marks → SpinsAt v k → IsUnmarked marks k
spins_unmarked v marks k are spins = record {
  within = let long = are.each in omega (arith, long, spins.within);
  is = unmarked_or (get_or marks k false) (λ passes. spins.never (are.reach k spins.within passes));
}

unmarked_spins : (v : SpaceValue) (marks : List Bool) (k : ℕ) → AreReachMarks v marks → SaysWhatCanEnd v
    → IsUnmarked marks k → SpinsAt v k
unmarked_spins v marks k are says fails =
    let within : k < count v = let long = are.each in omega (arith, long, fails.within) in
    record {
      within = within;
      never = λ can.
          elim says [
            | inl whole ↦ not_both (get_or marks k false) (are.all whole.0 whole.1 k within can) fails.is
            | inr all ↦ not_both (get_or marks k false) (are.followed all k within can) fails.is
          ];
    }

pub all_spinning : (v : SpaceValue) (marks : List Bool) (ends : List ListedEnd) → AreReachMarks v marks
    → (SomeUnmarked marks → 0 < length ends) → (0 < length ends → SomeUnmarked marks) → AreUnmarked marks ends
    → AreSpinning v ends
all_spinning v marks ends are some only each = record {
  some = λ k spins. some (k, spins_unmarked v marks k are spins);
  only = λ says listed.
      let found = only listed in
      (found.0, unmarked_spins v marks found.0 are says found.1);
  each = λ says.
      All-weaker (λ (e : ListedEnd). All (IsUnmarked marks) e.places) (λ (e : ListedEnd). All (SpinsAt v) e.places)
      (λ e all.
      All-weaker (IsUnmarked marks) (SpinsAt v) (λ k fails. unmarked_spins v marks k are says fails) e.places all)
      ends each;
}

-- when all sets were added, to ends of which none spun
pub all_added : (v : SpaceValue) (marks : List Bool) (before ends : List ListedEnd) (index sets : ℕ)
    → AreReachMarks v marks → before ≡ [] → sets ≤ index → index ≤ sets → (SomeUnmarked marks → 0 < sets)
    → (0 < sets → SomeUnmarked marks) → (0 < index → 0 < length ends) → (index ≡ 0 → ends ≡ before)
    → (AreUnmarked marks before → AreUnmarked marks ends) → AreSpinning v ends
all_added v marks before ends index sets are none past within some only added not_added each =
    let nothing : AreUnmarked marks [] = All-nil (λ (e : ListedEnd). All (IsUnmarked marks) e.places) in
    all_spinning v marks ends are
    (λ unmarked. added (let there = some unmarked in omega (arith, there, past)))
    (λ listed.
    elim (cases_lt 0 index) [
      | inl begun ↦ only (omega (arith, begun, within))
      | inr not_begun ↦
          let is = not_added (omega (arith, not_begun)) ∙ none in
          let long = ap (λ (xs : List ListedEnd). length xs) is in
          absurd (omega (arith, listed, long))
    ])
    (each (subst (AreUnmarked marks) (sym none) nothing))
