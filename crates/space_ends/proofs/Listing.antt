-- What is listed of the ends of a space, one place after another.
use Rattle.std.proofs.Common.{◌≡◌, ℕ, zero, suc, ◌+◌, ◌<◌, ◌≤◌, Bool, true, false, refl, sym, ap, ◌∙◌, subst, cond, arith}
use Rattle.std.proofs.Common.{List, [], ◌∷◌, ◌++◌, length, map, get_or, set, inl, inr, Option, length-append}
use Rattle.std.specs.Prelude.{◌==◌, ◌⊎◌, slice_index}
use Rattle.std.specs.List.{All, AllPairs, filter, count_by}
use Rattle.std.proofs.lemmas.Bool.{cases_lt, ne_eqb, eq-eqb}
use Rattle.std.specs.Prelude.{◌↔◌, IsFalse}
use Rattle.std.proofs.lemmas.List.{get_or_default, get_or-map, length-map, map-append, map-set}
use Rattle.std.proofs.lemmas.List.Elements.{All-nil, All-head, All-tail, All-push, All-set, All-weaker}
use Rattle.std.proofs.lemmas.List.Quantifiers.{all_pairs_push}
use Rattle.std.proofs.lemmas.List.Sums.{sum_by-cons, sum_by_push, sum_by-set}
use Rattle.image_file.specs.ImageValue.{ImageValue}
use Rattle.processor.specs.World.{World}
use Rattle.processor.specs.declared.steps.Step.{Step}
use Rattle.end_states.specs.Judgements.{IsJudgedKind}
use Rattle.end_kinds.specs.declared.kinds.EndKind.{EndKind}
use Rattle.end_kinds.specs.declared.kinds.EndKind.TheVariants as end
use Rattle.end_states.specs.declared.judgements.EndJudgement.{EndJudgement}
use Rattle.expectations.specs.declared.expectation.Expectation.{Expectation}
use Rattle.machine.specs.MachineValue.{MachineValue}
use Rattle.seed_verdicts.specs.ScheduleVerdicts.RightEnds.{AreTrapsExpected}
use Rattle.seed_verdicts.specs.ScheduleSpace.Fates.{IsFate, is_end}
use Rattle.seed_verdicts.specs.ScheduleSpaceTypes.Fate.{Fate}
use Rattle.seed_verdicts.specs.ScheduleSpaceTypes.Fate.TheVariants as fate
use Rattle.seed_verdicts.specs.ScheduleSpace.Spaces.{SpaceValue, count, world_of, schedule_of, machine_after, ShortestFirst}
use Rattle.seed_verdicts.specs.ScheduleSpace.Reaching.{IsEnd}
use Rattle.space_ends.specs.EndsOfSpace.{ListedEnd, listed_of, missed_in, are_ends, IsJudgedAt, IsListedEnd, times_listed, AreEndsBefore}
use Rattle.space_ends.specs.EndsOfSpace.{IsShortestShown, AreEndsOf, with_place, first_listed, IsJudgedSo}
use Rattle.space_ends.specs.Spinning.{are_spinning}
use Rattle.space_ends.specs.declared.end_values.SpaceEnd.{SpaceEnd}
use Rattle.space_ends.specs.declared.end_values.SpaceEndKind.{SpaceEndKind}
use Rattle.space_ends.specs.declared.end_values.SpaceEndKind.TheVariants as kind

-- How often a place is listed.

abbrev times : ℕ → List ℕ → ℕ
times k js = count_by (λ j. j == k) js

-- numbers below n have none from n on
none_past : (js : List ℕ) (n k : ℕ) → All (λ j. j < n) js → n ≤ k → times k js ≡ 0
none_past [] n k all past = refl
none_past (j ∷ js) n k all past =
    let below : j < n = all 0 j (omega arith) in
    let other : (j == k) ≡ false = ne_eqb j k (λ same. omega (arith, below, past, same)) in
    let here : ◌≡◌ {A = ℕ} (cond (j == k) 1 0) 0 = ap (λ (b : Bool). cond b 1 0) other in
    let rest : times k js ≡ 0 = none_past js n k (All-tail (λ i. i < n) j js all) past in
    sum_by-cons (λ i. cond (i == k) 1 0) j js ∙ omega (arith, here, rest)

none_listed : (v : SpaceValue) (expected : List Expectation) (n k : ℕ) (ends : List ListedEnd)
    → All (IsListedEnd v expected n) ends → n ≤ k → times_listed k ends ≡ 0
none_listed v expected n k [] all past = refl
none_listed v expected n k (e ∷ es) all past =
    let here : times k e.places ≡ 0 = none_past e.places n k (All-head (IsListedEnd v expected n) e es all).within past in
    let rest : times_listed k es ≡ 0 =
    none_listed v expected n k es (All-tail (IsListedEnd v expected n) e es all) past in
    sum_by-cons (λ (x : ListedEnd). times k x.places) e es ∙ omega (arith, here, rest)

-- where place n is listed once more, each end below n + 1 is listed once
once_more : (v : SpaceValue) (expected : List Expectation) (n k total : ℕ) (ends : List ListedEnd)
    → AreEndsBefore v expected n ends → k < n + 1 → IsEnd v.image (world_of v k)
    → total ≡ times_listed k ends + cond (n == k) 1 0 → total ≡ 1
once_more v expected n k total ends are within ends_there sum = by (cases_lt k n) where
  by : (k < n) ⊎ (n ≤ k) → total ≡ 1
  by (inl less) =
      let before : times_listed k ends ≡ 1 = are.once k less ends_there in
      let other : (n == k) ≡ false = ne_eqb n k (λ same. omega (arith, less, same)) in
      let here : ◌≡◌ {A = ℕ} (cond (n == k) 1 0) 0 = ap (λ (b : Bool). cond b 1 0) other in
      omega (arith, sum, before, here)
  by (inr most) =
      let before : times_listed k ends ≡ 0 = none_listed v expected n k ends are.each most in
      let same : n ≡ k = omega (arith, most, within) in
      let here : ◌≡◌ {A = ℕ} (cond (n == k) 1 0) 1 = ap (λ (b : Bool). cond b 1 0) (eq-eqb n k same) in
      omega (arith, sum, before, here)

-- One listed end.

later : (v : SpaceValue) (expected : List Expectation) (n : ℕ) (e : ListedEnd) → IsListedEnd v expected n e
    → IsListedEnd v expected (n + 1) e
later v expected n e is = record {
  end_kind = is.end_kind;
  of_kind = is.of_kind;
  some = is.some;
  ascending = is.ascending;
  within = λ k d below. omega (arith, is.within k d below);
  each = is.each;
  schedule = is.schedule;
}

first_stays : (js : List ℕ) (n : ℕ) → 0 < length js → slice_index js 0 ≡ slice_index (js ++ n ∷ []) 0
first_stays [] n some = absurd (omega (arith, some))
first_stays (j ∷ js) n some = refl

judged_alike : (v : SpaceValue) (expected : List Expectation) (n : ℕ) (k l : EndKind) (m o : Option ℕ) (t u : Bool)
    → k ≡ l → m ≡ o → t ≡ u → IsJudgedAt v expected n k m t → IsJudgedAt v expected n l o u
judged_alike v expected n k l m o t u kinds missed traps is =
    subst (λ (x : Bool). IsJudgedAt v expected n l o x) traps
    (subst (λ (x : Option ℕ). IsJudgedAt v expected n l x t) missed
    (subst (λ (x : EndKind). IsJudgedAt v expected n x m t) kinds is))

same_kind : (k l : EndKind) → kind.End k ≡ kind.End l → l ≡ k
same_kind k l e = cc

extended : (v : SpaceValue) (expected : List Expectation) (n : ℕ) (e : ListedEnd) (j : EndJudgement)
    → IsListedEnd v expected n e → IsJudgedSo e j → IsJudgedAt v expected n j.kind j.missed j.is_trapped
    → IsListedEnd v expected (n + 1) (with_place e n)
extended v expected n e j is so judged = record {
  end_kind = is.end_kind;
  of_kind = is.of_kind;
  some = let more = length-append e.places (n ∷ []) in omega (arith, is.some, more);
  ascending = all_pairs_push (λ i k. i < k) e.places n is.ascending (λ k d below. is.within k d below);
  within = All-push (λ k. k < n + 1) e.places n (λ k d below. omega (arith, is.within k d below)) (omega arith);
  each =
      All-push (λ k. IsJudgedAt v expected k is.end_kind e.missed e.is_trapped) e.places n is.each
      (judged_alike v expected n j.kind is.end_kind j.missed e.missed j.is_trapped e.is_trapped
      (same_kind is.end_kind j.kind (sym is.of_kind ∙ so.kind)) (sym so.missed) (sym so.traps) judged);
  schedule = is.schedule ∙ ap (schedule_of v) (first_stays e.places n is.some);
}

started : (v : SpaceValue) (expected : List Expectation) (n : ℕ) (j : EndJudgement)
    → IsJudgedAt v expected n j.kind j.missed j.is_trapped
    → IsListedEnd v expected (n + 1) (first_listed j n (schedule_of v n))
started v expected n j judged = record {
  end_kind = j.kind;
  of_kind = refl;
  some = omega arith;
  ascending = λ i k d less below. absurd (omega (arith, less, below));
  within = All-push (λ k. k < n + 1) [] n (All-nil (λ k. k < n + 1)) (omega arith);
  each =
      All-push (λ k. IsJudgedAt v expected k j.kind j.missed j.is_trapped) [] n
      (All-nil (λ k. IsJudgedAt v expected k j.kind j.missed j.is_trapped)) judged;
  schedule = refl;
}

-- All listed ends.

-- a place at which no run ends
pub passed : (v : SpaceValue) (expected : List Expectation) (n : ℕ) (ends : List ListedEnd)
    → AreEndsBefore v expected n ends → ¬ (IsEnd v.image (world_of v n)) → AreEndsBefore v expected (n + 1) ends
passed v expected n ends are never = record {
  each = All-weaker (IsListedEnd v expected n) (IsListedEnd v expected (n + 1)) (later v expected n) ends are.each;
  once = λ k within ends_there.
      elim (cases_lt k n) [
        | inl less ↦ are.once k less ends_there
        | inr most ↦
            let same : k ≡ n = omega (arith, most, within) in
            absurd (never (subst (λ (x : ℕ). IsEnd v.image (world_of v x)) same ends_there))
      ];
}

-- the first place of a line
pub pushed : (v : SpaceValue) (expected : List Expectation) (n : ℕ) (ends : List ListedEnd) (j : EndJudgement)
    → AreEndsBefore v expected n ends → IsJudgedAt v expected n j.kind j.missed j.is_trapped
    → AreEndsBefore v expected (n + 1) (ends ++ first_listed j n (schedule_of v n) ∷ [])
pushed v expected n ends j are judged = record {
  each =
      All-push (IsListedEnd v expected (n + 1)) ends (first_listed j n (schedule_of v n))
      (All-weaker (IsListedEnd v expected n) (IsListedEnd v expected (n + 1)) (later v expected n) ends are.each)
      (started v expected n j judged);
  once = λ k within ends_there.
      once_more v expected n k _ ends are within ends_there
      (sum_by_push (λ (x : ListedEnd). times k x.places) ends (first_listed j n (schedule_of v n)) ∙ omega arith);
}

-- one more place of a line
pub placed : (v : SpaceValue) (expected : List Expectation) (n : ℕ) (ends : List ListedEnd) (i : ℕ) (e : ListedEnd)
    (j : EndJudgement) → AreEndsBefore v expected n ends → i < length ends → e ≡ get_or ends i e → IsJudgedSo e j
    → IsJudgedAt v expected n j.kind j.missed j.is_trapped
    → AreEndsBefore v expected (n + 1) (set ends i (with_place e n))
placed v expected n ends i e j are below is so judged = record {
  each =
      All-set (IsListedEnd v expected (n + 1)) ends i (with_place e n)
      (extended v expected n e j (subst (IsListedEnd v expected n) (sym is) (are.each i e below)) so judged)
      (All-weaker (IsListedEnd v expected n) (IsListedEnd v expected (n + 1)) (later v expected n) ends are.each);
  once = λ k within ends_there.
      let changed = sum_by-set (λ (x : ListedEnd). times k x.places) ends i (with_place e n) e below in
      let more : times k (e.places ++ n ∷ []) ≡ times k e.places + cond (n == k) 1 0 =
      sum_by_push (λ x. cond (x == k) 1 0) e.places n in
      let same : times k (get_or ends i e).places ≡ times k e.places =
      ap (λ (x : ListedEnd). times k x.places) (sym is) in
      once_more v expected n k _ ends are within ends_there (omega (arith, changed, more, same));
}

-- When all places were looked at.

first_least : (js : List ℕ) (i d : ℕ) → AllPairs (λ x y. x < y) js → i < length js → slice_index js 0 ≤ get_or js i d
first_least js zero d pairs below =
    let same : get_or js 0 0 ≡ get_or js 0 d = get_or_default js 0 0 d below in
    omega (arith, same)
first_least js (suc i) d pairs below =
    let same : get_or js 0 0 ≡ get_or js 0 d = get_or_default js 0 0 d (omega (arith, below)) in
    let less : get_or js 0 d < get_or js (suc i) d = pairs 0 (suc i) d (omega arith) below in
    omega (arith, same, less)

shortest : (v : SpaceValue) (expected : List Expectation) (e : ListedEnd) → ShortestFirst v
    → IsListedEnd v expected (count v) e → IsShortestShown v e
shortest v expected e in_order is i d below =
    let least = first_least e.places i d is.ascending below in
    let same = ap (λ (x : List Step). length x) is.schedule in
    let shown = in_order (slice_index e.places 0) (get_or e.places i d) least (is.within i d below) in
    omega (arith, same, shown)

pub kind_ends : (image : ImageValue) (expected : List Expectation) (w : World) (k : EndKind)
    → IsJudgedKind image expected w k → are_ends (kind.End k) ≡ true
kind_ends image expected w end.Finished is = refl
kind_ends image expected w end.Stopped is = refl
kind_ends image expected w end.Deadlock is = refl
kind_ends image expected w end.Waiting is = refl
kind_ends image expected w end.Spinning is = absurd is
kind_ends image expected w end.Looping is = absurd is
kind_ends image expected w end.OutOfSteps is = refl

pub not_spinning : (k : SpaceEndKind) → are_ends k ≡ true → are_spinning k ≡ false
not_spinning (kind.End end.Finished) is = refl
not_spinning (kind.End end.Stopped) is = refl
not_spinning (kind.End end.Deadlock) is = refl
not_spinning (kind.End end.Waiting) is = refl
not_spinning (kind.End end.Spinning) is = cc
not_spinning (kind.End end.Looping) is = cc
not_spinning (kind.End end.OutOfSteps) is = refl
not_spinning (kind.Broken claim) is = refl
not_spinning kind.Busy is = refl

listed_ends : (v : SpaceValue) (expected : List Expectation) (n : ℕ) (e : ListedEnd) → IsListedEnd v expected n e
    → are_ends e.kind ≡ true
listed_ends v expected n e is =
    ap are_ends is.of_kind
    ∙ kind_ends v.image expected (world_of v (get_or e.places 0 0)) is.end_kind (is.each 0 0 is.some).kind

all_pass : (test : ListedEnd → Bool) (xs : List ListedEnd) → All (λ x. test x ≡ true) xs → filter test xs ≡ xs
all_pass test [] all = refl
all_pass test (x ∷ xs) all =
    ap (λ (b : Bool). cond b (x ∷ filter test xs) (filter test xs)) (All-head (λ y. test y ≡ true) x xs all)
    ∙ ap (λ (ys : List ListedEnd). x ∷ ys) (all_pass test xs (All-tail (λ y. test y ≡ true) x xs all))

all_fail : (test : ListedEnd → Bool) (xs : List ListedEnd) → All (λ x. test x ≡ false) xs → filter test xs ≡ []
all_fail test [] all = refl
all_fail test (x ∷ xs) all =
    ap (λ (b : Bool). cond b (x ∷ filter test xs) (filter test xs)) (All-head (λ y. test y ≡ false) x xs all)
    ∙ all_fail test xs (All-tail (λ y. test y ≡ false) x xs all)

pub all_places : (v : SpaceValue) (expected : List Expectation) (n : ℕ) (ends : List ListedEnd) → ShortestFirst v
    → n ≡ count v → AreEndsBefore v expected n ends → AreEndsOf v expected (filter (λ e. are_ends e.kind) ends)
all_places v expected n ends in_order all are =
    let to_end : AreEndsBefore v expected (count v) ends = subst (λ (x : ℕ). AreEndsBefore v expected x ends) all are in
    let of_ends : AreEndsOf v expected ends = record {
      each = to_end.each;
      once = to_end.once;
      shortest =
          All-weaker (IsListedEnd v expected (count v)) (IsShortestShown v) (λ e. shortest v expected e in_order) ends
          to_end.each;
    } in
    let kept : filter (λ e. are_ends e.kind) ends ≡ ends =
    all_pass (λ e. are_ends e.kind) ends
    (All-weaker (IsListedEnd v expected n) (λ e. are_ends e.kind ≡ true) (listed_ends v expected n) ends are.each) in
    subst (AreEndsOf v expected) (sym kept) of_ends

pub none_spins : (v : SpaceValue) (expected : List Expectation) (n : ℕ) (ends : List ListedEnd)
    → AreEndsBefore v expected n ends → filter (λ e. are_spinning e.kind) ends ≡ []
none_spins v expected n ends are =
    all_fail (λ e. are_spinning e.kind) ends
    (All-weaker (IsListedEnd v expected n) (λ e. are_spinning e.kind ≡ false)
    (λ e is. not_spinning e.kind (listed_ends v expected n e is)) ends are.each)

pub none_yet : (v : SpaceValue) (expected : List Expectation) → AreEndsBefore v expected 0 []
none_yet v expected = record {
  each = All-nil (IsListedEnd v expected 0);
  once = λ k within ends_there. absurd (omega (arith, within));
}

-- What the code reads.

pub fate_ends : (image : ImageValue) (w : World) (f : Fate) → IsFate image w f → is_end f ≡ true → IsEnd image w
fate_ends image w fate.Finished is passes = inl is
fate_ends image w fate.Deadlock is passes = inr is
fate_ends image w fate.GoesOn is passes = cc

pub fate_goes_on : (image : ImageValue) (w : World) (f : Fate) → IsFate image w f → is_end f ≡ false → ¬ (IsEnd image w)
fate_goes_on image w fate.Finished is fails = absurd (cc)
fate_goes_on image w fate.Deadlock is fails = absurd (cc)
fate_goes_on image w fate.GoesOn is fails = λ ends. elim ends [ inl none ↦ none is.0 | inr still ↦ is.1 still ]

pub judged_at : (v : SpaceValue) (expected : List Expectation) (n : ℕ) (m : MachineValue) (j : EndJudgement)
    → m ≡ machine_after v.image (schedule_of v n) → IsEnd v.image (world_of v n)
    → IsJudgedKind m.image expected m.world j.kind
    → j.missed ≡ missed_in m.world expected → (IsFalse j.is_trapped ↔ AreTrapsExpected expected m.world)
    → IsJudgedAt v expected n j.kind j.missed j.is_trapped
judged_at v expected n m j at ends_there kind missed traps = record {
  ends = ends_there;
  kind = subst (λ (x : MachineValue). IsJudgedKind x.image expected x.world j.kind) at kind;
  missed = missed ∙ ap (λ (x : MachineValue). missed_in x.world expected) at;
  traps = subst (λ (x : MachineValue). IsFalse j.is_trapped ↔ AreTrapsExpected expected x.world) at traps;
}

pub placed_in : (v : SpaceValue) (expected : List Expectation) (n : ℕ) (items : List SpaceEnd) (i : ℕ) (x y : SpaceEnd)
    (j : EndJudgement) → AreEndsBefore v expected n (map listed_of items) → i < length items → x ≡ get_or items i x
    → IsJudgedSo (listed_of x) j → IsJudgedAt v expected n j.kind j.missed j.is_trapped
    → listed_of y ≡ with_place (listed_of x) n → AreEndsBefore v expected (n + 1) (map listed_of (set items i y))
placed_in v expected n items i x y j are below here so judged is =
    let long = length-map items listed_of in
    let read : listed_of x ≡ get_or (map listed_of items) i (listed_of x) =
    ap listed_of here ∙ sym (get_or-map listed_of items i x (listed_of x) below) in
    let after : map listed_of (set items i y) ≡ set (map listed_of items) i (with_place (listed_of x) n) =
    map-set listed_of items i y ∙ ap (λ (e : ListedEnd). set (map listed_of items) i e) is in
    subst (AreEndsBefore v expected (n + 1)) (sym after)
    (placed v expected n (map listed_of items) i (listed_of x) j are (omega (arith, below, long)) read so judged)

pub pushed_in : (v : SpaceValue) (expected : List Expectation) (n : ℕ) (items : List SpaceEnd) (x : SpaceEnd)
    (j : EndJudgement) → AreEndsBefore v expected n (map listed_of items)
    → IsJudgedAt v expected n j.kind j.missed j.is_trapped → listed_of x ≡ first_listed j n (schedule_of v n)
    → AreEndsBefore v expected (n + 1) (map listed_of (items ++ x ∷ []))
pushed_in v expected n items x j are judged is =
    let after : map listed_of (items ++ x ∷ []) ≡ map listed_of items ++ first_listed j n (schedule_of v n) ∷ [] =
    map-append listed_of items (x ∷ []) ∙ ap (λ (e : ListedEnd). map listed_of items ++ e ∷ []) is in
    subst (AreEndsBefore v expected (n + 1)) (sym after) (pushed v expected n (map listed_of items) j are judged)
