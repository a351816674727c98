-- What listed ends show, and what sets that spin miss.
use Rattle.std.proofs.Common.{◌≡◌, ℕ, suc, ◌+◌, ◌<◌, ◌≤◌, ◌⊎◌, Bool, true, false, refl, sym, ap, ◌∙◌, subst, set, arith, min}
use Rattle.std.proofs.Common.{List, [], ◌∷◌, ◌++◌, length, map, get_or, inl, inr, Option, Some, None, length-append}
use Rattle.std.specs.Prelude.{◌↔◌, IsTrue, IsFalse, not}
use Rattle.std.specs.List.{All}
use Rattle.std.proofs.Math.ListN.{take}
use Rattle.std.proofs.Math.Seq.{take-suc}
use Rattle.std.proofs.Math.Nat.{min-le_left, min-le_right, min-eq_left, min-eq_right}
use Rattle.std.proofs.lemmas.Bool.{cases_lt}
use Rattle.std.proofs.lemmas.List.{map-append, map-set, get_or-map, length-map, get_or_append_left}
use Rattle.std.proofs.lemmas.List.Elements.{All-nil, All-push, All-append, All-set, All-weaker}
use Rattle.std.proofs.lemmas.List.Elements.{Contains-append_left, Contains-push}
use Rattle.std.proofs.lemmas.Option.{same_Some}
use Rattle.machine.specs.MachineValue.{MachineValue}
use Rattle.end_states.specs.Judgements.{IsJudgedKind}
use Rattle.end_kinds.specs.declared.kinds.EndKind.{EndKind}
use Rattle.end_kinds.specs.declared.kinds.EndKind.TheVariants as end
use Rattle.changed_words.specs.Changed.{changed_words}
use Rattle.seed_verdicts.specs.ScheduleSpace.Spaces.{SpaceValue, schedule_of, world_of, machine_after}
use Rattle.expectations.specs.declared.expectation.Expectation.{Expectation}
use Rattle.seed_verdicts.specs.ScheduleVerdicts.RightEnds.{AreTrapsExpected, may_loop}
use Rattle.end_states.specs.EndStates.{trap_stops, waiting_streams, IsEndState, AreSameStates}
use Rattle.end_states.specs.declared.states.EndState.{EndState}
use Rattle.space_ends.specs.EndsOfSpace.{are_ends, missed_in}
use Rattle.space_ends.specs.Judging.{is_end_kind}
use Rattle.space_ends.specs.Spinning.{are_spinning}
use Rattle.space_ends.specs.Shown.{ShownEnd, shown_of, IsShownAt, IsNotAfter, IsMissedBySome, IsFirstMissedBy, IsSpinningSet}
use Rattle.space_ends.specs.Shown.{IsShownSo, AreShownSo, shown_with, earlier}
use Rattle.space_ends.specs.declared.end_values.SpaceEnd.{SpaceEnd}
use Rattle.space_ends.specs.declared.end_values.SpaceEndKind.{SpaceEndKind}
use Rattle.space_ends.specs.declared.end_values.SpaceEndKind.TheVariants as kind
use Rattle.space_ends.proofs.Listing.{kind_ends, not_spinning}

-- what says that something is not so
pub flipped : (b : Bool) (P : Type 0) → (IsTrue b ↔ P) → IsFalse (not b) ↔ P
flipped true P both = (λ e. both.0 refl, λ p. refl)
flipped false P both = (λ e. absurd (cc), λ p. absurd (let h : false ≡ true = both.1 p in let g : ⊥ = cc in g))

-- Listed ends.

-- one that is neither a set that spins nor an end
pub shown_none : (v : SpaceValue) (expected : List Expectation) (e : ShownEnd) → are_spinning e.kind ≡ false
    → are_ends e.kind ≡ false → IsShownSo v expected e
shown_none v expected e spins ends = record {
  set = λ passes. let h : true ≡ false = sym passes ∙ spins in absurd (cc);
  end = λ passes. let h : true ≡ false = sym passes ∙ ends in absurd (cc);
}

-- what spins is no end at which runs end, but an end
pub no_end : (k : SpaceEndKind) → are_spinning k ≡ true → are_ends k ≡ false
no_end (kind.End end.Finished) is = cc
no_end (kind.End end.Stopped) is = cc
no_end (kind.End end.Deadlock) is = cc
no_end (kind.End end.Waiting) is = cc
no_end (kind.End end.Spinning) is = refl
no_end (kind.End end.Looping) is = refl
no_end (kind.End end.OutOfSteps) is = cc
no_end (kind.Broken claim) is = cc
no_end kind.Busy is = cc

pub of_end_kind : (k : SpaceEndKind) → are_spinning k ≡ true → is_end_kind k ≡ true
of_end_kind (kind.End k) is = refl
of_end_kind (kind.Broken claim) is = cc
of_end_kind kind.Busy is = cc

-- a set that spins
pub shown_set : (v : SpaceValue) (expected : List Expectation) (e : ShownEnd) → are_ends e.kind ≡ false
    → IsSpinningSet v expected e → IsShownSo v expected e
shown_set v expected e ends is = record {
  set = λ passes. is;
  end = λ passes. let h : true ≡ false = sym passes ∙ ends in absurd (cc);
}

-- an end
pub shown_end : (v : SpaceValue) (expected : List Expectation) (e : ShownEnd) → are_spinning e.kind ≡ false
    → All (IsShownAt v e) e.places → IsShownSo v expected e
shown_end v expected e spins are = record {
  set = λ passes. let h : true ≡ false = sym passes ∙ spins in absurd (cc);
  end = λ passes. are;
}

pub shown_push : (v : SpaceValue) (expected : List Expectation) (items : List SpaceEnd) (x : SpaceEnd)
    → IsShownSo v expected (shown_of x) → AreShownSo v expected items → AreShownSo v expected (items ++ x ∷ [])
shown_push v expected items x here all =
    subst (All (IsShownSo v expected)) (sym (map-append shown_of items (x ∷ [])))
    (All-push (IsShownSo v expected) (map shown_of items) (shown_of x) all here)

pub shown_push_none : (v : SpaceValue) (expected : List Expectation) (items : List SpaceEnd) (x : SpaceEnd)
    → are_spinning x.kind ≡ false → are_ends x.kind ≡ false → AreShownSo v expected items
    → AreShownSo v expected (items ++ x ∷ [])
shown_push_none v expected items x spins ends all =
    shown_push v expected items x (shown_none v expected (shown_of x) spins ends) all

pub shown_place : (v : SpaceValue) (expected : List Expectation) (items : List SpaceEnd) (i : ℕ) (y : SpaceEnd)
    → IsShownSo v expected (shown_of y) → AreShownSo v expected items → AreShownSo v expected (set items i y)
shown_place v expected items i y here all =
    subst (All (IsShownSo v expected)) (sym (map-set shown_of items i y))
    (All-set (IsShownSo v expected) (map shown_of items) i (shown_of y) here all)

-- what one of them says
pub shown_in : (v : SpaceValue) (expected : List Expectation) (items : List SpaceEnd) (i : ℕ) (x : SpaceEnd)
    → AreShownSo v expected items → i < length items → x ≡ get_or items i x → IsShownSo v expected (shown_of x)
shown_in v expected items i x all below here =
    let read : get_or (map shown_of items) i (shown_of x) ≡ shown_of x =
    get_or-map shown_of items i x (shown_of x) below ∙ sym (ap shown_of here) in
    let long = length-map items shown_of in
    subst (IsShownSo v expected) read (all i (shown_of x) (omega (arith, below, long)))

-- Ends of one line.

-- what the world of a machine shows, which is the one at a place
shown_at : (v : SpaceValue) (n : ℕ) (m : MachineValue) (e : ShownEnd) (s : EndState)
    → m ≡ machine_after v.image (schedule_of v n) → IsEndState m s → e.stopped ≡ s.stopped.items
    → e.waiting ≡ s.waiting.items → e.changed ≡ s.changed.items → IsShownAt v e n
shown_at v n m e s at is stopped waiting changed = record {
  stopped = stopped ∙ is.stopped ∙ ap (λ (x : MachineValue). trap_stops x.world) at;
  waiting = waiting ∙ is.waiting ∙ ap waiting_streams at;
  changed = changed ∙ is.changed ∙ ap (λ (x : MachineValue). changed_words x.image x.world.memory) at;
}

-- the places of an end do not matter for what it shows at one
shown_alike : (v : SpaceValue) (e : ShownEnd) (n k : ℕ) → IsShownAt v e k → IsShownAt v (shown_with e n) k
shown_alike v e n k is = record { stopped = is.stopped; waiting = is.waiting; changed = is.changed }

-- the first end of a line
pub shown_first : (v : SpaceValue) (expected : List Expectation) (n : ℕ) (m : MachineValue) (k : EndKind) (s : EndState)
    (x : SpaceEnd) → m ≡ machine_after v.image (schedule_of v n) → IsJudgedKind m.image expected m.world k → IsEndState m s
    → x.kind ≡ kind.End k → x.state ≡ s → x.places.items ≡ n ∷ [] → IsShownSo v expected (shown_of x)
shown_first v expected n m k s x at of_kind is kind state places =
    let ends : are_ends x.kind ≡ true = ap are_ends kind ∙ kind_ends m.image expected m.world k of_kind in
    let here : IsShownAt v (shown_of x) n =
    shown_at v n m (shown_of x) s at is (ap (λ (y : EndState). y.stopped.items) state)
    (ap (λ (y : EndState). y.waiting.items) state) (ap (λ (y : EndState). y.changed.items) state) in
    shown_end v expected (shown_of x) (not_spinning x.kind ends)
    (subst (All (IsShownAt v (shown_of x))) (sym places)
    (All-push (IsShownAt v (shown_of x)) [] n (All-nil (IsShownAt v (shown_of x))) here))

-- an end with one place more, at which the world shows the same
pub shown_line : (v : SpaceValue) (expected : List Expectation) (n : ℕ) (m : MachineValue) (k : EndKind) (s : EndState)
    (items : List SpaceEnd) (i : ℕ) (x y : SpaceEnd) → m ≡ machine_after v.image (schedule_of v n)
    → IsJudgedKind m.image expected m.world k → IsEndState m s → AreShownSo v expected items → i < length items
    → x ≡ get_or items i x → x.kind ≡ kind.End k → AreSameStates x.state s → shown_of y ≡ shown_with (shown_of x) n
    → AreShownSo v expected (set items i y)
shown_line v expected n m k s items i x y at of_kind is all below there kind same more =
    let ends : are_ends x.kind ≡ true = ap are_ends kind ∙ kind_ends m.image expected m.world k of_kind in
    let e = shown_of x in
    let before = shown_in v expected items i x all below there in
    let here : IsShownAt v e n = shown_at v n m e s at is same.stopped same.waiting same.changed in
    let so : IsShownSo v expected (shown_with e n) =
    shown_end v expected (shown_with e n) (not_spinning x.kind ends)
    (All-weaker (IsShownAt v e) (IsShownAt v (shown_with e n)) (shown_alike v e n) (e.places ++ n ∷ [])
    (All-push (IsShownAt v e) e.places n (before.end ends) here)) in
    shown_place v expected items i y (subst (IsShownSo v expected) (sym more) so) all

-- the first so many of a list, and one more
pub take_more : (xs : List ℕ) (n : ℕ) → n < length xs → take (n + 1) xs ≡ take n xs ++ get_or xs n 0 ∷ []
take_more xs n below =
    subst (λ (m : ℕ). take m xs ≡ take n xs ++ get_or xs n 0 ∷ []) one (take-suc xs n 0 below)
  where
    one : suc n ≡ n + 1
    one = omega arith

-- What worlds miss.

keeps : (a b other : Option ℕ) → IsNotAfter a other → IsNotAfter (earlier a b) other
keeps None b other before j is =
    let found = before j is in
    let h : ◌≡◌ {A = Option ℕ} None (Some found.0) = found.1 in
    absurd (cc)
keeps (Some i) None other before j is = before j is
keeps (Some i) (Some k) other before j is =
    let found = before j is in
    let same : i ≡ found.0 = same_Some i found.0 found.1 in
    let less = min-le_left i k in
    let far = found.2 in
    (min i k, refl, omega (arith, same, less, far))

adds : (a b : Option ℕ) → IsNotAfter (earlier a b) b
adds None b j is = (j, is, omega arith)
adds (Some i) None j is = absurd (cc)
adds (Some i) (Some k) j is =
    let same : k ≡ j = same_Some k j is in
    let less = min-le_right i k in
    (min i k, refl, omega (arith, same, less))

which : (a b : Option ℕ) (i : ℕ) → earlier a b ≡ Some i → (a ≡ Some i) ⊎ (b ≡ Some i)
which None b i is = inr is
which (Some j) None i is = inl is
which (Some j) (Some k) i is = by (cases_lt j k)
  where
    by : (j < k) ⊎ (k ≤ j) → (◌≡◌ {A = Option ℕ} (Some j) (Some i)) ⊎ (◌≡◌ {A = Option ℕ} (Some k) (Some i))
    by (inl less) = inl (ap Some (sym (min-eq_left {n = j} {m = k} (omega (arith, less)))) ∙ is)
    by (inr most) = inr (ap Some (sym (min-eq_right {n = k} {m = j} most)) ∙ is)

pub missed_by_none : (v : SpaceValue) (expected : List Expectation) → IsFirstMissedBy v expected [] None
missed_by_none v expected = record {
  least = All-nil (λ k. IsNotAfter None (missed_in (world_of v k) expected));
  shown = λ i is. absurd (cc);
}

still_missed : (v : SpaceValue) (expected : List Expectation) (places more : List ℕ) (i : ℕ)
    → IsMissedBySome v expected places i → IsMissedBySome v expected (places ++ more) i
still_missed v expected places more i is = record {
  place = is.place;
  among = Contains-append_left places more is.place is.among;
  missed = is.missed;
}

-- of these worlds and one more
pub missed_by_more : (v : SpaceValue) (expected : List Expectation) (places : List ℕ) (place : ℕ) (first : Option ℕ)
    → IsFirstMissedBy v expected places first
    → IsFirstMissedBy v expected (places ++ place ∷ []) (earlier first (missed_in (world_of v place) expected))
missed_by_more v expected places place first before =
    let here : Option ℕ = missed_in (world_of v place) expected in
    let P : ℕ → Type 0 = λ k. IsNotAfter (earlier first here) (missed_in (world_of v k) expected) in
    record {
      least =
          All-push P places place
          (All-weaker (λ k. IsNotAfter first (missed_in (world_of v k) expected)) P
          (λ k old. keeps first here (missed_in (world_of v k) expected) old) places before.least)
          (adds first here);
      shown = λ i is.
          elim (which first here i is) [
            | inl old ↦ still_missed v expected places (place ∷ []) i (before.shown i old)
            | inr new ↦ record {
              place = place;
              among = Contains-push places place;
              missed = new;
            }
          ];
    }

-- of the worlds of two sets that miss the same
pub missed_by_both : (v : SpaceValue) (expected : List Expectation) (places more : List ℕ) (first : Option ℕ)
    → IsFirstMissedBy v expected places first → IsFirstMissedBy v expected more first
    → IsFirstMissedBy v expected (places ++ more) first
missed_by_both v expected places more first one other = record {
  least = All-append (λ k. IsNotAfter first (missed_in (world_of v k) expected)) places more one.least other.least;
  shown = λ i is. still_missed v expected places more i (one.shown i is);
}

-- a set that spins with the worlds of another one that misses the same
pub set_with : (v : SpaceValue) (expected : List Expectation) (e : ShownEnd) (more : List ℕ)
    → IsSpinningSet v expected e → (IsFalse (may_loop expected) → IsFirstMissedBy v expected more e.missed)
    → IsSpinningSet v expected (record e { places = e.places ++ more })
set_with v expected e more is new =
    let long = length-append e.places more in
    let first : get_or (e.places ++ more) 0 0 ≡ get_or e.places 0 0 = get_or_append_left e.places more 0 0 is.some in
    record {
      kind = is.kind;
      some = let some = is.some in omega (arith, long, some);
      stopped = subst (λ (k : ℕ). e.stopped ≡ trap_stops (world_of v k)) (sym first) is.stopped;
      traps = subst (λ (k : ℕ). IsFalse e.is_trapped ↔ AreTrapsExpected expected (world_of v k)) (sym first) is.traps;
      missed = λ must_end. missed_by_both v expected e.places more e.missed (is.missed must_end) (new must_end);
      allowed = is.allowed;
    }
