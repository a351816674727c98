-- What an end that is added or changed leaves as it is.
use Rattle.std.proofs.Common.{◌≡◌, ℕ, zero, suc, Bool, true, false, refl, sym, ap, subst, ◌∙◌, cond, set}
use Rattle.std.proofs.Common.{List, [], ◌∷◌, ◌++◌, get_or, map, append-nil}
use Rattle.std.specs.List.{filter}
use Rattle.std.proofs.lemmas.List.{map-append}
use Rattle.std.specs.Prelude.{IsTrue, MatchOption, Option, Some, None}
use Rattle.std.proofs.lemmas.List.Elements.{filter-append, All-head, All-tail, All-push, All-set}
use Rattle.space_ends.specs.EndsOfSpace.{ListedEnd, listed_of, are_ends, ends_in}
use Rattle.space_ends.specs.Spinning.{are_spinning, spinning_in}
use Rattle.space_ends.specs.Judging.{is_end_kind}
use Rattle.space_ends.specs.Loops.{LoopingEnd, looping_of, is_busy_kind, busy_in, AreAllEnds}
use Rattle.space_ends.specs.declared.end_values.SpaceEnd.{SpaceEnd}
use Rattle.space_ends.specs.declared.end_values.SpaceEndKind.{SpaceEndKind}
use Rattle.space_ends.specs.declared.end_values.SpaceEndKind.TheVariants as kind

-- one more that fails a test
kept_push : {A : Type 0} (f : SpaceEnd → A) (test : A → Bool) (items : List SpaceEnd) (x : SpaceEnd)
    → test (f x) ≡ false → filter test (map f (items ++ x ∷ [])) ≡ filter test (map f items)
kept_push f test items x fails =
    ap (filter test) (map-append f items (x ∷ []))
    ∙ filter-append test (map f items) (f x ∷ [])
    ∙ ap (λ (b : Bool). filter test (map f items) ++ cond b (f x ∷ []) []) fails
    ∙ append-nil (filter test (map f items))

pub ends_push : (items : List SpaceEnd) (x : SpaceEnd) → are_ends x.kind ≡ false
    → ends_in (items ++ x ∷ []) ≡ ends_in items
ends_push items x fails = kept_push listed_of (λ e. are_ends e.kind) items x fails

pub spinning_push : (items : List SpaceEnd) (x : SpaceEnd) → are_spinning x.kind ≡ false
    → spinning_in (items ++ x ∷ []) ≡ spinning_in items
spinning_push items x fails = kept_push listed_of (λ e. are_spinning e.kind) items x fails

pub busy_push : (items : List SpaceEnd) (x : SpaceEnd) → is_busy_kind x.kind ≡ false
    → busy_in (items ++ x ∷ []) ≡ busy_in items
busy_push items x fails = kept_push looping_of (λ e. is_busy_kind e.kind) items x fails

-- where a stream loops alone is no end, and no set that spins
not_busy : (k : SpaceEndKind) → is_end_kind k ≡ true → is_busy_kind k ≡ false
not_busy (kind.End k) is = refl
not_busy (kind.Broken claim) is = refl
not_busy kind.Busy is = cc

pub none_busy : (items : List SpaceEnd) → AreAllEnds items → busy_in items ≡ []
none_busy [] all = refl
none_busy (e ∷ es) all =
    let P : SpaceEnd → Type 0 = λ x. IsTrue (is_end_kind x.kind) in
    ap (λ (b : Bool). cond b (looping_of e ∷ busy_in es) (busy_in es)) (not_busy e.kind (All-head P e es all))
    ∙ none_busy es (All-tail P e es all)

-- the first one where a stream loops alone
pub busy_first : (items : List SpaceEnd) (x : SpaceEnd) → AreAllEnds items → is_busy_kind x.kind ≡ true
    → busy_in (items ++ x ∷ []) ≡ looping_of x ∷ []
busy_first items x all is =
    let test : LoopingEnd → Bool = λ e. is_busy_kind e.kind in
    ap (filter test) (map-append looping_of items (x ∷ []))
    ∙ filter-append test (map looping_of items) (looping_of x ∷ [])
    ∙ ap (λ (b : Bool). busy_in items ++ cond b (looping_of x ∷ []) []) is
    ∙ ap (λ (es : List LoopingEnd). es ++ looping_of x ∷ []) (none_busy items all)

-- what is said of something that may be there, where it is and where it is not
pub at_some : {B : Type 0} (P : Type 0) (F : B → Type 0) (o : Option B) (b : B) → o ≡ Some b → F b → MatchOption o P F
at_some {B} P F o b is f = subst (λ (x : Option B). MatchOption x P F) (sym is) f

pub at_none : {B : Type 0} (P : Type 0) (F : B → Type 0) (o : Option B) → o ≡ None → P → MatchOption o P F
at_none {B} P F o is p = subst (λ (x : Option B). MatchOption x P F) (sym is) p

-- one more end, and one with more places
pub all_ends_push : (items : List SpaceEnd) (x : SpaceEnd) → is_end_kind x.kind ≡ true → AreAllEnds items
    → AreAllEnds (items ++ x ∷ [])
all_ends_push items x is all = All-push (λ (e : SpaceEnd). IsTrue (is_end_kind e.kind)) items x all is

pub all_ends_set : (items : List SpaceEnd) (i : ℕ) (x : SpaceEnd) → is_end_kind x.kind ≡ true → AreAllEnds items
    → AreAllEnds (set items i x)
all_ends_set items i x is all = All-set (λ (e : SpaceEnd). IsTrue (is_end_kind e.kind)) items i x is all

-- one that fails a test in the place of another one
pub kept_set : (test : ListedEnd → Bool) (xs : List ListedEnd) (i : ℕ) (d y : ListedEnd) → test (get_or xs i d) ≡ false
    → test y ≡ false → filter test (set xs i y) ≡ filter test xs
kept_set test [] i d y was is = refl
kept_set test (x ∷ xs) zero d y was is =
    ap (λ (b : Bool). cond b (y ∷ filter test xs) (filter test xs)) is
    ∙ sym (ap (λ (b : Bool). cond b (x ∷ filter test xs) (filter test xs)) was)
kept_set test (x ∷ xs) (suc i) d y was is =
    ap (λ (zs : List ListedEnd). cond (test x) (x ∷ zs) zs) (kept_set test xs i d y was is)
