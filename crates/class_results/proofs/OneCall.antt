-- What parts and merges give is what one call does.
use Rattle.std.proofs.Common.{◌≡◌, ◌<◌, ◌≤◌, ◌+◌, ◌%◌, ◌⊎◌, ◌&&◌, ◌||◌, ℕ, zero, suc, Bool, true, false, cond, List, [], ◌∷◌, map, Option, Some, None}
use Rattle.std.proofs.Common.{◌++◌, length, get_or, drop, inl, inr, subst, sym, ap, ◌∙◌, arith, refl, append_assoc, append-nil, add-one}
use Rattle.std.proofs.Math.Seq.{drop-cons}
use Rattle.std.specs.Prelude.{Contains, filter, slice_get, not, is_some}
use Rattle.std.specs.List.{list_any}
use Rattle.std.specs.Option.{option_and_then, option_map}
use Rattle.std.proofs.lemmas.Bool.{lt-ltb, eqb-true, eq-eqb, and_from}
use Rattle.std.proofs.lemmas.Nat.{mod_below}
use Rattle.std.proofs.lemmas.List.{get_or-map, length-map, same_lists}
use Rattle.std.proofs.lemmas.Option.{slice_get-get_or, get_or_from_slice_get}
use Rattle.class_results.specs.declared.merging.KeptPlace.{KeptPlace}
use Rattle.class_results.specs.declared.parts.ClassPart.{ClassPart}
use Rattle.class_results.specs.Merging.{IsFoundAt}
use Rattle.class_results.specs.OneCall.{Judged, one_call, Placed, placed_from, has_place, judges_place, judged_from, judged_in}
use Rattle.class_results.specs.OneCall.{kept_of, judged_of, results_of, AreResultsOf, IsMerged, merged, said_by_parts, AreAllParts}

-- Elements of lists.

has_first : {X : Type 0} (x : X) (xs : List X) → Contains (x ∷ xs) x
has_first x xs = (0, omega arith, refl)

has_later : {X : Type 0} (x : X) (xs : List X) (r : X) → Contains xs r → Contains (x ∷ xs) r
has_later x xs r has = let less = has.1 in (suc has.0, omega (arith, less), has.2)

at_index : {X : Type 0} (x : X) (xs : List X) (r : X) (k : ℕ) → k < length (x ∷ xs) → get_or (x ∷ xs) k r ≡ r
    → (x ≡ r) ⊎ Contains xs r
at_index x xs r zero less is = inl is
at_index x xs r (suc k) less is = inr (k, omega (arith, less), is)

which : {X : Type 0} (x : X) (xs : List X) (r : X) → Contains (x ∷ xs) r → (x ≡ r) ⊎ Contains xs r
which x xs r has = at_index x xs r has.0 has.1 has.2

has_none : {X : Type 0} (r : X) → Contains [] r → ⊥
has_none r has = let less = has.1 in absurd (omega (arith, less))

-- an element of a list that passes a test, and what it is made into
pub record IsKept {X Y : Type 0} (test : X → Bool) (f : X → Y) (xs : List X) (r : Y) : Type 0 where
  pub of : X
  pub has : Contains xs of
  pub passes : test of ≡ true
  pub is : f of ≡ r

later : {X Y : Type 0} (test : X → Bool) (f : X → Y) (x : X) (xs : List X) (r : Y) → IsKept test f xs r
    → IsKept test f (x ∷ xs) r
later test f x xs r kept = record {
  of = kept.of;
  has = has_later x xs kept.of kept.has;
  passes = kept.passes;
  is = kept.is;
}

from_kept : {X Y : Type 0} (test : X → Bool) (f : X → Y) (xs : List X) (r : Y) → Contains (map f (filter test xs)) r
    → IsKept test f xs r
from_kept test f [] r has = absurd (has_none r has)
from_kept {X} {Y} test f (x ∷ xs) r has =
    by (test x) refl has (λ here. from_kept test f xs r here)
  where
    by : (b : Bool) → test x ≡ b → Contains (map f (cond b (x ∷ filter test xs) (filter test xs))) r
        → (Contains (map f (filter test xs)) r → IsKept test f xs r) → IsKept test f (x ∷ xs) r
    by true on here rest =
        elim (which (f x) (map f (filter test xs)) r here) [
          | inl is ↦ record {
            of = x;
            has = has_first x xs;
            passes = on;
            is = is;
          }
          | inr more ↦ later test f x xs r (rest more)
        ]
    by false off here rest = later test f x xs r (rest here)

to_kept : {X Y : Type 0} (test : X → Bool) (f : X → Y) (xs : List X) (s : X) → Contains xs s → test s ≡ true
    → Contains (map f (filter test xs)) (f s)
to_kept test f [] s has passes = absurd (has_none s has)
to_kept {X} {Y} test f (x ∷ xs) s has passes =
    by (test x) refl (which x xs s has) (λ more. to_kept test f xs s more passes)
  where
    by : (b : Bool) → test x ≡ b → (x ≡ s) ⊎ Contains xs s → (Contains xs s → Contains (map f (filter test xs)) (f s))
        → Contains (map f (cond b (x ∷ filter test xs) (filter test xs))) (f s)
    by true on (inl same) rest =
        subst (λ (y : X). Contains (f x ∷ map f (filter test xs)) (f y)) same (has_first (f x) (map f (filter test xs)))
    by true on (inr more) rest = has_later (f x) (map f (filter test xs)) (f s) (rest more)
    by false off (inl same) rest = let h : false ≡ true = sym off ∙ ap test same ∙ passes in absurd (cc)
    by false off (inr more) rest = rest more

-- tests that agree on the elements of a list keep the same
same_filter : {X : Type 0} (one other : X → Bool) (xs : List X) → ((x : X) → Contains xs x → one x ≡ other x)
    → filter one xs ≡ filter other xs
same_filter one other [] same = refl
same_filter {X} one other (x ∷ xs) same =
    ap (λ (b : Bool). cond b (x ∷ filter one xs) (filter one xs)) (same x (has_first x xs))
    ∙ ap (λ (ys : List X). cond (other x) (x ∷ ys) ys)
    (same_filter one other xs (λ y has. same y (has_later x xs y has)))

-- whether some element passes a test
some_passes : {X : Type 0} (test : X → Bool) (xs : List X) (x : X) → Contains xs x → test x ≡ true
    → list_any test xs ≡ true
some_passes test [] x has passes = absurd (has_none x has)
some_passes {X} test (y ∷ ys) x has passes = by (test y) refl (which y ys x has) (λ more. some_passes test ys x more passes)
  where
    by : (b : Bool) → test y ≡ b → (y ≡ x) ⊎ Contains ys x → (Contains ys x → list_any test ys ≡ true)
        → (b || list_any test ys) ≡ true
    by true on has_it rest = refl
    by false off (inl same) rest = let h : false ≡ true = sym off ∙ ap test same ∙ passes in absurd (cc)
    by false off (inr more) rest = rest more

none_passes : {X : Type 0} (test : X → Bool) (xs : List X) → ((x : X) → Contains xs x → test x ≡ true → ⊥)
    → list_any test xs ≡ false
none_passes test [] none = refl
none_passes {X} test (y ∷ ys) none =
    by (test y) refl (none_passes test ys (λ x has. none x (has_later y ys x has)))
  where
    by : (b : Bool) → test y ≡ b → list_any test ys ≡ false → (b || list_any test ys) ≡ false
    by true on rest = absurd (none y (has_first y ys) on)
    by false off rest = rest

-- Submissions and their places.

pub length-placed : {A : Type 0} (n : ℕ) (xs : List A) → length (placed_from n xs) ≡ length xs
length-placed n [] = refl
length-placed n (x ∷ xs) = ap (λ (k : ℕ). suc k) (length-placed (n + 1) xs)

abbrev placed_at : {A : Type 0} → ℕ → List A → ℕ → A → Placed A
placed_at n xs i d = record { place = n + i; submission = get_or xs i d }

pub get_or-placed : {A : Type 0} (xs : List A) (n i : ℕ) (e : Placed A) (d : A) → i < length xs
    → get_or (placed_from n xs) i e ≡ placed_at n xs i d
get_or-placed [] n i e d less = absurd (omega (arith, less))
get_or-placed {A} (x ∷ xs) n zero e d less =
    let same : n ≡ n + 0 = omega arith in
    ap (λ (k : ℕ). record { place = k; submission = x }) same
get_or-placed {A} (x ∷ xs) n (suc i) e d less =
    let same : (n + 1) + i ≡ n + suc i = omega arith in
    get_or-placed xs (n + 1) i e d (omega (arith, less))
    ∙ ap (λ (k : ℕ). record { place = k; submission = get_or xs i d }) same

-- of a whole class
get_or-class : {A : Type 0} (class : List A) (i : ℕ) (e : Placed A) (d : A) → i < length class
    → get_or (placed_from 0 class) i e ≡ record { place = i; submission = get_or class i d }
get_or-class {A} class i e d less =
    let same : 0 + i ≡ i = omega arith in
    get_or-placed class 0 i e d less ∙ ap (λ (k : ℕ). record { place = k; submission = get_or class i d }) same

placed_has : {A : Type 0} (class : List A) (k : ℕ) (d : A) → k < length class
    → Contains (placed_from 0 class) (record { place = k; submission = get_or class k d })
placed_has {A} class k d less =
    let long = length-placed 0 class in
    (k, omega (arith, less, long), get_or-class class k _ d less)

-- the submission of a place is the one that the list has there
placed_is : {A : Type 0} (class : List A) (s : Placed A) (d : A) → Contains (placed_from 0 class) s
    → s ≡ record { place = s.place; submission = get_or class s.place d }
placed_is {A} class s d has =
    let long = length-placed 0 class in
    let within = has.1 in
    let at : s ≡ record { place = has.0; submission = get_or class has.0 d } =
    sym has.2 ∙ get_or-class class has.0 s d (omega (arith, within, long)) in
    at ∙ ap (λ (k : ℕ). record { place = k; submission = get_or class k d }) (sym (ap (λ (x : Placed A). x.place) at))

-- What a merge of the results of some parts says.

module _ {A : Type 0} (judge : A → Judged) (parts : List ClassPart) (class : List A) (kept : List KeptPlace)
    (are : AreResultsOf judge parts class kept) where
  -- each kept result says what one call does, and some part has its submission
  record SaysSo (r : KeptPlace) : Type 0 where
    pub said : (d : A) → judged_of r ≡ judge (get_or class r.place d)
    pub part : list_any (λ part. has_place part r.place) parts ≡ true

  says_so : (r : KeptPlace) → Contains kept r → SaysSo r
  says_so r has =
      let known = (are r).0 has in
      let part = known.0 in
      let s =
      from_kept (λ (s : Placed A). judges_place (Some part) s.place)
      (λ (s : Placed A). kept_of s.place (judge s.submission)) (placed_from 0 class) r known.2 in
      let place : s.of.place ≡ r.place = ap (λ (x : KeptPlace). x.place) s.is in
      record {
        said = λ d.
            ap judged_of (sym s.is)
            ∙ ap (λ (x : Placed A). judge x.submission) (placed_is class s.of d s.has)
            ∙ ap (λ (k : ℕ). judge (get_or class k d)) place;
        part =
            some_passes (λ (p : ClassPart). has_place p r.place) parts part known.1
            (subst (λ (k : ℕ). has_place part k ≡ true) place s.passes);
      }

  -- a submission that some part has, has a kept result
  is_kept : (part : ClassPart) (k : ℕ) (d : A) → Contains parts part → has_place part k ≡ true → k < length class
      → Contains kept (kept_of k (judge (get_or class k d)))
  is_kept part k d has passes within =
      (are (kept_of k (judge (get_or class k d)))).1 (
        part,
        has,
        to_kept (λ (s : Placed A). judges_place (Some part) s.place)
            (λ (s : Placed A). kept_of s.place (judge s.submission)) (placed_from 0 class)
            (record { place = k; submission = get_or class k d }) (placed_has class k d within) passes,
      )

  -- what stands in the table at a place
  at_place : (k : ℕ) (d : A) (o : Option ℕ) → k < length class → IsFoundAt kept (length kept) k o
      → option_and_then (λ i. option_map judged_of (slice_get kept i)) o
      ≡ said_by_parts judge parts (record { place = k; submission = get_or class k d })
  at_place k d None within none =
      let off : list_any (λ part. has_place part k) parts ≡ false =
      none_passes (λ (p : ClassPart). has_place p k) parts (λ part has passes.
      let r = kept_of k (judge (get_or class k d)) in
      let there = is_kept part k d has passes within in
      let read : slice_get kept there.0 ≡ Some (get_or kept there.0 r) = slice_get-get_or kept there.0 r there.1 in
      none there.0 there.1 (r, read ∙ ap Some there.2, refl)) in
      sym (ap (λ (b : Bool). cond b (Some (judge (get_or class k d))) None) off)
  at_place k d (Some i) within found =
      let one = found.1.0 in
      let at = found.1.1 in
      let there : Contains kept one = (i, found.0, get_or_from_slice_get kept i one one at) in
      let so = says_so one there in
      let place : one.place ≡ k = found.1.2 in
      let on : list_any (λ part. has_place part k) parts ≡ true =
      subst (λ (n : ℕ). list_any (λ part. has_place part n) parts ≡ true) place so.part in
      ap (option_map judged_of) at
      ∙ ap Some (so.said d ∙ ap (λ (n : ℕ). judge (get_or class n d)) place)
      ∙ sym (ap (λ (b : Bool). cond b (Some (judge (get_or class k d))) None) on)

  pub by_parts : (found : List (Option ℕ)) → IsMerged kept (length class) found
      → merged kept found ≡ map (said_by_parts judge parts) (placed_from 0 class)
  by_parts found is =
      let said = option_and_then (λ i. option_map judged_of (slice_get kept i)) in
      let long = is.long in
      let one = length-map found said in
      let two = length-map (placed_from 0 class) (said_by_parts judge parts) in
      let three = length-placed 0 class in
      same_lists (merged kept found) (map (said_by_parts judge parts) (placed_from 0 class))
      (omega (arith, long, one, two, three))
      (λ k d below.
      let within : k < length class = omega (arith, below, long, one) in
      let x = first_in class k within in
      get_or-map said found k None d (omega (arith, within, long))
      ∙ at_place k x (get_or found k None) within (is.found k within)
      ∙ ap (said_by_parts judge parts) (sym (get_or-class class k (record { place = 0; submission = x }) x within))
      ∙ sym (get_or-map (said_by_parts judge parts) (placed_from 0 class) k (record { place = 0; submission = x }) d
      (omega (arith, within, three))))
    where
      -- some element of a list that has one
      first_in : (xs : List A) (k : ℕ) → k < length xs → A
      first_in [] k less = absurd (omega (arith, less))
      first_in (x ∷ xs) k less = x

  -- whether a kept result is found at a place
  is_found : (k : ℕ) (d : A) (o : Option ℕ) → k < length class → IsFoundAt kept (length kept) k o
      → is_some o ≡ list_any (λ part. has_place part k) parts
  is_found k d None within none =
      sym (none_passes (λ (p : ClassPart). has_place p k) parts (λ part has passes.
      let r = kept_of k (judge (get_or class k d)) in
      let there = is_kept part k d has passes within in
      let read : slice_get kept there.0 ≡ Some (get_or kept there.0 r) = slice_get-get_or kept there.0 r there.1 in
      none there.0 there.1 (r, read ∙ ap Some there.2, refl)))
  is_found k d (Some i) within found =
      let one = found.1.0 in
      let there : Contains kept one = (i, found.0, get_or_from_slice_get kept i one one found.1.1) in
      let so = says_so one there in
      sym (subst (λ (n : ℕ). list_any (λ part. has_place part n) parts ≡ true) found.1.2 so.part)

  -- the submissions of which none is found are those that no part has
  pub lacking : (found : List (Option ℕ)) → IsMerged kept (length class) found
      → map (λ (s : Placed A). s.submission)
      (filter (λ (s : Placed A). not (is_some (get_or found s.place None))) (placed_from 0 class))
      ≡ map (λ (s : Placed A). s.submission)
      (filter (λ (s : Placed A). not (list_any (λ part. has_place part s.place) parts)) (placed_from 0 class))
  lacking found is =
      ap (map (λ (s : Placed A). s.submission))
      (same_filter (λ (s : Placed A). not (is_some (get_or found s.place None)))
      (λ (s : Placed A). not (list_any (λ part. has_place part s.place) parts)) (placed_from 0 class)
      (λ s has.
      let long = length-placed 0 class in
      let less = has.1 in
      let within : has.0 < length class = omega (arith, less, long) in
      let place : s.place ≡ has.0 =
      ap (λ (x : Placed A). x.place) (sym has.2 ∙ get_or-class class has.0 s s.submission within) in
      ap not
      (subst (λ (k : ℕ). is_some (get_or found k None) ≡ list_any (λ part. has_place part k) parts) (sym place)
      (is_found has.0 s.submission (get_or found has.0 None) within (is.found has.0 within)))))

  -- two kept results of one submission say the same
  pub say_the_same : (one other : KeptPlace) → Contains kept one → Contains kept other → one.place ≡ other.place
      → judged_of one ≡ judged_of other
  say_the_same one other has_one has_other same = by (placed_from 0 class) refl where
    by : (ps : List (Placed A)) → placed_from 0 class ≡ ps → judged_of one ≡ judged_of other
    by [] none =
        let known = (are one).0 has_one in
        let s =
        from_kept (λ (s : Placed A). judges_place (Some known.0) s.place)
        (λ (s : Placed A). kept_of s.place (judge s.submission)) (placed_from 0 class) one known.2 in
        absurd (has_none s.of (subst (λ (ps : List (Placed A)). Contains ps s.of) none s.has))
    by (p ∷ ps) some =
        (says_so one has_one).said p.submission
        ∙ ap (λ (k : ℕ). judge (get_or class k p.submission)) same
        ∙ sym ((says_so other has_other).said p.submission)

-- Where all parts are there, each submission is in one.

in_a_part : (count : ℕ) (parts : List ClassPart) (place : ℕ) → 0 < count → AreAllParts count parts
    → list_any (λ part. has_place part place) parts ≡ true
in_a_part count parts place some all =
    let number = place % count + 1 in
    let part : ClassPart = record { number = number; count = count } in
    let below = mod_below place count some in
    let most : number ≤ count = omega (arith, below) in
    some_passes (λ (p : ClassPart). has_place p place) parts part (all number (omega arith) most)
    (and_from _ _ (lt-ltb 0 count some) (eq-eqb number number refl))

said_all : {A : Type 0} (judge : A → Judged) (count : ℕ) (parts : List ClassPart) (n : ℕ) (xs : List A) → 0 < count
    → AreAllParts count parts → map (said_by_parts judge parts) (placed_from n xs) ≡ map Some (map judge xs)
said_all judge count parts n [] some all = refl
said_all judge count parts n (x ∷ xs) some all =
    ap (λ (b : Bool). cond b (Some (judge x)) None ∷ map (said_by_parts judge parts) (placed_from (n + 1) xs))
    (in_a_part count parts n some all)
    ∙ ap (λ (os : List (Option Judged)). Some (judge x) ∷ os) (said_all judge count parts (n + 1) xs some all)

pub by_all_parts : {A : Type 0} (judge : A → Judged) (count : ℕ) (parts : List ClassPart) (class : List A)
    (kept : List KeptPlace) (found : List (Option ℕ)) → 0 < count → AreAllParts count parts
    → AreResultsOf judge parts class kept → IsMerged kept (length class) found
    → merged kept found ≡ map Some (one_call judge class)
by_all_parts judge count parts class kept found some all are is =
    by_parts judge parts class kept are found is ∙ said_all judge count parts 0 class some all

-- What the call for a part says, in the order of its submissions.

pub said_in_part : {A : Type 0} (judge : A → Judged) (part : ClassPart) (class : List A)
    → map judged_of (results_of judge part class) ≡ one_call judge (judged_in (Some part) class)
said_in_part {A} judge part class = by (judged_from (Some part) 0 class) where
  by : (ss : List (Placed A))
      → map judged_of (map (λ (s : Placed A). kept_of s.place (judge s.submission)) ss)
      ≡ map judge (map (λ (s : Placed A). s.submission) ss)
  by [] = refl
  by (s ∷ ss) = ap (λ (js : List Judged). judge s.submission ∷ js) (by ss)

both_on : (a b : Bool) → (a && b) ≡ true → b ≡ true
both_on true b is = is
both_on false b is = cc

-- Two parts of as many that have the submission of a place are one.
pub one_part : (p q : ClassPart) (place : ℕ) → p.count ≡ q.count → has_place p place ≡ true → has_place q place ≡ true
    → p.number ≡ q.number
one_part p q place same one other =
    let left = eqb-true _ _ (both_on _ _ one) in
    let right = eqb-true _ _ (both_on _ _ other) in
    left ∙ ap (λ (n : ℕ). place % n + 1) same ∙ sym right

-- The submissions that a call judges, one after the other.

abbrev judged_at : {A : Type 0} → Option ClassPart → ℕ → A → List A → List A
judged_at part k x rest = cond (judges_place part k) (x ∷ rest) rest

pub judged_next : {A : Type 0} (part : Option ClassPart) (k : ℕ) (x : A) (xs : List A)
    → map (λ s. s.submission) (judged_from part k (x ∷ xs))
    ≡ judged_at part k x (map (λ s. s.submission) (judged_from part (k + 1) xs))
judged_next {A} part k x xs = by (judges_place part k) where
  by : (b : Bool)
      → map (λ (s : Placed A). s.submission)
      (cond b (record { place = k; submission = x } ∷ judged_from part (k + 1) xs) (judged_from part (k + 1) xs))
      ≡ cond b (x ∷ map (λ (s : Placed A). s.submission) (judged_from part (k + 1) xs))
      (map (λ (s : Placed A). s.submission) (judged_from part (k + 1) xs))
  by true = refl
  by false = refl

-- the rest of a list from a place on, by its next entry
rest_at : {X : Type 0} (xs : List X) (k : ℕ) (d : X) → k < length xs → drop k xs ≡ get_or xs k d ∷ drop (k + 1) xs
rest_at {X} xs k d below =
    drop-cons xs k d below ∙ ap (λ (n : ℕ). get_or xs k d ∷ drop n xs) (sym (add-one k))

-- some element of a list that has one
an_element : {X : Type 0} (xs : List X) (k : ℕ) → k < length xs → X
an_element [] k less = absurd (omega (arith, less))
an_element (x ∷ xs) k less = x

abbrev judged_list : {A : Type 0} → Option ClassPart → ℕ → List A → List A
judged_list part k xs = map (λ s. s.submission) (judged_from part k xs)

-- one submission more
judged_more : {A : Type 0} (part : Option ClassPart) (class : List A) (k : ℕ) (x : A) (now new total : List A)
    → drop k class ≡ x ∷ drop (k + 1) class → new ≡ now ++ cond (judges_place part k) (x ∷ []) []
    → now ++ judged_list part k (drop k class) ≡ total → new ++ judged_list part (k + 1) (drop (k + 1) class) ≡ total
judged_more {A} part class k x now new total rest is before =
    ap (λ (xs : List A). xs ++ later) is
    ∙ by (judges_place part k)
    ∙ ap (λ (xs : List A). now ++ xs)
    (sym (ap (judged_list part k) rest ∙ judged_next part k x (drop (k + 1) class)))
    ∙ before
  where
    later : List A
    later = judged_list part (k + 1) (drop (k + 1) class)

    by : (b : Bool) → (now ++ cond b (x ∷ []) []) ++ later ≡ now ++ cond b (x ∷ later) later
    by true = append_assoc now (x ∷ []) later
    by false = ap (λ (xs : List A). xs ++ later) (append-nil now)

-- one that is judged, and one that is not
pub judged_with : {A : Type 0} (part : Option ClassPart) (class : List A) (k : ℕ) (d : A) (now new total : List A)
    → k < length class → judges_place part k ≡ true → new ≡ now ++ get_or class k d ∷ []
    → now ++ judged_list part k (drop k class) ≡ total → new ++ judged_list part (k + 1) (drop (k + 1) class) ≡ total
judged_with {A} part class k d now new total below on is before =
    judged_more part class k (get_or class k d) now new total (rest_at class k d below)
    (is ∙ ap (λ (b : Bool). now ++ cond b (get_or class k d ∷ []) []) (sym on)) before

pub judged_without : {A : Type 0} (part : Option ClassPart) (class : List A) (k : ℕ) (now new total : List A)
    → k < length class → judges_place part k ≡ false → new ≡ now → now ++ judged_list part k (drop k class) ≡ total
    → new ++ judged_list part (k + 1) (drop (k + 1) class) ≡ total
judged_without {A} part class k now new total below off is before =
    let d = an_element class k below in
    judged_more part class k (get_or class k d) now new total (rest_at class k d below)
    (is ∙ sym (append-nil now) ∙ ap (λ (b : Bool). now ++ cond b (get_or class k d ∷ []) []) (sym off)) before
