-- What the search for the places to which ways lead keeps, and that it ends.
use Rattle.std.proofs.Common.{◌≡◌, ℕ, zero, suc, ◌+◌, ◌<◌, ◌≤◌, ◌⊎◌, inl, inr, Bool, true, false, refl, sym, ap, ◌∙◌, subst, arith}
use Rattle.std.proofs.Common.{if◌then◌else◌, List, [], ◌∷◌, ◌++◌, length, set, replicate, Some, None, slice_get}
use Rattle.std.specs.Prelude.{IsTrue, Contains, slice_index_or}
use Rattle.std.proofs.lemmas.Bool.{cases_lt, cases_eq}
use Rattle.std.proofs.lemmas.List.{get_or-set_other, get_or_past, length-set, length-append, length-replicate}
use Rattle.std.proofs.lemmas.Option.{slice_get_past, slice_get_within}
use Rattle.std.proofs.lemmas.List.Elements.{Contains-append_left, Contains-push, Contains-push_cases}
use Rattle.image_file.specs.ImageValue.{ImageValue}
use Rattle.stream_core.specs.StreamRow.{fetch_word}
use Rattle.reachable_places.specs.Successors.{successors_at, IsSuccessor}
use Rattle.reachable_places.specs.declared.successors.Successors.{Successors}
use Rattle.reachable_places.specs.declared.successors.Successors.TheVariants as to
use Rattle.reachable_places.specs.Ways.{is_reached, IsBeginning, LeadsTo, IsWay, IsReachable, AreReachable}
use Rattle.reachable_places.specs.Searches.{with_place, left_with, with_successors, left_with_successors, missing, IsSearch, HasBeginnings}

-- Lists in which one place more is found.

inside : {a b : ℕ} → Some a ≡ Some b → a ≡ b
inside e = cc

set_reached : (places : List Bool) (p : ℕ) → is_reached places p ≡ true → set places p true ≡ places
set_reached [] p e = refl
set_reached (true ∷ places) zero e = refl
set_reached (false ∷ places) zero e = cc
set_reached (x ∷ places) (suc p) e = ap (λ xs. x ∷ xs) (set_reached places p e)

missing_set : (places : List Bool) (p : ℕ) → is_reached places p ≡ false → missing (set places p true) + 1 ≡ missing places
unfolding missing
missing_set [] p e = cc
missing_set (true ∷ places) zero e = cc
missing_set (false ∷ places) zero e = refl
missing_set (true ∷ places) (suc p) e = missing_set places p e
missing_set (false ∷ places) (suc p) e = ap (λ n. n + 1) (missing_set places p e)

all_true : (n k : ℕ) → is_reached (replicate n true) k ≡ true
all_true zero k = refl
all_true (suc n) zero = refl
all_true (suc n) (suc k) = all_true n k

none_missing : (n : ℕ) → missing (replicate n true) ≡ 0
unfolding missing
none_missing zero = refl
none_missing (suc n) = none_missing n

none_marked : (n k : ℕ) → slice_index_or (replicate n false) k false ≡ false
none_marked zero k = refl
none_marked (suc n) zero = refl
none_marked (suc n) (suc k) = none_marked n k

kept_set : (places : List Bool) (p k : ℕ) → IsTrue (is_reached places k) → IsTrue (is_reached (with_place places p) k)
kept_set [] p k e = e
kept_set (x ∷ places) zero zero e = refl
kept_set (x ∷ places) zero (suc k) e = e
kept_set (x ∷ places) (suc p) zero e = e
kept_set (x ∷ places) (suc p) (suc k) e = kept_set places p k e

has_set : (places : List Bool) (p : ℕ) → IsTrue (is_reached (with_place places p) p)
has_set [] p = refl
has_set (x ∷ places) zero = refl
has_set (x ∷ places) (suc p) = has_set places p

marked_set : (places : List Bool) (p k : ℕ) → IsTrue (slice_index_or (with_place places p) k false)
    → (k ≡ p) ⊎ IsTrue (slice_index_or places k false)
marked_set places p k e = by (cases_eq k p) where
  by : (k ≡ p) ⊎ (k ≡ p → ⊥) → (k ≡ p) ⊎ IsTrue (slice_index_or places k false)
  by (inl same) = inl same
  by (inr apart) = inr (sym (get_or-set_other places p k true false apart) ∙ e)

kept_successors : (places : List Bool) (s : Successors) (k : ℕ) → IsTrue (is_reached places k)
    → IsTrue (is_reached (with_successors places s) k)
kept_successors places to.None k e = e
kept_successors places (to.One a) k e = kept_set places a k e
kept_successors places (to.Two a b) k e = kept_set (with_place places a) b k (kept_set places a k e)
kept_successors places to.Any k e = all_true (length places) k

has_successors : (places : List Bool) (s : Successors) (j : ℕ) → IsSuccessor s j
    → IsTrue (is_reached (with_successors places s) j)
has_successors places to.None j none = absurd none
has_successors places (to.One a) j e = subst (λ k. IsTrue (is_reached (with_place places a) k)) (sym e) (has_set places a)
has_successors places (to.Two a b) j (inl e) =
    subst (λ k. IsTrue (is_reached (with_place (with_place places a) b) k)) (sym e)
    (kept_set (with_place places a) b a (has_set places a))
has_successors places (to.Two a b) j (inr e) =
    subst (λ k. IsTrue (is_reached (with_place (with_place places a) b) k)) (sym e) (has_set (with_place places a) b)
has_successors places to.Any j e = all_true (length places) j

kept_beginnings : (image : ImageValue) (places : List Bool) (s : Successors) → HasBeginnings image places
    → HasBeginnings image (with_successors places s)
kept_beginnings image places s has k begins = kept_successors places s k (has k begins)

-- It ends.

place_measure : (places : List Bool) (left : List ℕ) (p : ℕ)
    → missing (with_place places p) + length (left_with places left p) ≡ missing places + length left
place_measure places left p = by (is_reached places p) refl where
  by : (b : Bool) → is_reached places p ≡ b
      → missing (with_place places p) + length (if b then left else left ++ p ∷ []) ≡ missing places + length left
  by true e = ap (λ xs. missing xs + length left) (set_reached places p e)
  by false e = omega (arith, missing_set places p e, length-append left (p ∷ []))

successors_measure : (places : List Bool) (left : List ℕ) (s : Successors)
    → missing (with_successors places s) + length (left_with_successors places left s) ≤ missing places + length left
successors_measure places left to.None = omega arith
successors_measure places left (to.One a) = omega (arith, place_measure places left a)
successors_measure places left (to.Two a b) =
    omega (arith, place_measure places left a, place_measure (with_place places a) (left_with places left a) b)
successors_measure places left to.Any = omega (arith, none_missing (length places))

step_measure : (places : List Bool) (left : List ℕ) (x : ℕ) (s : Successors)
    → missing (with_successors places s) + length (left_with_successors places left s)
    < missing places + length (left ++ x ∷ [])
step_measure places left x s = omega (arith, successors_measure places left s, length-append left (x ∷ []))

pub step_smaller : (places new : List Bool) (left rest more : List ℕ) (x : ℕ) (s : Successors) → left ≡ rest ++ x ∷ []
    → new ≡ with_successors places s → more ≡ left_with_successors places rest s
    → missing new + length more < missing places + length left
step_smaller places new left rest more x s was made leaves =
    subst (λ xs. missing new + length more < missing places + length xs) (sym was)
    (subst (λ ps. missing ps + length more < missing places + length (rest ++ x ∷ [])) (sym made)
    (subst (λ xs. missing (with_successors places s) + length xs < missing places + length (rest ++ x ∷ [])) (sym leaves)
    (step_measure places rest x s)))

-- What is left.

pub left_new : (places : List Bool) (left : List ℕ) (p : ℕ) → is_reached places p ≡ false
    → left ++ p ∷ [] ≡ left_with places left p
left_new places left p e = sym (ap (λ b. if b then left else left ++ p ∷ []) e)

pub left_same : (places : List Bool) (left : List ℕ) (p : ℕ) → is_reached places p ≡ true → left ≡ left_with places left p
left_same places left p e = sym (ap (λ b. if b then left else left ++ p ∷ []) e)

-- What is kept.
module _ (image : ImageValue) where
  place_added : (places : List Bool) (left : List ℕ) (also : ℕ → Type 0) (p : ℕ) → IsReachable image p
      → IsSearch image places left also → IsSearch image (with_place places p) (left ++ p ∷ []) also
  place_added places left also p reach s = record {
    each = length-set places p true ∙ s.each;
    found = λ k e. elim (marked_set places p k e) [
      | inl same ↦ subst (IsReachable image) (sym same) reach
      | inr old ↦ s.found k old
    ];
    waits = λ k e. elim (Contains-push_cases left p k e) [
      | inl old ↦ s.waits k old
      | inr new ↦ subst (IsReachable image) new reach
    ];
    followed = λ k e. elim (marked_set places p k e) [
      | inl same ↦ inl (subst (Contains (left ++ p ∷ [])) (sym same) (Contains-push left p))
      | inr old ↦ elim (s.followed k old) [
        | inl waits ↦ inl (Contains-append_left left (p ∷ []) k waits)
        | inr rest ↦ elim rest [
          | inl other ↦ inr (inl other)
          | inr leads ↦ inr (inr (λ j to. kept_set places p j (leads j to)))
        ]
      ]
    ];
  }

  pub place_kept : (places : List Bool) (left : List ℕ) (also : ℕ → Type 0) (p : ℕ) → IsReachable image p
      → IsSearch image places left also → IsSearch image (with_place places p) (left_with places left p) also
  place_kept places left also p reach s = by (is_reached places p) refl where
    by : (b : Bool) → is_reached places p ≡ b
        → IsSearch image (with_place places p) (if b then left else left ++ p ∷ []) also
    by true e = subst (λ xs. IsSearch image xs left also) (sym (set_reached places p e)) s
    by false e = place_added places left also p reach s

  all_kept : (places : List Bool) (left : List ℕ) (also : ℕ → Type 0) → ((j : ℕ) → IsReachable image j)
      → IsSearch image places left also → IsSearch image (replicate (length places) true) [] also
  all_kept places left also reach s = record {
    each = length-replicate (length places) true ∙ s.each;
    found = λ k e. reach k;
    waits = λ k e. reach k;
    followed = λ k e. inr (inr (λ j to. all_true (length places) j));
  }

  successors_kept : (places : List Bool) (left : List ℕ) (also : ℕ → Type 0) (s : Successors)
      → ((j : ℕ) → IsSuccessor s j → IsReachable image j) → IsSearch image places left also
      → IsSearch image (with_successors places s) (left_with_successors places left s) also
  successors_kept places left also to.None reach was = was
  successors_kept places left also (to.One a) reach was = place_kept places left also a (reach a refl) was
  successors_kept places left also (to.Two a b) reach was =
      place_kept (with_place places a) (left_with places left a) also b (reach b (inr refl))
      (place_kept places left also a (reach a (inl refl)) was)
  successors_kept places left also to.Any reach was = all_kept places left also (λ j. reach j tt) was

  abbrev Nothing : ℕ → Type 0
  Nothing k = ⊥

  taken : (places : List Bool) (left : List ℕ) (x : ℕ) → IsSearch image places (left ++ x ∷ []) Nothing
      → IsSearch image places left (λ k. k ≡ x)
  taken places left x s = record {
    each = s.each;
    found = s.found;
    waits = λ k e. s.waits k (Contains-append_left left (x ∷ []) k e);
    followed = λ k e. elim (s.followed k e) [
      | inl waits ↦ elim (Contains-push_cases left x k waits) [ inl still ↦ inl still | inr this ↦ inr (inl (sym this)) ]
      | inr rest ↦ elim rest [ inl none ↦ absurd none | inr leads ↦ inr (inr leads) ]
    ];
  }

  settled : (places : List Bool) (left : List ℕ) (x : ℕ) → ((j : ℕ) → LeadsTo image x j → IsTrue (is_reached places j))
      → IsSearch image places left (λ k. k ≡ x) → IsSearch image places left Nothing
  settled places left x leads_x s = record {
    each = s.each;
    found = s.found;
    waits = s.waits;
    followed = λ k e. elim (s.followed k e) [
      | inl waits ↦ inl waits
      | inr rest ↦ elim rest [
        | inl this ↦ inr (inr (λ j to. leads_x j (subst (λ y. LeadsTo image y j) this to)))
        | inr leads ↦ inr (inr leads)
      ]
    ];
  }

  goes_on : (x j : ℕ) → IsReachable image x → LeadsTo image x j → IsReachable image j
  unfolding IsReachable
  goes_on x j way to = (x ∷ way.0, (way.1, to))

  -- one of the places that are left is followed
  step_kept : (places : List Bool) (left : List ℕ) (x : ℕ) → IsSearch image places (left ++ x ∷ []) Nothing
      → IsSearch image (with_successors places (successors_at (fetch_word image.profile (slice_get image.program x)) x))
      (left_with_successors places left (successors_at (fetch_word image.profile (slice_get image.program x)) x)) Nothing
  step_kept places left x was =
      settled _ _ x (λ j to. has_successors places s j to)
      (successors_kept places left (λ k. k ≡ x) s (λ j to. goes_on x j reach to) (taken places left x was))
    where
      s : Successors
      s = successors_at (fetch_word image.profile (slice_get image.program x)) x

      reach : IsReachable image x
      reach = was.waits x (Contains-push left x)

  pub step_all : (places new : List Bool) (left rest more : List ℕ) (x : ℕ) (s : Successors) → left ≡ rest ++ x ∷ []
      → s ≡ successors_at (fetch_word image.profile (slice_get image.program x)) x
      → new ≡ with_successors places s → more ≡ left_with_successors places rest s
      → IsSearch image places left Nothing × HasBeginnings image places
      → IsSearch image new more Nothing × HasBeginnings image new
  step_all places new left rest more x s was is made leaves kept =
      subst (λ ps. IsSearch image ps more Nothing × HasBeginnings image ps) (sym made) (
        subst (λ xs. IsSearch image (with_successors places s) xs Nothing) (sym leaves)
            (subst (λ t. IsSearch image (with_successors places t) (left_with_successors places rest t) Nothing) (sym is)
            (step_kept places rest x (subst (λ xs. IsSearch image places xs Nothing) was kept.0))),
        kept_beginnings image places s kept.1,
      )

  -- Its beginning and its end.

  pub beginning : (k : ℕ) → IsBeginning image k → IsReachable image k
  unfolding IsReachable
  beginning k b = ([], b)

  pub none_found : (n : ℕ) → n ≡ length image.program → IsSearch image (replicate n false) [] Nothing
  none_found n e = record {
    each = length-replicate n false ∙ e;
    found = λ k got. let none : false ≡ true = sym (none_marked n k) ∙ got in cc;
    waits = λ k got. none_in k got;
    followed = λ k got. let none : false ≡ true = sym (none_marked n k) ∙ got in cc;
  }
    where
      none_in : (k : ℕ) → Contains [] k → IsReachable image k
      none_in k got = absurd (omega (arith, got.1))

  marked : (places : List Bool) (k : ℕ) → k < length places → IsTrue (is_reached places k)
      → IsTrue (slice_index_or places k false)
  marked [] k within e = absurd (omega arith)
  marked (x ∷ places) zero within e = e
  marked (x ∷ places) (suc k) within e = marked places k (omega arith) e

  past : (places : List Bool) (k : ℕ) → length places ≤ k → IsTrue (is_reached places k)
  past places k e = get_or_past places k true e

  no_word : (k : ℕ) → length image.program ≤ k → (j : ℕ) → LeadsTo image k j → ⊥
  no_word k e j to =
      subst (λ o. IsSuccessor (successors_at (fetch_word image.profile o) k) j) (slice_get_past image.program k e) to

  pub all_followed : (places : List Bool) (left : List ℕ) → left ≡ [] → HasBeginnings image places
      → IsSearch image places left Nothing → AreReachable image places
  unfolding IsReachable
  all_followed places left ended begins was = record {
    each = was.each;
    found = λ k within e. was.found k (marked places k (subst (λ n. k < n) (sym was.each) within) e);
    all = λ k way. reaches way.0 k way.1;
  }
    where
      follows : (k j : ℕ) → IsTrue (is_reached places k) → LeadsTo image k j → IsTrue (is_reached places j)
      follows k j e to = elim (cases_lt k (length places)) [
        | inl within ↦ elim (was.followed k (marked places k within e)) [
          | inl waits ↦ absurd (none_in (subst (λ xs. Contains xs k) ended waits))
          | inr rest ↦ elim rest [ inl none ↦ absurd none | inr leads ↦ leads j to ]
        ]
        | inr far ↦ absurd (no_word k (subst (λ n. n ≤ k) was.each far) j to)
      ]
        where
          none_in : Contains [] k → ⊥
          none_in got = omega (arith, got.1)

      reaches : (ks : List ℕ) (k : ℕ) → IsWay image ks k → IsTrue (is_reached places k)
      reaches [] k b = begins k b
      reaches (j ∷ ks) k way = follows j k (reaches ks j way.0) way.1

  -- Where streams begin, the trap entry and the first entries are found.
  pub record IsBegun (places : List Bool) (left : List ℕ) (count : ℕ) : Type 0 where
    pub kept : IsSearch image places left Nothing
    pub handler : IsTrue (is_reached places image.trap_entry)
    pub entries : (p entry : ℕ) → p < count → slice_get image.entries p ≡ Some entry → IsTrue (is_reached places entry)

  pub first_begun : (n : ℕ) (before places : List Bool) (nothing left : List ℕ) (trap : ℕ) → n ≡ length image.program
      → before ≡ replicate n false → nothing ≡ [] → trap ≡ image.trap_entry → places ≡ with_place before trap
      → left ≡ left_with before nothing trap → IsBegun places left 0
  first_begun n before places nothing left trap e empty none is made more = record {
    kept =
        subst (λ xs. IsSearch image xs left Nothing) (sym made)
        (subst (λ xs. IsSearch image (with_place before trap) xs Nothing) (sym more)
        (place_kept before nothing Nothing trap (beginning trap (inr is)) at_first));
    handler =
        subst (λ xs. IsTrue (is_reached xs image.trap_entry)) (sym made)
        (subst (λ k. IsTrue (is_reached (with_place before trap) k)) is (has_set before trap));
    entries = λ p entry below. absurd (omega (arith, below));
  }
    where
      at_first : IsSearch image before nothing Nothing
      at_first =
          subst (λ xs. IsSearch image xs nothing Nothing) (sym empty)
          (subst (λ xs. IsSearch image (replicate n false) xs Nothing) (sym none) (none_found n e))

  pub next_begun : (places new : List Bool) (left rest : List ℕ) (count entry : ℕ)
      → slice_get image.entries count ≡ Some entry → new ≡ with_place places entry → rest ≡ left_with places left entry
      → IsBegun places left count → IsBegun new rest (count + 1)
  next_begun places new left rest count entry there made more was = record {
    kept =
        subst (λ xs. IsSearch image xs rest Nothing) (sym made)
        (subst (λ xs. IsSearch image (with_place places entry) xs Nothing) (sym more)
        (place_kept places left Nothing entry (beginning entry (inl (count, there))) was.kept));
    handler = kept image.trap_entry was.handler;
    entries = λ p e below got. by p e got (cases_eq p count) below;
  }
    where
      kept : (k : ℕ) → IsTrue (is_reached places k) → IsTrue (is_reached new k)
      kept k e = subst (λ xs. IsTrue (is_reached xs k)) (sym made) (kept_set places entry k e)

      by : (p e : ℕ) → slice_get image.entries p ≡ Some e → (p ≡ count) ⊎ (p ≡ count → ⊥) → p < count + 1
          → IsTrue (is_reached new e)
      by p e got (inl same) below =
          let is : Some e ≡ Some entry = sym got ∙ ap (slice_get image.entries) same ∙ there in
          subst (λ k. IsTrue (is_reached new k)) (sym (inside is))
          (subst (λ xs. IsTrue (is_reached xs entry)) (sym made) (has_set places entry))
      by p e got (inr apart) below = kept e (was.entries p e (below_count p apart below) got)
        where
          below_count : (q : ℕ) → (q ≡ count → ⊥) → q < count + 1 → q < count
          below_count q other less = elim (cases_lt q count) [
            | inl near ↦ near
            | inr far ↦ absurd (other (omega (arith, less, far)))
          ]

  -- an entry that is not there changes nothing
  pub none_begun : (places : List Bool) (left : List ℕ) (count : ℕ) → slice_get image.entries count ≡ None
      → IsBegun places left count → IsBegun places left (count + 1)
  none_begun places left count none was = record {
    kept = was.kept;
    handler = was.handler;
    entries = λ p e below got. elim (cases_lt p count) [
      | inl near ↦ was.entries p e near got
      | inr far ↦ absurd (apart p e (omega (arith, below, far)) got)
    ];
  }
    where
      apart : (p e : ℕ) → p ≡ count → slice_get image.entries p ≡ Some e → ⊥
      apart p e same got =
          let is : None ≡ Some e = sym none ∙ ap (slice_get image.entries) (sym same) ∙ got in
          cc

  pub all_begun : (places : List Bool) (left : List ℕ) (count : ℕ) → length image.entries ≤ count
      → IsBegun places left count → HasBeginnings image places
  all_begun places left count all was k (inl entry) =
      was.entries entry.0 k (omega (arith, all, slice_get_within image.entries entry.0 k entry.1)) entry.1
  all_begun places left count all was k (inr same) = subst (λ j. IsTrue (is_reached places j)) (sym same) was.handler
