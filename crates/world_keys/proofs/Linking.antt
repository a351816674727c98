-- Lists in buckets.
use Rattle.std.proofs.Common.{◌≡◌, ◌≢◌, ℕ, ◌+◌, ◌<◌, ◌≤◌, ◌^◌, refl, sym, ap, ◌∙◌, subst, arith, ◌⊎◌, inl, inr}
use Rattle.std.proofs.Common.{List, [], ◌∷◌, ◌++◌, length, get_or, set, length-append, Bool, true, false, bytes_eq}
use Rattle.std.proofs.Common.{Option, Some, slice_get, Bor}
use Rattle.std.proofs.Math.Seq.{get_or-append_seam}
use Rattle.std.proofs.lemmas.Bool.{cases_lt, cases_eq}
use Rattle.std.proofs.lemmas.List.{get_or-set_same, get_or-set_other, get_or_append_left, length-set}
use Rattle.std.proofs.lemmas.Option.{slice_get-get_or, slice_get_within}
use Rattle.std.proofs.lemmas.Slice.Eq.{bytes_eq-Decides}
use Rattle.std.specs.Option.{option_copied}
use Rattle.world_keys.specs.Tables.{place_in, Has}
use Rattle.world_keys.specs.Buckets.{bucket_of, bucket_at, IsLast, AreLinked, HasBuckets}
use Rattle.world_keys.proofs.Places.{place_get, place_kept, place_put, has_at}

-- One list more is linked.

-- the link to it is that to the last one
last_here : (ls : List (List ℕ)) (size b k link : ℕ) → b ≡ bucket_at ls size k → link ≡ k + 1
    → IsLast ls size b (k + 1) link
last_here ls size b k link is at = record {
  within = omega (arith, at);
  in_it = λ j next. ap (bucket_at ls size) (let same : j ≡ k = omega (arith, at, next) in same) ∙ sym is;
  none_since = λ j from before _. omega (arith, at, from, before);
}

-- other buckets keep their links
last_before : (ls : List (List ℕ)) (size c k link : ℕ) → bucket_at ls size k ≢ c → IsLast ls size c k link
    → IsLast ls size c (k + 1) link
last_before ls size c k link apart is = record {
  within = omega (arith, is.within);
  in_it = is.in_it;
  none_since = λ j from before. by_place j from (cases_lt j k) before;
} where
  by_place : (j : ℕ) → link ≤ j → (j < k) ⊎ (k ≤ j) → j < k + 1 → bucket_at ls size j ≢ c
  by_place j from (inl less) before same = is.none_since j from less same
  by_place j from (inr past) before same =
      apart (ap (bucket_at ls size) (let at : k ≡ j = omega (arith, past, before) in at) ∙ same)

pub linked_more : (ls : List (List ℕ)) (size : ℕ) (hs more es later : List ℕ) (k b : ℕ) → AreLinked ls size hs es k
    → size ≡ length hs → b ≡ bucket_at ls size k → b < size → more ≡ set hs b (k + 1)
    → get_or later k 0 ≡ get_or hs b 0 → ((j : ℕ) → j < k → get_or later j 0 ≡ get_or es j 0)
    → AreLinked ls size more later (k + 1)
linked_more ls size hs more es later k b are many is below put here kept = record {
  last = λ c within. by_bucket c within (cases_eq c b);
  before = λ j less. by_place j (cases_lt j k) less;
} where
  by_bucket : (c : ℕ) → c < size → (c ≡ b) ⊎ (c ≡ b → ⊥) → IsLast ls size c (k + 1) (get_or more c 0)
  by_bucket c within (inl same) =
      last_here ls size c k (get_or more c 0) (same ∙ is)
      (ap (λ xs. get_or xs c 0) put ∙ ap (λ d. get_or (set hs b (k + 1)) d 0) same
      ∙ get_or-set_same hs b (k + 1) 0 (omega (arith, below, many)))
  by_bucket c within (inr apart) =
      subst (IsLast ls size c (k + 1)) (sym (ap (λ xs. get_or xs c 0) put ∙ get_or-set_other hs b c (k + 1) 0 apart))
      (last_before ls size c k (get_or hs c 0) (λ same. apart (sym same ∙ sym is)) (are.last c within))

  by_place : (j : ℕ) → (j < k) ⊎ (k ≤ j) → j < k + 1 → IsLast ls size (bucket_at ls size j) j (get_or later j 0)
  by_place j (inl less) within = subst (IsLast ls size (bucket_at ls size j) j) (sym (kept j less)) (are.before j less)
  by_place j (inr past) within =
      let at : k ≡ j = omega (arith, past, within) in
      subst (λ n. IsLast ls size (bucket_at ls size n) n (get_or later n 0)) at
      (subst (λ c. IsLast ls size c k (get_or later k 0)) is
      (subst (IsLast ls size b k) (sym here) (are.last b below)))

-- before any list is linked
pub linked_none : (ls : List (List ℕ)) (size : ℕ) (hs es : List ℕ) → size ≡ length hs
    → ((b : ℕ) → b < length hs → get_or hs b 0 ≡ 0) → AreLinked ls size hs es 0
linked_none ls size hs es many none = record {
  last = λ b within. let off = none b (omega (arith, within, many)) in record {
    within = omega (arith, off);
    in_it = λ k next. absurd (omega (arith, off, next));
    none_since = λ k from before. absurd (omega (arith, before));
  };
  before = λ k less. absurd (omega (arith, less));
}

-- Lists behind the others.

get_kept : (ls more : List (List ℕ)) (size k : ℕ) → k < length ls → bucket_at (ls ++ more) size k ≡ bucket_at ls size k
get_kept ls more size k less = ap (bucket_of size) (get_or_append_left ls more [] k less)

last_grown : (ls more : List (List ℕ)) (size b k link : ℕ) → k ≤ length ls → IsLast ls size b k link
    → IsLast (ls ++ more) size b k link
last_grown ls more size b k link within is = record {
  within = is.within;
  in_it = λ j next. get_kept ls more size j (omega (arith, within, is.within, next)) ∙ is.in_it j next;
  none_since = λ j from before same.
      is.none_since j from before (sym (get_kept ls more size j (omega (arith, within, before))) ∙ same);
}

linked_grown : (ls more : List (List ℕ)) (size : ℕ) (hs es : List ℕ) (k : ℕ) → k ≤ length ls → AreLinked ls size hs es k
    → AreLinked (ls ++ more) size hs es k
linked_grown ls more size hs es k within are = record {
  last = λ b below. last_grown ls more size b k (get_or hs b 0) within (are.last b below);
  before = λ j less.
      subst (λ c. IsLast (ls ++ more) size c j (get_or es j 0)) (sym (get_kept ls more size j (omega (arith, within, less))))
      (last_grown ls more size (bucket_at ls size j) j (get_or es j 0) (omega (arith, within, less)) (are.before j less));
}

places_put : (ls : List (List ℕ)) (x : List ℕ) → ¬ (Has ls x)
    → ((k : ℕ) → k < length ls → place_in ls (get_or ls k []) ≡ k)
    → (k : ℕ) → k < length (ls ++ x ∷ []) → place_in (ls ++ x ∷ []) (get_or (ls ++ x ∷ []) k []) ≡ k
places_put ls x none places k below = by_place (cases_lt k (length ls)) where
  by_place : (k < length ls) ⊎ (length ls ≤ k) → place_in (ls ++ x ∷ []) (get_or (ls ++ x ∷ []) k []) ≡ k
  by_place (inl less) =
      ap (place_in (ls ++ x ∷ [])) (get_or_append_left ls (x ∷ []) [] k less)
      ∙ place_kept ls (x ∷ []) (get_or ls k []) (has_at ls k (get_or ls k []) [] less refl) ∙ places k less
  by_place (inr past) =
      let at : length ls ≡ k = omega (arith, past, below, length-append ls (x ∷ [])) in
      ap (place_in (ls ++ x ∷ []))
      (ap (λ n. get_or (ls ++ x ∷ []) n []) (sym at) ∙ get_or-append_seam ls x [] [])
      ∙ place_put ls x none ∙ at

pub linked_put : (ls new : List (List ℕ)) (hs more es later : List ℕ) (x : List ℕ) (b : ℕ) → HasBuckets ls hs es
    → ¬ (Has ls x) → length ls < length hs → length ls + 1 < 2 ^ 32 → b ≡ bucket_of (length hs) x → b < length hs
    → new ≡ ls ++ x ∷ [] → later ≡ es ++ get_or hs b 0 ∷ [] → more ≡ set hs b (length ls + 1) → HasBuckets new more later
linked_put ls new hs more es later x b is none room few bucket below put linked headed =
    subst (λ (t : List (List ℕ)). HasBuckets t more later) (sym put) (record {
      places = places_put ls x none is.places;
      each =
          omega (
            arith,
            is.each,
            ap (λ (xs : List ℕ). length xs) linked,
            length-append es (get_or hs b 0 ∷ []),
            length-append ls (x ∷ []),
          );
      room = omega (arith, room, size, length-append ls (x ∷ []));
      few = omega (arith, few, length-append ls (x ∷ []));
      linked =
          subst (λ n. AreLinked (ls ++ x ∷ []) n more later (length (ls ++ x ∷ []))) (sym size)
          (subst (AreLinked (ls ++ x ∷ []) (length hs) more later) (sym many) all);
    }) where
      size : length more ≡ length hs
      size = ap (λ (xs : List ℕ). length xs) headed ∙ length-set hs b (length ls + 1)

      many : length (ls ++ x ∷ []) ≡ length ls + 1
      many = length-append ls (x ∷ [])

      last : get_or later (length ls) 0 ≡ get_or hs b 0
      last =
          (λ i. get_or (linked i) (sym is.each i) 0) ∙ get_or-append_seam es (get_or hs b 0) [] 0

      others : (j : ℕ) → j < length ls → get_or later j 0 ≡ get_or es j 0
      others j less =
          ap (λ xs. get_or xs j 0) linked
          ∙ get_or_append_left es (get_or hs b 0 ∷ []) 0 j (omega (arith, less, is.each))

      all : AreLinked (ls ++ x ∷ []) (length hs) more later (length ls + 1)
      all =
          linked_more (ls ++ x ∷ []) (length hs) hs more es later (length ls) b
          (linked_grown ls (x ∷ []) (length hs) hs es (length ls) (omega arith) is.linked) refl
          (bucket ∙ ap (bucket_of (length hs)) (sym (get_or-append_seam ls x [] []))) below headed last others

-- the table without a list
pub linked_empty : (ls : List (List ℕ)) (hs es : List ℕ) → ls ≡ [] → hs ≡ [] → es ≡ [] → HasBuckets ls hs es
linked_empty ls hs es no_list no_head no_link =
    let none : length ls ≡ 0 = ap (λ (t : List (List ℕ)). length t) no_list in
    let empty : length hs ≡ 0 = ap (λ (xs : List ℕ). length xs) no_head in
    let bare : length es ≡ 0 = ap (λ (xs : List ℕ). length xs) no_link in
    record {
      places = λ k less. absurd (omega (arith, less, none));
      each = omega (arith, bare, none);
      room = omega (arith, none);
      few = omega (arith, none);
      linked = record {
        last = λ b less. absurd (omega (arith, less, empty));
        before = λ k less. absurd (omega (arith, less, none));
      };
    }

-- What is found.

-- no list from the link's on is the one that is looked for
pub record IsSought (ls : List (List ℕ)) (size : ℕ) (x : List ℕ) (link : ℕ) : Type 0 where
  pub within : link ≤ length ls
  pub in_it : (k : ℕ) → link ≡ k + 1 → bucket_at ls size k ≡ bucket_of size x
  pub none_since : (k : ℕ) → link ≤ k → k < length ls → get_or ls k [] ≢ x

pub sought_first : (ls : List (List ℕ)) (hs es x : List ℕ) (b link : ℕ) → HasBuckets ls hs es → b ≡ bucket_of (length hs) x
    → b < length hs → link ≡ get_or hs b 0 → IsSought ls (length hs) x link
sought_first ls hs es x b link is bucket below at =
    let last = subst (IsLast ls (length hs) b (length ls)) (sym at) (is.linked.last b below) in
    record {
      within = last.within;
      in_it = λ k next. last.in_it k next ∙ bucket;
      none_since = λ k from before same.
          last.none_since k from before (ap (bucket_of (length hs)) same ∙ sym bucket);
    }

pub sought_next : (ls : List (List ℕ)) (hs es x : List ℕ) (k link next : ℕ) → HasBuckets ls hs es → link ≡ k + 1
    → IsSought ls (length hs) x link → get_or ls k [] ≢ x → next ≡ get_or es k 0 → IsSought ls (length hs) x next
sought_next ls hs es x k link next is at so other to =
    let below : k < length ls = omega (arith, at, so.within) in
    let bucket = so.in_it k at in
    let last = subst (IsLast ls (length hs) (bucket_at ls (length hs) k) k) (sym to) (is.linked.before k below) in
    record {
      within = omega (arith, last.within, below);
      in_it = λ j next_is. last.in_it j next_is ∙ bucket;
      none_since = λ j from before. by_place j from before (cases_lt j k) last bucket;
    } where
      by_place : (j : ℕ) → next ≤ j → j < length ls → (j < k) ⊎ (k ≤ j)
          → IsLast ls (length hs) (bucket_at ls (length hs) k) k next
          → bucket_at ls (length hs) k ≡ bucket_of (length hs) x → get_or ls j [] ≢ x
      by_place j from before (inl less) last bucket same =
          last.none_since j from less (ap (bucket_of (length hs)) same ∙ sym bucket)
      by_place j from before (inr past) last bucket same = by_equal (cases_eq j k) where
        by_equal : (j ≡ k) ⊎ (j ≡ k → ⊥) → ⊥
        by_equal (inl here) = other (ap (λ n. get_or ls n []) (sym here) ∙ same)
        by_equal (inr apart) =
            so.none_since j (let more : link ≤ j = omega (arith, at, past, apart) in more) before same

pub sought_none : (ls : List (List ℕ)) (size : ℕ) (x : List ℕ) (link : ℕ) → link ≡ 0 → IsSought ls size x link
    → ¬ (Has ls x)
sought_none ls size x link none so has =
    so.none_since (place_in ls x) (omega (arith, none)) has (place_get ls x [] has)

pub found_at : (ls : List (List ℕ)) (hs es x : List ℕ) (k : ℕ) → HasBuckets ls hs es → k < length ls → get_or ls k [] ≡ x
    → k ≡ place_in ls x
found_at ls hs es x k is below same = sym (is.places k below) ∙ ap (place_in ls) same

-- A list that was read at a place.

got : (ls : List (List ℕ)) (k : ℕ) (y : List ℕ) → slice_get ls k ≡ Some y → get_or ls k [] ≡ y
got ls k y there =
    let same : Some (get_or ls k []) ≡ Some y =
    sym (slice_get-get_or ls k [] (slice_get_within ls k y there)) ∙ there in
    cc

pub read_at : (ls : List (List ℕ)) (k : ℕ) (o : Option (Bor (List ℕ))) (r : Bor (List ℕ)) → o ≡ Some r
    → option_copied o ≡ slice_get ls k → (k < length ls) × (get_or ls k [] ≡ r.now)
read_at ls k o r is read =
    let there : slice_get ls k ≡ Some r.now = sym read ∙ ap (λ (x : Option (Bor (List ℕ))). option_copied x) is in
    (slice_get_within ls k r.now there, got ls k r.now there)

pub equal_lists : (x y : List ℕ) (b : Bool) → b ≡ true → b ≡ bytes_eq x y → x ≡ y
equal_lists x y b on is = (bytes_eq-Decides x y).0 (sym is ∙ on)

pub other_lists : (x y : List ℕ) (b : Bool) → b ≡ false → b ≡ bytes_eq x y → x ≢ y
other_lists x y b off is same = let on : bytes_eq x y ≡ true = (bytes_eq-Decides x y).1 same in absurd cc
