-- One place more, one claim more, and what is known of an end stays.
use Rattle.std.proofs.Common.{◌≡◌, ℕ, zero, suc, ◌+◌, ◌<◌, ◌≤◌, refl, sym, ap, ◌∙◌, arith, Bool, true, false}
use Rattle.std.proofs.Common.{List, [], ◌∷◌, ◌++◌, length, map, drop, get_or, cond, append_assoc, append-nil, add-one}
use Rattle.std.proofs.Math.Seq.{drop-cons}
use Rattle.std.proofs.Math.ListN.{drop_of_length-le}
use Rattle.std.proofs.Common.{set}
use Rattle.std.specs.Prelude.{◌==◌, ◌&&◌}
use Rattle.std.specs.List.{AllWithin, filter, range_with_len}
use Rattle.std.proofs.Common.{inl, inr, subst}
use Rattle.std.proofs.lemmas.Bool.{cases_lt}
use Rattle.std.proofs.lemmas.List.{get_or-set_same}
use Rattle.std.proofs.lemmas.List.Elements.{filter-append, AllWithin-set}
use Rattle.claims.specs.declared.claim.Claim.{Claim}
use Rattle.seed_verdicts.specs.ScheduleSpace.Spaces.{SpaceValue}
use Rattle.std.proofs.lemmas.List.{map-append, length-map, get_or-map}
use Rattle.seed_verdicts.specs.ScheduleVerdicts.ClaimMarks.{MarksValue, marks_for}
use Rattle.space_ends.specs.declared.end_values.SpaceEnd.{SpaceEnd}
use Rattle.space_ends.specs.FirstBroken.{IsBrokenSo, AreBrokenSo}
use Rattle.space_ends.specs.BrokenClaims.{EndValue, value_of, broken_places, broken_before, broken_end, broken_end_of, broken_ends}

-- one number more
range-more : (a n k : ℕ) → a + n ≡ k → range_with_len a (suc n) ≡ range_with_len a n ++ k ∷ []
range-more a zero k is = ap (λ x. x ∷ []) (omega (arith, is))
range-more a (suc n) k is = ap (λ xs. a ∷ xs) (range-more (a + 1) n k (omega (arith, is)))

pub filter-more : (test : ℕ → Bool) (n : ℕ)
    → filter test (range_with_len 0 (n + 1)) ≡ filter test (range_with_len 0 n) ++ filter test (n ∷ [])
filter-more test n =
    ap (λ k. filter test (range_with_len 0 k)) (add-one n)
    ∙ ap (filter test) (range-more 0 n n (omega arith))
    ∙ filter-append test (range_with_len 0 n) (n ∷ [])

-- one that is kept, and one that is left out
pub kept_more : (test : ℕ → Bool) (n : ℕ) (found : List ℕ) → test n ≡ true → found ≡ filter test (range_with_len 0 n)
    → found ++ n ∷ [] ≡ filter test (range_with_len 0 (n + 1))
kept_more test n found so is =
    ap (λ xs. xs ++ n ∷ []) is
    ∙ ap (λ b. filter test (range_with_len 0 n) ++ cond b (n ∷ []) []) (sym so)
    ∙ sym (filter-more test n)

pub left_more : (test : ℕ → Bool) (n : ℕ) (found : List ℕ) → test n ≡ false → found ≡ filter test (range_with_len 0 n)
    → found ≡ filter test (range_with_len 0 (n + 1))
left_more test n found so is =
    is
    ∙ sym (append-nil (filter test (range_with_len 0 n)))
    ∙ ap (λ b. filter test (range_with_len 0 n) ++ cond b (n ∷ []) []) (sym so)
    ∙ sym (filter-more test n)

-- an element that is seen as the one before
pub map-set_same : {X Y : Type 0} (f : X → Y) (xs : List X) (i : ℕ) (x d : X) → f x ≡ f (get_or xs i d)
    → map f (set xs i x) ≡ map f xs
map-set_same f [] i x d same = refl
map-set_same f (y ∷ ys) zero x d same = ap (λ z. z ∷ map f ys) same
map-set_same f (y ∷ ys) (suc i) x d same = ap (λ zs. f y ∷ zs) (map-set_same f ys i x d same)

-- the rest of a list from a place on, by its next entry
rest_from : {X : Type 0} (xs : List X) (i : ℕ) (x : X) → i < length xs → x ≡ get_or xs i x
    → drop i xs ≡ x ∷ drop (i + 1) xs
rest_from xs i x below is =
    drop-cons xs i x below
    ∙ ap (λ k. get_or xs i x ∷ drop k xs) (sym (add-one i))
    ∙ ap (λ y. y ∷ drop (i + 1) xs) (sym is)

pub claim_more : (v : SpaceValue) (cs : List Claim) (n : ℕ) (c : Claim) (olds news firsts : List EndValue)
    → n < length cs → c ≡ get_or cs n c → news ≡ olds ++ broken_end_of v n c
    → olds ++ broken_ends v n (drop n cs) ≡ firsts → news ++ broken_ends v (n + 1) (drop (n + 1) cs) ≡ firsts
claim_more v cs n c olds news firsts below claim added before =
    let rest = broken_ends v (n + 1) (drop (n + 1) cs) in
    ap (λ es. es ++ rest) added
    ∙ append_assoc olds (broken_end_of v n c) rest
    ∙ sym (ap (λ xs. olds ++ broken_ends v n xs) (rest_from cs n c below claim))
    ∙ before

-- the marks at a place are those of the claim that stands there
mark_at : (v : SpaceValue) (cs : List Claim) (marks : List MarksValue) (n : ℕ) (m : MarksValue)
    → marks ≡ map (marks_for v) cs → n < length marks → m ≡ get_or marks n m → m ≡ marks_for v (get_or cs n m.claim)
mark_at v cs marks n m are below read =
    let long : length marks ≡ length cs = ap length are ∙ length-map cs (marks_for v) in
    read ∙ ap (λ (ms : List MarksValue). get_or ms n m) are
    ∙ get_or-map (marks_for v) cs n m.claim m (omega (arith, below, long))

pub marked_more : (v : SpaceValue) (cs : List Claim) (marks : List MarksValue) (n : ℕ) (m : MarksValue)
    (olds news firsts : List EndValue) → marks ≡ map (marks_for v) cs → n < length marks → m ≡ get_or marks n m
    → news ≡ olds ++ broken_end_of m.space n m.claim → olds ++ broken_ends v n (drop n cs) ≡ firsts
    → news ++ broken_ends v (n + 1) (drop (n + 1) cs) ≡ firsts
marked_more v cs marks n m olds news firsts are below read added before =
    let long : length marks ≡ length cs = ap length are ∙ length-map cs (marks_for v) in
    let is = mark_at v cs marks n m are below read in
    claim_more v cs n m.claim olds news firsts (omega (arith, below, long)) (ap (λ (x : MarksValue). x.claim) is)
    (subst (λ (u : SpaceValue). news ≡ olds ++ broken_end_of u n m.claim) (ap (λ (x : MarksValue). x.space) is) added)
    before

pub claims_end : (v : SpaceValue) (cs : List Claim) (n : ℕ) (olds firsts : List EndValue) → length cs ≤ n
    → olds ++ broken_ends v n (drop n cs) ≡ firsts → olds ≡ firsts
claims_end v cs n olds firsts past all =
    sym (append-nil olds) ∙ sym (ap (λ xs. olds ++ broken_ends v n xs) (drop_of_length-le cs past)) ∙ all

-- a claim that is broken nowhere, and one that is
pub broken_nowhere : (v : SpaceValue) (index : ℕ) (c : Claim) (places before : List ℕ) (ends : List EndValue)
    → places ≡ broken_places v c → before ≡ broken_before v c
    → (length places == 0 && length before == 0) ≡ true → ends ≡ ends ++ broken_end_of v index c
broken_nowhere v index c places before ends here way none =
    sym (append-nil ends)
    ∙ ap (λ b. ends ++ cond b [] (broken_end index (broken_places v c) (length (broken_before v c)) ∷ [])) (sym none)
    ∙ (λ i. ends
    ++ cond (length (here i) == 0 && length (way i) == 0) []
    (broken_end index (broken_places v c) (length (broken_before v c)) ∷ []))

pub broken_somewhere : (v : SpaceValue) (index : ℕ) (c : Claim) (places before : List ℕ) (ends : List SpaceEnd)
    (e : SpaceEnd) → places ≡ broken_places v c → before ≡ broken_before v c
    → (length places == 0 && length before == 0) ≡ false
    → value_of e ≡ broken_end index places (length before)
    → map value_of (ends ++ e ∷ []) ≡ map value_of ends ++ broken_end_of v index c
broken_somewhere v index c places before ends e here way some is =
    map-append value_of ends (e ∷ [])
    ∙ ap (λ x. map value_of ends ++ x ∷ []) is
    ∙ ap (λ b. map value_of ends ++ cond b [] (broken_end index places (length before) ∷ [])) (sym some)
    ∙ (λ i. map value_of ends
    ++ cond (length (here i) == 0 && length (way i) == 0) []
    (broken_end index (here i) (length (way i)) ∷ []))

-- One end more says which claim is broken.

pub broken_more : (v : SpaceValue) (claims : List Claim) (xs : List SpaceEnd) (i : ℕ) (y : SpaceEnd) → i < length xs
    → AllWithin (IsBrokenSo v claims) xs 0 i → IsBrokenSo v claims y
    → AllWithin (IsBrokenSo v claims) (set xs i y) 0 (i + 1)
broken_more v claims xs i y below before here k d low within =
    elim (cases_lt k i) [
      | inl less ↦ AllWithin-set (IsBrokenSo v claims) xs 0 i i y below here before k d low less
      | inr most ↦
          let same : k ≡ i = omega (arith, within, most) in
          subst (IsBrokenSo v claims)
          (sym (ap (λ (n : ℕ). get_or (set xs i y) n d) same ∙ get_or-set_same xs i y d below)) here
    ]

pub all_broken : (v : SpaceValue) (claims : List Claim) (xs : List SpaceEnd) (i : ℕ) → length xs ≤ i
    → AllWithin (IsBrokenSo v claims) xs 0 i → AreBrokenSo v claims xs
all_broken v claims xs i past all k d within = all k d (omega arith) (omega (arith, past, within))
