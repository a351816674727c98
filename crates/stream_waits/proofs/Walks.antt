-- Ways along the waits, from one stream to the next.
use Rattle.std.proofs.Common.{◌≡◌, ◌≢◌, ℕ, zero, suc, ◌+◌, ◌-◌, ◌<◌, ◌≤◌, refl, sym, ap, ◌∙◌, subst, arith}
use Rattle.std.proofs.Common.{List, [], ◌∷◌, ◌++◌, length, slice_get, Some, None, inl, inr}
use Rattle.std.proofs.lemmas.Bool.{cases_lt}
use Rattle.std.proofs.lemmas.Option.{slice_get_within, slice_get-get_or, same_Some}
use Rattle.processor.specs.declared.steps.Step.{Step}
use Rattle.stream_waits.specs.declared.waits.StreamWait.{StreamWait}
use Rattle.stream_waits.specs.Circles.{next_of, next_after, walk, IsCircle, IsBack, IsNoWay, IsWayBack}

-- One more stream on the way.

pub walk_next : (ws : List StreamWait) (first at : Step) (k : ℕ) → walk ws first k ≡ Some at
    → walk ws first (suc k) ≡ next_of ws at
walk_next ws first at k here = ap (next_after ws) here

-- a way that has ended stays so
walk_ended : (ws : List StreamWait) (first : Step) (k more : ℕ) → walk ws first k ≡ None
    → walk ws first (more + k) ≡ None
walk_ended ws first k zero ended =
    let same : k ≡ 0 + k = omega arith in
    subst (λ n. walk ws first n ≡ None) same ended
walk_ended ws first k (suc more) ended =
    let same : suc (more + k) ≡ suc more + k = omega arith in
    subst (λ n. walk ws first n ≡ None) same (ap (next_after ws) (walk_ended ws first k more ended))

-- two places of the way with one stream lead on alike
walk_alike : (ws : List StreamWait) (first : Step) (i j more : ℕ) → walk ws first i ≡ walk ws first j
    → walk ws first (more + i) ≡ walk ws first (more + j)
walk_alike ws first i j zero same =
    let one : i ≡ 0 + i = omega arith in
    let two : j ≡ 0 + j = omega arith in
    sym (ap (walk ws first) one) ∙ same ∙ ap (walk ws first) two
walk_alike ws first i j (suc more) same =
    let one : suc (more + i) ≡ suc more + i = omega arith in
    let two : suc (more + j) ≡ suc more + j = omega arith in
    sym (ap (walk ws first) one) ∙ ap (next_after ws) (walk_alike ws first i j more same) ∙ ap (walk ws first) two

-- What is known of a way that has come to a stream.
pub record IsOnWay (ws : List StreamWait) (first at : Step) (way : List Step) (n : ℕ) : Type 0 where
  pub long : length way ≡ n
  pub here : walk ws first n ≡ Some at
  pub streams : (k : ℕ) → k < n → slice_get way k ≡ walk ws first k
  pub before : (k : ℕ) → 0 < k → k ≤ n → walk ws first k ≢ Some first

pub way_begins : (ws : List StreamWait) (first : Step) (way : List Step) → way ≡ [] → IsOnWay ws first first way 0
way_begins ws first way none = record {
  long = ap length none;
  here = refl;
  streams = λ k within. absurd (omega arith);
  before = λ k some within. absurd (omega arith);
}

got_pushed : (xs : List Step) (x : Step) (k : ℕ) → k ≡ length xs → slice_get (xs ++ x ∷ []) k ≡ Some x
got_pushed [] x k same = ap (slice_get (x ∷ [])) same
got_pushed (y ∷ xs) x zero same = absurd (omega arith)
got_pushed (y ∷ xs) x (suc k) same = got_pushed xs x k (omega arith)

got_before : (xs : List Step) (x : Step) (k : ℕ) → k < length xs → slice_get (xs ++ x ∷ []) k ≡ slice_get xs k
got_before [] x k within = absurd (omega arith)
got_before (y ∷ xs) x zero within = refl
got_before (y ∷ xs) x (suc k) within = got_before xs x k (omega arith)

long_pushed : (xs : List Step) (x : Step) → length (xs ++ x ∷ []) ≡ length xs + 1
long_pushed [] x = omega arith
long_pushed (y ∷ xs) x = let rest = long_pushed xs x in omega arith

-- the streams of the way with the one that it has come to
pub streams_pushed : (ws : List StreamWait) (first at : Step) (way more : List Step) (n : ℕ)
    → IsOnWay ws first at way n → more ≡ way ++ at ∷ [] → (k : ℕ) → k < n + 1
    → slice_get more k ≡ walk ws first k
streams_pushed ws first at way more n on is k within =
    ap (λ l. slice_get l k) is ∙ elim (cases_lt k n) [
      | inl less ↦ got_before way at k (omega (arith, on.long)) ∙ on.streams k less
      | inr most ↦
          let last : k ≡ n = omega arith in
          got_pushed way at k (omega (arith, on.long)) ∙ sym on.here ∙ sym (ap (walk ws first) last)
    ]

pub long_more : (ws : List StreamWait) (first at : Step) (way more : List Step) (n : ℕ)
    → IsOnWay ws first at way n → more ≡ way ++ at ∷ [] → length more ≡ n + 1
long_more ws first at way more n on is =
    let long = ap length is ∙ long_pushed way at in
    omega (arith, long, on.long)

pub way_on : (ws : List StreamWait) (first at next : Step) (way more : List Step) (n : ℕ)
    → IsOnWay ws first at way n → more ≡ way ++ at ∷ [] → Some next ≡ next_of ws at → next ≢ first
    → IsOnWay ws first next more (n + 1)
way_on ws first at next way more n on is leads other =
    let one : suc n ≡ n + 1 = omega arith in
    let here : walk ws first (n + 1) ≡ Some next =
    sym (ap (walk ws first) one) ∙ walk_next ws first at n on.here ∙ sym leads in
    record {
      long = long_more ws first at way more n on is;
      here = here;
      streams = streams_pushed ws first at way more n on is;
      before = λ k some within back.
          elim (cases_lt n k) [
            | inl more ↦
                let last : k ≡ n + 1 = omega arith in
                other (same_Some _ _ (sym here ∙ sym (ap (walk ws first) last) ∙ back))
            | inr most ↦ on.before k some (omega arith) back
          ];
    }

-- it is back at the first stream
pub way_back : (ws : List StreamWait) (first at next : Step) (way more : List Step) (n : ℕ)
    → IsOnWay ws first at way n → more ≡ way ++ at ∷ [] → Some next ≡ next_of ws at → next ≡ first
    → IsBack ws first more
way_back ws first at next way more n on is leads same =
    let long = long_more ws first at way more n on is in
    let one : suc n ≡ length more = omega (arith, long) in
    record {
      some = omega (arith, long);
      streams = λ k within. streams_pushed ws first at way more n on is k (omega (arith, long));
      back = sym (ap (walk ws first) one) ∙ walk_next ws first at n on.here ∙ sym leads ∙ ap (λ x. Some x) same;
      before = λ k some within. on.before k some (omega (arith, long));
    }

-- the stream that it has come to waits for none
pub way_ends : (ws : List StreamWait) (first at : Step) (way none : List Step) (n : ℕ)
    → IsOnWay ws first at way n → None ≡ next_of ws at → none ≡ [] → IsNoWay ws first none
way_ends ws first at way none n on leads is = record {
  none = is;
  never = λ k some within back.
      elim (cases_lt n k) [
        | inl more ↦
            let ended : walk ws first (suc n) ≡ None = walk_next ws first at n on.here ∙ sym leads in
            let split : (k - suc n) + suc n ≡ k = omega arith in
            let over = walk_ended ws first (suc n) (k - suc n) ended in
            let e : Some first ≡ None = sym back ∙ sym (ap (walk ws first) split) ∙ over in
            cc
        | inr most ↦ on.before k some most back
      ];
}

-- it was followed as often as there are waits
pub way_too_long : (ws : List StreamWait) (first at : Step) (way none : List Step) (n : ℕ)
    → IsOnWay ws first at way n → length ws ≤ n → none ≡ [] → IsNoWay ws first none
way_too_long ws first at way none n on past is = record {
  none = is;
  never = λ k some within. on.before k some (omega arith);
}

-- A way back of two or more is a circle.

back_different : (ws : List StreamWait) (first : Step) (way : List Step) (i j : ℕ) (a b : Step) → IsBack ws first way
    → i < j → j < length way → slice_get way i ≡ Some a → slice_get way j ≡ Some b → a ≢ b
back_different ws first way i j a b is less within one two same =
    let alike : walk ws first i ≡ walk ws first j =
    sym (is.streams i (omega arith)) ∙ one ∙ ap (λ x. Some x) same ∙ sym two ∙ is.streams j within in
    let more = length way - j in
    let all : more + j ≡ length way = omega arith in
    let e = walk_alike ws first i j more alike in
    is.before (more + i) (omega arith) (omega arith) (e ∙ ap (walk ws first) all ∙ is.back)

pub back_is_circle : (ws : List StreamWait) (first : Step) (way : List Step) → IsBack ws first way → 2 ≤ length way
    → IsCircle ws way
back_is_circle ws first way is several = record {
  several = several;
  different = λ i j d less within.
      back_different ws first way i j _ _ is less within (slice_get-get_or way i d (omega arith))
      (slice_get-get_or way j d within);
  next = λ k a b one two.
      let within = slice_get_within way (k + 1) b two in
      let same : suc k ≡ k + 1 = omega arith in
      sym (walk_next ws first a k (sym (is.streams k (omega arith)) ∙ one)) ∙ ap (walk ws first) same
      ∙ sym (is.streams (k + 1) within) ∙ two;
  closed = λ a b one two.
      let last = length way - 1 in
      let same : suc last ≡ length way = omega arith in
      let begins = is.streams 0 (omega arith) in
      sym (walk_next ws first a last (sym (is.streams last (omega arith)) ∙ one)) ∙ ap (walk ws first) same ∙ is.back
      ∙ sym begins ∙ two;
}

pub circle_found : (ws : List StreamWait) (first : Step) (way : List Step) → IsWayBack ws first way → 2 ≤ length way
    → IsCircle ws way
circle_found ws first way found several = elim found [
  | inl back ↦ back_is_circle ws first way back several
  | inr never ↦ let long = ap length never.none in absurd (omega arith)
]
