-- A circle is found from its first stream.
use Rattle.std.proofs.Common.{◌≡◌, ◌≢◌, ℕ, zero, suc, ◌+◌, ◌-◌, ◌<◌, ◌≤◌, refl, sym, ap, ◌∙◌, subst, arith}
use Rattle.std.proofs.Common.{Bool, true, false, List, [], ◌∷◌, length, map, slice_get, get_or, Some, inl, inr}
use Rattle.std.proofs.Common.{if◌then◌else◌, ◌||◌}
use Rattle.std.specs.Set.{is_member}
use Rattle.std.proofs.lemmas.Bool.{cases_lt}
use Rattle.std.proofs.lemmas.Option.{slice_get_within, slice_get-get_or, get_or_from_slice_get, same_Some}
use Rattle.std.proofs.lemmas.Map.Made.{length-le_from_is_member, is_member-Decides, IsDistinct-from_AllPairs}
use Rattle.processor.specs.declared.steps.Step.{Step}
use Rattle.stream_waits.specs.declared.waits.StreamWait.{StreamWait}
use Rattle.stream_waits.specs.Circles.{is_same_stream, turner, next_of, walk, IsCircle, IsWayBack}
use Rattle.stream_waits.proofs.SameStreams.{same_stream, same_laws}
use Rattle.stream_waits.proofs.Walks.{walk_next}

-- A stream that waits is one of those of the waits.

pub record IsThere (ws : List StreamWait) (stream : Step) : Type 0 where
  pub place : ℕ
  pub wait : StreamWait
  pub at : slice_get ws place ≡ Some wait
  pub is : wait.stream ≡ stream

pub there_by : (ws : List StreamWait) (a b : Step) → next_of ws a ≡ Some b → IsThere ws a
there_by [] a b e = cc
there_by (w ∷ ws) a b e = by_test (there_by ws a b) (is_same_stream w.stream a) refl e where
  by_test : (next_of ws a ≡ Some b → IsThere ws a) → (x : Bool) → is_same_stream w.stream a ≡ x
      → (if x then turner w.turn else next_of ws a) ≡ Some b → IsThere (w ∷ ws) a
  by_test rest true same e = record { place = 0; wait = w; at = refl; is = (same_stream w.stream a).0 same }
  by_test rest false other e =
      let later = rest e in
      record { place = suc later.place; wait = later.wait; at = later.at; is = later.is }

abbrev pub streams_of : List StreamWait → List Step
streams_of ws = map (λ (w : StreamWait). w.stream) ws

length-streams_of : (ws : List StreamWait) → length (streams_of ws) ≡ length ws
length-streams_of [] = refl
length-streams_of (w ∷ ws) = let rest = length-streams_of ws in omega arith

member_by : (ws : List StreamWait) (a b : Step) → next_of ws a ≡ Some b
    → is_member is_same_stream (streams_of ws) a ≡ true
member_by [] a b e = cc
member_by (w ∷ ws) a b e = by_test (member_by ws a b) (is_same_stream w.stream a) refl e where
  by_test : (next_of ws a ≡ Some b → is_member is_same_stream (streams_of ws) a ≡ true) → (x : Bool)
      → is_same_stream w.stream a ≡ x → (if x then turner w.turn else next_of ws a) ≡ Some b
      → is_member is_same_stream (streams_of (w ∷ ws)) a ≡ true
  by_test rest true same e =
      let turned : is_same_stream a w.stream ≡ true = same_laws.symm a w.stream ∙ same in
      ap (λ x. x || is_member is_same_stream (streams_of ws) a) turned
  by_test rest false other e =
      let later = rest e in
      let turned : is_same_stream a w.stream ≡ false = same_laws.symm a w.stream ∙ other in
      ap (λ x. x || is_member is_same_stream (streams_of ws) a) turned ∙ later

-- Each stream of a circle waits for one.

pub record Leads (ws : List StreamWait) (a : Step) : Type 0 where
  pub to : Step
  pub leads : next_of ws a ≡ Some to

leads_at : (ws : List StreamWait) (c : List Step) (k : ℕ) (a : Step) → IsCircle ws c → slice_get c k ≡ Some a
    → Leads ws a
leads_at ws c k a is at =
    let within = slice_get_within c k a at in
    elim (cases_lt (k + 1) (length c)) [
      | inl less ↦
          let next = get_or c (k + 1) a in
          record { to = next; leads = is.next k a next at (slice_get-get_or c (k + 1) a less) }
      | inr most ↦
          let last : k ≡ length c - 1 = omega arith in
          let first = get_or c 0 a in
          record {
            to = first;
            leads = is.closed a first (sym (ap (slice_get c) last) ∙ at) (slice_get-get_or c 0 a (omega arith));
          }
    ]

-- so it has no more streams than wait
circle_short : (ws : List StreamWait) (c : List Step) → IsCircle ws c → length c ≤ length ws
circle_short ws c is =
    let distinct = IsDistinct-from_AllPairs same_stream c is.different in
    let less = length-le_from_is_member same_laws c (streams_of ws) distinct each in
    omega (arith, less, length-streams_of ws) where
      each : (q : Step) → is_member is_same_stream c q ≡ true → is_member is_same_stream (streams_of ws) q ≡ true
      each q has =
          let there = (is_member-Decides same_stream c q).0 has in
          let at : slice_get c there.0 ≡ Some q =
          slice_get-get_or c there.0 q there.1 ∙ ap (λ x. Some x) there.2 in
          let leads = leads_at ws c there.0 q is at in
          member_by ws q leads.to leads.leads

-- The way from its first stream goes round it.

around_to : (ws : List StreamWait) (c : List Step) (first : Step) (k : ℕ) → IsCircle ws c → slice_get c 0 ≡ Some first
    → k < length c → walk ws first k ≡ slice_get c k
around_to ws c first zero is begins within = sym begins
around_to ws c first (suc k) is begins within =
    let here = around_to ws c first k is begins (omega arith) in
    let a = get_or c k first in
    let b = get_or c (suc k) first in
    let at : slice_get c k ≡ Some a = slice_get-get_or c k first (omega arith) in
    let after : slice_get c (suc k) ≡ Some b = slice_get-get_or c (suc k) first within in
    let one : suc k ≡ k + 1 = omega arith in
    walk_next ws first a k (here ∙ at) ∙ is.next k a b at (sym (ap (slice_get c) one) ∙ after) ∙ sym after

around : (ws : List StreamWait) (c : List Step) (first : Step) → IsCircle ws c → slice_get c 0 ≡ Some first
    → walk ws first (length c) ≡ Some first
around ws c first is begins =
    let several = is.several in
    let last = length c - 1 in
    let a = get_or c last first in
    let at : slice_get c last ≡ Some a = slice_get-get_or c last first (omega arith) in
    let all : suc last ≡ length c = omega arith in
    sym (ap (walk ws first) all) ∙ walk_next ws first a last (around_to ws c first last is begins (omega arith) ∙ at)
    ∙ is.closed a first at begins

-- the first stream of a circle comes only once in it
once : (ws : List StreamWait) (c : List Step) (first : Step) → IsCircle ws c → slice_get c 0 ≡ Some first
    → walk ws first 1 ≢ Some first
once ws c first is begins back =
    let several = is.several in
    let two : slice_get c 1 ≡ Some first = sym (around_to ws c first 1 is begins (omega arith)) ∙ back in
    is.different 0 1 first (omega arith) (omega arith)
    (get_or_from_slice_get c 0 first first begins ∙ sym (get_or_from_slice_get c 1 first first two))

-- so where a circle begins with a stream, the way back to it has two streams or more
pub long_way : (ws : List StreamWait) (c way : List Step) (first : Step) → IsCircle ws c → slice_get c 0 ≡ Some first
    → IsWayBack ws first way → 2 ≤ length way
long_way ws c way first is begins found = elim found [
  | inl back ↦
      elim (cases_lt 1 (length way)) [
        | inl more ↦ omega arith
        | inr most ↦
            let one : length way ≡ 1 = omega (arith, back.some) in
            absurd (once ws c first is begins (sym (ap (walk ws first) one) ∙ back.back))
      ]
  | inr none ↦
      let several = is.several in
      absurd (none.never (length c) (omega arith) (circle_short ws c is) (around ws c first is begins))
]

-- What is known when the waits below a place were looked at.

pub record NoneBegins (ws : List StreamWait) (stream : Step) : Type 0 where
  pub none : (c : List Step) → IsCircle ws c → slice_get c 0 ≢ Some stream

-- no circle begins with a stream of these waits
abbrev pub NoneBelow : List StreamWait → ℕ → Type 0
NoneBelow ws n = (k : ℕ) (w : StreamWait) → k < n → slice_get ws k ≡ Some w → NoneBegins ws w.stream

pub none_below_more : (ws : List StreamWait) (way : List Step) (n : ℕ) (d : StreamWait) → n < length ws
    → IsWayBack ws (get_or ws n d).stream way → length way < 2 → NoneBelow ws n → NoneBelow ws (n + 1)
none_below_more ws way n d within found short none = λ k other below there.
    elim (cases_lt k n) [
      | inl less ↦ none k other less there
      | inr most ↦
          let w = get_or ws n d in
          let here : k ≡ n = omega arith in
          let same : other ≡ w =
          same_Some _ _ (sym there ∙ ap (slice_get ws) here ∙ slice_get-get_or ws n d within) in
          let this : NoneBegins ws w.stream = record {
            none = λ c is begins. let long = long_way ws c way w.stream is begins found in absurd (omega arith);
          } in
          subst (λ (x : StreamWait). NoneBegins ws x.stream) (sym same) this
    ]

pub no_circle : (ws : List StreamWait) (n : ℕ) → length ws ≤ n → NoneBelow ws n → (c : List Step) → ¬ (IsCircle ws c)
no_circle ws n past none c is =
    let several = is.several in
    elim c as (λ l. c ≡ l → ⊥) [
      | [] ↦ λ e. let long = ap length e in absurd (omega arith)
      | a ∷ rest ↦ λ e.
          let begins : slice_get c 0 ≡ Some a = ap (λ l. slice_get l 0) e in
          let leads = leads_at ws c 0 a is begins in
          let there = there_by ws a leads.to leads.leads in
          let within = slice_get_within ws there.place there.wait there.at in
          (none there.place there.wait (omega arith) there.at).none c is (begins ∙ ap (λ x. Some x) (sym there.is))
    ] refl
