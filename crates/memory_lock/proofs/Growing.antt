-- What a record keeps while it is driven.
use Rattle.std.proofs.Common.{ℕ, subst, ◌≡◌, ◌<◌, ◌≤◌, ◌+◌, ◌-◌, List, [], ◌∷◌, ◌++◌, Option, Some, None}
use Rattle.std.proofs.Common.{length, refl, sym, ◌∙◌, ap, arith, drop, map, inl, inr}
use Rattle.std.specs.Prelude.{true, false, Bool, not, ◌||◌, nat_le}
use Rattle.std.proofs.lemmas.Bool.Decides.{leb_tells}
use Rattle.std.proofs.lemmas.List.{length-append, append_assoc, append-nil, length_push, drop-append-le, drop_all}
use Rattle.std.proofs.lemmas.List.{map-append}
use Rattle.tag_memory.specs.declared.requests.Request.{Request}
use Rattle.processor.specs.Processors.{ProcessorValue}
use Rattle.processor.specs.Row.{next_step_of}
use Rattle.processor.specs.declared.steps.Next.TheVariants as next
use Rattle.processor.specs.declared.steps.NextStep.{NextStep}
use Rattle.processor.proofs.Begun.{ask_request, told_next}
use Rattle.processor.specs.Histories.{entry_by}
use Rattle.processor.specs.Records.{RecordValue, any_runs, IsKept}
use Rattle.processor.specs.Turns.{IsInTurn, turn_after, last_of}
use Rattle.processor.specs.declared.steps.Asked.{Asked}
use Rattle.processor.specs.declared.steps.Entry.{Entry}
use Rattle.processor.proofs.Turning.{in-turn-more, in-turn-last}
use Rattle.shared_history.specs.Parts.{has_finished}
use Rattle.memory_lock.specs.Driving.{IsGrown, HasMade, MayAsk, with_entries}

-- The record.

pub grown-start : (fuel : ℕ) (r : RecordValue) → fuel ≤ length r.steps + r.spare → IsGrown fuel r r
grown-start fuel r h = record {
  image = refl;
  number = refl;
  steps = ([], sym (append-nil r.steps));
  pairs = ([], sym (append-nil r.pairs));
  in_turn = λ k past before. absurd (omega (arith, past, before));
  bound = omega arith;
  room = h;
}

-- a record after one step more, which took these pairs
abbrev pub stepped_by : RecordValue → ℕ → List Asked → ProcessorValue → RecordValue
stepped_by mid s more state =
    record mid { steps = mid.steps ++ s ∷ []; pairs = mid.pairs ++ more; state = state; spare = mid.spare - 1 }

abbrev pub stepped_locally : RecordValue → ℕ → ProcessorValue → RecordValue
stepped_locally mid s state = record mid { steps = mid.steps ++ s ∷ []; state = state; spare = mid.spare - 1 }

locally : (mid : RecordValue) (s : ℕ) (state : ProcessorValue) → stepped_locally mid s state ≡ stepped_by mid s [] state
locally mid s state =
    let F : List Asked → RecordValue =
    λ l. record mid { steps = mid.steps ++ s ∷ []; pairs = l; state = state; spare = mid.spare - 1 } in
    ap F (sym (append-nil mid.pairs))

-- the steps so far were in turn, and one more is
in-turn-ask : (from s : ℕ) (mid new : RecordValue) (more : List Asked) (state : ProcessorValue) → IsKept mid
    → turn_after mid.state (last_of mid.steps) ≡ Some s → new ≡ stepped_by mid s more state
    → ((k : ℕ) → from ≤ k → k < length mid.steps → IsInTurn mid.image mid.number mid.steps mid.pairs k)
    → (k : ℕ) → from ≤ k → k < length new.steps → IsInTurn new.image new.number new.steps new.pairs k
in-turn-ask from s mid new more state kept turn is so k ge lt =
    let P : RecordValue → Type 0 = λ r. IsInTurn r.image r.number r.steps r.pairs k in
    let n : length new.steps ≡ length mid.steps + 1 =
    ap (λ (r : RecordValue). length r.steps) is ∙ length_push mid.steps s in
    let K : ℕ → Type 0 = λ i. IsInTurn mid.image mid.number (mid.steps ++ s ∷ []) (mid.pairs ++ more) i in
    subst P (sym is) (elim (leb_tells (length mid.steps) k) [
      | inl t ↦
          let e : length mid.steps ≡ k = omega (arith, n, lt, t.1) in
          subst K e (in-turn-last mid.image mid.number mid.steps mid.pairs more mid.state s kept turn)
      | inr t ↦ in-turn-more mid.image mid.number mid.steps (s ∷ []) mid.pairs more k t.1 (so k ge t.1)
    ])

-- a record after one step more, in turn
pub grown-ask : (fuel : ℕ) (old mid new : RecordValue) (s : ℕ) (more : List Asked) (state : ProcessorValue)
    → IsKept mid → turn_after mid.state (last_of mid.steps) ≡ Some s → IsGrown fuel old mid → length mid.steps < fuel
    → new ≡ stepped_by mid s more state → IsGrown fuel old new
grown-ask fuel old mid new s more state kept turn h w is =
    let P : RecordValue → Type 0 = λ r. IsGrown fuel old r in
    let ss = h.steps in
    let rs = h.pairs in
    subst P (sym is) (record {
      image = h.image;
      number = h.number;
      steps = (ss.0 ++ s ∷ [], ap (λ l. l ++ s ∷ []) ss.1 ∙ append_assoc old.steps ss.0 (s ∷ []));
      pairs = (rs.0 ++ more, ap (λ l. l ++ more) rs.1 ∙ append_assoc old.pairs rs.0 more);
      in_turn = in-turn-ask (length old.steps) s mid (stepped_by mid s more state) more state kept turn refl h.in_turn;
      bound = omega (arith, length_push mid.steps s);
      room = omega (arith, length_push mid.steps s, h.room);
    })

pub grown-local : (fuel : ℕ) (old mid new : RecordValue) (s : ℕ) (state : ProcessorValue) → IsKept mid
    → turn_after mid.state (last_of mid.steps) ≡ Some s → IsGrown fuel old mid → length mid.steps < fuel
    → new ≡ stepped_locally mid s state → IsGrown fuel old new
grown-local fuel old mid new s state kept turn h w is =
    grown-ask fuel old mid new s [] state kept turn h w (is ∙ locally mid s state)

-- The port.

with_entries-both : (o : Option (List Entry)) (es fs : List Entry)
    → with_entries (with_entries o es) fs ≡ with_entries o (es ++ fs)
with_entries-both None es fs = refl
with_entries-both (Some l) es fs = ap Some (append_assoc l es fs)

with_entries-nil : (o : Option (List Entry)) → with_entries o [] ≡ o
with_entries-nil None = refl
with_entries-nil (Some l) = ap Some (append-nil l)

pub made-start : (r : RecordValue) (o : Option (List Entry)) → HasMade r r o o
made-start r o =
    sym (ap (λ l. with_entries o (map (entry_by r.number) l)) (drop_all (length r.pairs) r.pairs (omega arith))
    ∙ with_entries-nil o)

pub made-ask : (fuel : ℕ) (old mid : RecordValue) (a : Asked) (before now after : Option (List Entry)) (p : ℕ)
    (new : RecordValue) → IsGrown fuel old mid → HasMade old mid before now → p ≡ old.number
    → after ≡ with_entries now (entry_by p a ∷ []) → new.pairs ≡ mid.pairs ++ a ∷ [] → HasMade old new before after
made-ask fuel old mid a before now after p new h made p_is is pairs =
    let f = entry_by old.number in
    let n = length old.pairs in
    let le : n ≤ length mid.pairs = omega (arith, ap length h.pairs.1, length-append old.pairs h.pairs.0) in
    is ∙ ap (λ k. with_entries now (entry_by k a ∷ [])) p_is ∙ ap (λ o. with_entries o (f a ∷ [])) made
    ∙ with_entries-both before _ (f a ∷ [])
    ∙ ap (with_entries before) (sym (map-append f (drop n mid.pairs) (a ∷ []))
    ∙ ap (map f) (sym (drop-append-le n mid.pairs (a ∷ []) le) ∙ ap (drop n) (sym pairs)))

pub made-local : (old mid new : RecordValue) (before now : Option (List Entry)) → HasMade old mid before now
    → new.pairs ≡ mid.pairs → HasMade old new before now
made-local old mid new before now h e =
    h ∙ ap (λ l. with_entries before (map (entry_by old.number) (drop (length old.pairs) l))) (sym e)

-- The end.

finish_or : (a b : Bool) → b ≡ false → (a || not b) ≡ true
finish_or true b h = refl
finish_or false b h = rw h refl

pub finished-none : (fuel : ℕ) (r : RecordValue) → any_runs r.state ≡ false → has_finished fuel r ≡ true
finished-none fuel r h = finish_or (nat_le fuel (length r.steps)) (any_runs r.state) h

pub finished-steps : (fuel : ℕ) (r : RecordValue) → fuel ≤ length r.steps → has_finished fuel r ≡ true
finished-steps fuel r h =
    elim (leb_tells fuel (length r.steps)) [ inl t ↦ rw t.0 refl | inr t ↦ absurd (omega (arith, t.1, h)) ]

-- a step that is missing asks

pub may-ask : (fuel : ℕ) (r : RecordValue) (s : ℕ) (t : NextStep) (q : Request) → length r.steps < fuel
    → turn_after r.state (last_of r.steps) ≡ Some s → t ≡ next_step_of r.image r.state s → t.next ≡ next.Ask q
    → MayAsk fuel r
may-ask fuel r s t q short turn told asks = record {
  short = short;
  stream = s;
  turn = turn;
  asked = q;
  asks = ask_request r.image r.state s q (told_next r.image r.state s t (next.Ask q) told asks);
}
