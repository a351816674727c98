-- A schedule while it is made: so many steps of each record, for so many entries of the history.
use Rattle.std.proofs.Common.{◌≡◌, ℕ, zero, suc, ◌+◌, ◌-◌, ◌<◌, ◌≤◌, sym, refl, ◌∙◌, ap, subst, arith, inl, inr}
use Rattle.std.proofs.Common.{length}
use Rattle.std.proofs.Common.{List, [], ◌∷◌, ◌++◌, take, map, get_or, replicate, Some, Bool, true, false, cond, eqb}
use Rattle.std.specs.Prelude.{slice_get, slice_set, slice_range}
use Rattle.std.proofs.lemmas.Bool.Decides.{eqb_tells}
use Rattle.std.proofs.lemmas.List.{length-set, get_or-set_same, get_or-set_other}
use Rattle.std.proofs.lemmas.List.{append-nil, length-replicate, length-take-le}
use Rattle.std.proofs.Math.Seq.{take-add}
use Rattle.std.proofs.lemmas.Option.{same_Some, slice_get_within}
use Rattle.processor.specs.Processors.{ProcessorValue}
use Rattle.processor.specs.World.{history_of}
use Rattle.processor.specs.Histories.{replay, IsLegalFrom, steps_of, pairs_of}
use Rattle.processor.specs.OwnSteps.{IsOwn}
use Rattle.processor.specs.Records.{RecordValue}
use Rattle.processor.specs.declared.steps.Step.{Step}
use Rattle.processor.specs.declared.steps.Asked.{Asked}
use Rattle.processor.specs.declared.steps.Entry.{Entry}
use Rattle.processor.proofs.Histories.{steps_of-append}
use Rattle.processor.specs.Histories.{step_by, entry_by}
use Rattle.processor.proofs.Weaving.{steps_of-by_same, steps_of-by_other, extend}
use Rattle.shared_history.specs.SharedMemory.{SharedValue}

-- the first steps of each record, as many as are done of it, and the first i entries
pub record IsSoFar (shared : SharedValue) (records : List RecordValue) (schedule : List Step) (done : List ℕ) (i : ℕ)
    : Type 0 where
  pub done_len : length done ≡ length records
  pub done_in : (p : ℕ) (r : RecordValue) → slice_get records p ≡ Some r → get_or done p 0 ≤ length r.steps
  pub steps : (p : ℕ) (r : RecordValue) → slice_get records p ≡ Some r
      → steps_of p schedule ≡ take (get_or done p 0) r.steps
  pub others : (p : ℕ) → length records ≤ p → steps_of p schedule ≡ []
  pub makes : history_of shared.image schedule ≡ take i shared.history

-- how many pairs of each processor the first i entries are
pub record IsCounted (shared : SharedValue) (taken : List ℕ) (i : ℕ) : Type 0 where
  pub taken_len : length taken ≡ length shared.image.entries
  pub taken_is : (p : ℕ) → p < length taken → get_or taken p 0 ≡ length (pairs_of p (take i shared.history))

-- steps d to n of a record of processor p
abbrev pub more : ℕ → List ℕ → ℕ → ℕ → List Step
more p ss d n = map (step_by p) (slice_range ss d n)

range-joins : (ss : List ℕ) (d n : ℕ) → d ≤ n → take d ss ++ slice_range ss d n ≡ take n ss
range-joins ss d n h =
    sym (take-add d (n - d) ss) ∙ ap (λ k. take k ss) (let e : d + (n - d) ≡ n = omega arith in e)

-- What is known of a processor of which a schedule has all steps up to some place.
record Goes (shared : SharedValue) (records : List RecordValue) (ts : List Step) (p d n : ℕ) (r : RecordValue)
    (rs : List Asked) (i j : ℕ) : Type 0 where
  same : steps_of p (ts ++ more p r.steps d n) ≡ take n r.steps
  other : (q : ℕ) → eqb p q ≡ false → steps_of q (ts ++ more p r.steps d n) ≡ steps_of q ts
  makes : history_of shared.image (ts ++ more p r.steps d n) ≡ take j shared.history

goes : (shared : SharedValue) (records : List RecordValue) (ts : List Step) (done : List ℕ) (i j p n : ℕ)
    (r : RecordValue) (rs : List Asked) (y : ProcessorValue) → IsSoFar shared records ts done i
    → slice_get records p ≡ Some r → get_or done p 0 ≤ n
    → take j shared.history ≡ take i shared.history ++ map (entry_by p) rs
    → IsOwn shared.image p (take n r.steps) (pairs_of p (take i shared.history) ++ rs) y
    → IsLegalFrom (replay shared.image (take i shared.history)) (map (entry_by p) rs)
    → Goes shared records ts p (get_or done p 0) n r rs i j
goes shared records ts done i j p n r rs y so here from hist own legal =
    let image = shared.image in
    let d = get_or done p 0 in
    let us = slice_range r.steps d n in
    let whole : steps_of p ts ++ us ≡ take n r.steps =
    ap (λ l. l ++ us) (so.steps p r here) ∙ range-joins r.steps d n from in
    let L : List Entry → Type 0 = λ es. IsLegalFrom (replay image es) (map (entry_by p) rs) in
    let O : List ℕ → Type 0 = λ l. IsOwn image p l (pairs_of p (take i shared.history) ++ rs) y in
    let Q : List Entry → Type 0 = λ es. IsOwn image p (steps_of p ts ++ us) (pairs_of p es ++ rs) y in
    let ex = extend image ts p us rs y (subst Q (sym so.makes) (subst O (sym whole) own))
    (subst L (sym so.makes) legal) in
    let add : (q : ℕ) → steps_of q (ts ++ more p r.steps d n) ≡ steps_of q ts ++ steps_of q (more p r.steps d n) =
    λ q. steps_of-append q ts (more p r.steps d n) in
    record {
      same = add p ∙ ap (λ l. steps_of p ts ++ l) (steps_of-by_same p us) ∙ whole;
      other = λ q f. add q ∙ ap (λ l. steps_of q ts ++ l) (steps_of-by_other p q us f)
          ∙ append-nil (steps_of q ts);
      makes = ex ∙ ap (λ es. es ++ map (entry_by p) rs) so.makes ∙ sym hist;
    }

-- the schedule goes on with a record's steps up to n of them, which take these pairs
pub advance : (shared : SharedValue) (records : List RecordValue) (ts : List Step) (done : List ℕ) (i j p n : ℕ)
    (r : RecordValue) (rs : List Asked) (y : ProcessorValue) → IsSoFar shared records ts done i
    → slice_get records p ≡ Some r → get_or done p 0 ≤ n → n ≤ length r.steps
    → take j shared.history ≡ take i shared.history ++ map (entry_by p) rs
    → IsOwn shared.image p (take n r.steps) (pairs_of p (take i shared.history) ++ rs) y
    → IsLegalFrom (replay shared.image (take i shared.history)) (map (entry_by p) rs)
    → IsSoFar shared records (ts ++ more p r.steps (get_or done p 0) n) (slice_set done p n) j
advance shared records ts done i j p n r rs y so here from upto hist own legal =
    let g = goes shared records ts done i j p n r rs y so here from hist own legal in
    let us = ts ++ more p r.steps (get_or done p 0) n in
    let next = slice_set done p n in
    let in_done : p < length done = omega (arith, slice_get_within records p r here, so.done_len) in
    let got : get_or next p 0 ≡ n = get_or-set_same done p n 0 in_done in
    let D : ℕ → Type 0 = λ q. (x : RecordValue) → slice_get records q ≡ Some x
    → (get_or next q 0 ≤ length x.steps) × (steps_of q us ≡ take (get_or next q 0) x.steps) in
    let at_p : D p = λ x h.
    let is : r ≡ x = same_Some _ _ (sym here ∙ h) in (
      omega (arith, got, upto, ap (λ (z : RecordValue). length z.steps) is),
      g.same ∙ ap (λ (z : RecordValue). take n z.steps) is ∙ ap (λ k. take k x.steps) (sym got),
    ) in
    let each : (q : ℕ) → D q = λ q. elim (eqb_tells p q) [
      | inl t ↦ subst D t.1 at_p
      | inr t ↦ λ x h.
          let k = get_or-set_other done p q n 0 (λ m. t.1 (sym m)) in
          (omega (arith, k, so.done_in q x h), g.other q t.0 ∙ so.steps q x h ∙ ap (λ m. take m x.steps) (sym k))
    ] in
    record {
      done_len = length-set done p n ∙ so.done_len;
      done_in = λ q x h. (each q x h).0;
      steps = λ q x h. (each q x h).1;
      others = λ q h. elim (eqb_tells p q) [
        | inl t ↦ absurd (omega (arith, slice_get_within records p r here, t.1, h))
        | inr t ↦ g.other q t.0 ∙ so.others q h
      ];
      makes = g.makes;
    }

pub zeros-at : (n p : ℕ) → get_or {A = ℕ} (replicate n 0) p 0 ≡ 0
zeros-at zero p = refl
zeros-at (suc n) zero = refl
zeros-at (suc n) (suc p) = zeros-at n p

-- nothing yet
pub nothing-yet : (shared : SharedValue) (records : List RecordValue) (n : ℕ) → n ≡ length records
    → IsSoFar shared records [] (replicate n 0) 0
nothing-yet shared records n h = record {
  done_len = length-replicate n 0 ∙ h;
  done_in = λ p r k. omega (arith, zeros-at n p);
  steps = λ p r k. ap (λ m. take m r.steps) (sym (zeros-at n p));
  others = λ p k. refl;
  makes = refl;
}

pub none-counted : (shared : SharedValue) (n : ℕ) → n ≡ length shared.image.entries
    → IsCounted shared (replicate n 0) 0
none-counted shared n h = record { taken_len = length-replicate n 0 ∙ h; taken_is = λ p k. zeros-at n p }

cond-shorter : {A : Type 0} (b : Bool) (x : A) (xs : List A) (n : ℕ) → length xs ≤ n
    → length (cond b (x ∷ xs) xs) ≤ suc n
cond-shorter true x xs n h = omega arith
cond-shorter false x xs n h = omega arith

steps_of-length : (p : ℕ) (ts : List Step) → length (steps_of p ts) ≤ length ts
steps_of-length p [] = omega arith
steps_of-length p (t ∷ ts) = cond-shorter (eqb t.p p) t.s (steps_of p ts) (length ts) (steps_of-length p ts)

-- no more steps are done of a record than there are in the schedule
pub done-within : (shared : SharedValue) (records : List RecordValue) (ts : List Step) (done : List ℕ) (i p : ℕ)
    (r : RecordValue) → IsSoFar shared records ts done i → slice_get records p ≡ Some r → get_or done p 0 ≤ length ts
done-within shared records ts done i p r so here =
    omega (
      arith,
      steps_of-length p ts,
      ap length (so.steps p r here),
      so.done_in p r here,
      length-take-le (get_or done p 0) r.steps (so.done_in p r here),
    )
