-- Records' pairs beside their processors' entries, while they are compared.
use Rattle.std.proofs.Common.{◌≡◌, ℕ, ◌+◌, ◌<◌, ◌≤◌, sym, refl, ◌∙◌, ap, subst, arith, inl, inr, length}
use Rattle.std.proofs.Common.{List, [], ◌∷◌, ◌++◌}
use Rattle.std.proofs.Common.{take, drop, get_or, replicate, Some}
use Rattle.std.specs.Prelude.{slice_get, slice_set}
use Rattle.std.proofs.lemmas.Bool.Decides.{eqb_tells}
use Rattle.std.proofs.lemmas.List.{length-append, take_more, take_all, length-take-le, get_or_at}
use Rattle.std.proofs.lemmas.List.{get_or-set_same, get_or-set_other}
use Rattle.std.proofs.lemmas.Option.{same_Some, slice_get_within, slice_get_read, get_or_from_slice_get}
use Rattle.processor.specs.Histories.{pairs_of, pair_of}
use Rattle.processor.specs.Records.{RecordValue}
use Rattle.processor.specs.declared.steps.Asked.{Asked}
use Rattle.processor.specs.declared.steps.Entry.{Entry}
use Rattle.shared_history.specs.Parts.{HasEntries, FailsFirst}
use Rattle.shared_history.proofs.Entries.{splits, pairs-at, pairs_of-more, pairs_of-other}
use Rattle.shared_history.proofs.Places.{get-within}
use Rattle.shared_history.proofs.SoFar.{zeros-at}

-- One record.

-- the first pairs, so many, are those of the processor's entries so far
pub record IsMet (pairs : List Asked) (entries : List Entry) (i p taken : ℕ) : Type 0 where
  pub within : taken ≤ length pairs
  pub same : take taken pairs ≡ pairs_of p (take i entries)

-- where all pairs are the entries, the next one is that of the entry at hand
meets : (pairs : List Asked) (entries : List Entry) (i taken : ℕ) (e : Entry) → slice_get entries i ≡ Some e
    → IsMet pairs entries i e.p taken → pairs ≡ pairs_of e.p entries → slice_get pairs taken ≡ Some (pair_of e)
meets pairs entries i taken e h met is =
    let before = pairs_of e.p (take i entries) in
    let behind = pairs_of e.p (drop (i + 1) entries) in
    let at = is ∙ pairs-at entries i e (splits entries i e h) in
    let n : length before ≡ taken = ap length (sym met.same) ∙ length-take-le taken pairs met.within in
    let there = ap (λ l. get_or l taken (pair_of e)) at ∙ get_or_at before (pair_of e) behind (pair_of e) taken n in
    slice_get_read pairs (length pairs) taken (pair_of e) refl
    (omega (arith, ap length at, length-append before (pair_of e ∷ behind), n)) (sym there)

-- one entry more, of the processor
same-more : (pairs : List Asked) (entries : List Entry) (i taken : ℕ) (e : Entry) → slice_get entries i ≡ Some e
    → slice_get pairs taken ≡ Some (pair_of e) → IsMet pairs entries i e.p taken
    → IsMet pairs entries (i + 1) e.p (taken + 1)
same-more pairs entries i taken e h next met =
    let w = slice_get_within pairs taken (pair_of e) next in
    record {
      within = omega (arith, w);
      same = take_more pairs taken (pair_of e) w
          ∙ ap (λ x. take taken pairs ++ x ∷ []) (get_or_from_slice_get pairs taken (pair_of e) (pair_of e) next)
          ∙ ap (λ l. l ++ pair_of e ∷ []) met.same ∙ sym (pairs_of-more entries i e (splits entries i e h));
    }

-- and of another
other-more : (pairs : List Asked) (entries : List Entry) (i taken : ℕ) (e : Entry) (p : ℕ)
    → slice_get entries i ≡ Some e → (e.p ≡ p → ⊥) → IsMet pairs entries i p taken
    → IsMet pairs entries (i + 1) p taken
other-more pairs entries i taken e p h un met = elim (eqb_tells e.p p) [
  | inl t ↦ absurd (un t.1)
  | inr t ↦ record {
    within = met.within;
    same = met.same ∙ sym (pairs_of-other entries i e p (splits entries i e h) t.0);
  }
]

-- All records.

-- those below `torn` have met all entries so far, and the one there is not its processor's entries
pub record AreMet (records : List RecordValue) (entries : List Entry) (taken : List ℕ) (i torn : ℕ) : Type 0 where
  pub torn_in : torn ≤ length records
  pub met : (p : ℕ) (r : RecordValue) → p < torn → slice_get records p ≡ Some r
      → IsMet r.pairs entries i p (get_or taken p 0)
  pub unlike : (r : RecordValue) → slice_get records torn ≡ Some r → r.pairs ≡ pairs_of torn entries → ⊥

pub none-met : (records : List RecordValue) (entries : List Entry) (n torn : ℕ) → torn ≡ length records
    → AreMet records entries (replicate n 0) 0 torn
none-met records entries n torn is = record {
  torn_in = omega (arith, is);
  met = λ p r w h. rw (zeros-at n p) (record { within = omega arith; same = refl });
  unlike = λ r h k. omega (arith, slice_get_within records torn r h, is);
}

-- an entry that is its record's next pair
pub met-more : (records : List RecordValue) (entries : List Entry) (taken : List ℕ) (i torn next : ℕ) (e : Entry)
    (r : RecordValue) → slice_get entries i ≡ Some e → slice_get records e.p ≡ Some r → e.p < length taken
    → next ≡ get_or taken e.p 0 → slice_get r.pairs next ≡ Some (pair_of e)
    → AreMet records entries taken i torn → AreMet records entries (slice_set taken e.p (next + 1)) (i + 1) torn
met-more records entries taken i torn next e r h here w n_is next_is so =
    let after = slice_set taken e.p (next + 1) in
    let D : ℕ → Type 0 = λ q. (x : RecordValue) → q < torn → slice_get records q ≡ Some x
    → IsMet x.pairs entries (i + 1) q (get_or after q 0) in
    let at_p : D e.p = λ x b k.
    let R : RecordValue → Type 0 = λ y. IsMet y.pairs entries (i + 1) e.p (get_or after e.p 0) in
    let N : ℕ → Type 0 = λ m. IsMet r.pairs entries (i + 1) e.p m in
    let O : ℕ → Type 0 = λ m. IsMet r.pairs entries i e.p m in
    subst R (same_Some _ _ (sym here ∙ k)) (subst N (sym (get_or-set_same taken e.p (next + 1) 0 w))
    (same-more r.pairs entries i next e h next_is (subst O (sym n_is) (so.met e.p r b here)))) in
    record {
      torn_in = so.torn_in;
      met = λ q. elim (eqb_tells e.p q) [
        | inl t ↦ subst D t.1 at_p
        | inr t ↦ λ x b k.
            let N : ℕ → Type 0 = λ m. IsMet x.pairs entries (i + 1) q m in
            subst N (sym (get_or-set_other taken e.p q (next + 1) 0 (λ m. t.1 (sym m))))
            (other-more x.pairs entries i (get_or taken q 0) e q h t.1 (so.met q x b k))
      ];
      unlike = so.unlike;
    }

-- one of a record that is not compared any more
pub met-past : (records : List RecordValue) (entries : List Entry) (taken : List ℕ) (i torn : ℕ) (e : Entry)
    → slice_get entries i ≡ Some e → torn ≤ e.p → AreMet records entries taken i torn
    → AreMet records entries taken (i + 1) torn
met-past records entries taken i torn e h past so = record {
  torn_in = so.torn_in;
  met = λ q x b k. other-more x.pairs entries i (get_or taken q 0) e q h (λ m. omega (arith, m, b, past)) (so.met q x b k);
  unlike = so.unlike;
}

-- and one that is not its record's next pair
pub met-torn : (records : List RecordValue) (entries : List Entry) (taken : List ℕ) (i torn next : ℕ) (e : Entry)
    (r : RecordValue) → slice_get entries i ≡ Some e → slice_get records e.p ≡ Some r → e.p < torn
    → next ≡ get_or taken e.p 0 → (slice_get r.pairs next ≡ Some (pair_of e) → ⊥)
    → AreMet records entries taken i torn → AreMet records entries taken (i + 1) e.p
met-torn records entries taken i torn next e r h here below n_is un so =
    let O : ℕ → Type 0 = λ m. IsMet r.pairs entries i e.p m in
    record {
      torn_in = omega (arith, below, so.torn_in);
      met = λ q x b k. other-more x.pairs entries i (get_or taken q 0) e q h (λ m. omega (arith, m, b))
          (so.met q x (omega (arith, b, below)) k);
      unlike = λ x k is.
          let same = same_Some _ _ (sym here ∙ k) in
          un (meets r.pairs entries i next e h (subst O (sym n_is) (so.met e.p r below here))
          (ap (λ (y : RecordValue). y.pairs) same ∙ is));
    }

-- Once all entries were read.

pub met-all : (records : List RecordValue) (entries : List Entry) (taken : List ℕ) (i torn p next : ℕ)
    (r : RecordValue) → length entries ≤ i → slice_get records p ≡ Some r → p < torn → next ≡ get_or taken p 0
    → length r.pairs ≤ next → AreMet records entries taken i torn → r.pairs ≡ pairs_of p entries
met-all records entries taken i torn p next r le here below n_is full so =
    let met = so.met p r below here in
    sym (take_all (get_or taken p 0) r.pairs (omega (arith, n_is, full))) ∙ met.same
    ∙ ap (pairs_of p) (take_all i entries le)

pub met-few : (records : List RecordValue) (entries : List Entry) (taken : List ℕ) (i torn p next : ℕ)
    (r : RecordValue) → length entries ≤ i → slice_get records p ≡ Some r → p < torn → next ≡ get_or taken p 0
    → next < length r.pairs → AreMet records entries taken i torn → r.pairs ≡ pairs_of p entries → ⊥
met-few records entries taken i torn p next r le here below n_is few so is =
    let met = so.met p r below here in
    omega (
      arith,
      n_is,
      few,
      length-take-le (get_or taken p 0) r.pairs met.within,
      ap length (met.same ∙ ap (pairs_of p) (take_all i entries le) ∙ sym is),
    )

-- the records below p are their processors' entries
abbrev pub EntriesBelow : List RecordValue → List Entry → ℕ → Type 0
EntriesBelow records entries p =
    (q : ℕ) (x : RecordValue) → q < p → slice_get records q ≡ Some x → x.pairs ≡ pairs_of q entries

pub entries-more : (records : List RecordValue) (entries : List Entry) (p : ℕ) (r : RecordValue)
    → slice_get records p ≡ Some r → r.pairs ≡ pairs_of p entries → EntriesBelow records entries p
    → EntriesBelow records entries (p + 1)
entries-more records entries p r here is before q x w k = elim (eqb_tells p q) [
  | inl t ↦
      let D : ℕ → Type 0 = λ n. slice_get records n ≡ Some x → x.pairs ≡ pairs_of n entries in
      let at_p : D p = λ m. ap (λ (y : RecordValue). y.pairs) (same_Some _ _ (sym m ∙ here)) ∙ is in
      subst D t.1 at_p k
  | inr t ↦ before q x (omega (arith, t.1, w)) k
]

-- the first record that is not
pub first-unlike : (records : List RecordValue) (entries : List Entry) (p : ℕ) (r : RecordValue)
    → slice_get records p ≡ Some r → (r.pairs ≡ pairs_of p entries → ⊥) → EntriesBelow records entries p
    → FailsFirst (λ q. HasEntries entries q (slice_get records q)) p
first-unlike records entries p r here un before = record {
  fails = λ k. un (rw here at k);
  before = λ q w.
      let g = get-within records q (omega (arith, w, slice_get_within records p r here)) in
      rw g.1 (before q g.0 w g.1);
}

-- the one that was found while they were read
pub first-torn : (records : List RecordValue) (entries : List Entry) (taken : List ℕ) (i torn p : ℕ)
    → AreMet records entries taken i torn → torn < length records → torn ≤ p → EntriesBelow records entries p
    → FailsFirst (λ q. HasEntries entries q (slice_get records q)) torn
first-torn records entries taken i torn p so w le before =
    let g = get-within records torn w in
    first-unlike records entries torn g.0 g.1 (so.unlike g.0 g.1) (λ q x b k. before q x (omega (arith, b, le)) k)
