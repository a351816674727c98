-- One entry more: its processor goes on up to the step that asked.
use Rattle.std.proofs.Common.{◌≡◌, ℕ, suc, ◌+◌, ◌<◌, ◌≤◌, sym, ◌∙◌, ap, subst, arith, inl, inr, length, List, []}
use Rattle.std.proofs.Common.{◌∷◌, ◌++◌, take, drop, get_or, Some}
use Rattle.std.specs.Prelude.{slice_get, slice_set}
use Rattle.std.proofs.lemmas.Bool.Decides.{eqb_tells}
use Rattle.std.proofs.lemmas.List.{length_push, length-append, length-set, get_or-set_same, get_or-set_other, take_at}
use Rattle.std.proofs.lemmas.List.{append_assoc, length-take-le, get_or_read}
use Rattle.std.proofs.lemmas.Option.{slice_get_within}
use Rattle.image_file.specs.ImageValue.{ImageValue}
use Rattle.processor.specs.Processors.{ProcessorValue}
use Rattle.processor.specs.World.{image_memory, history_of}
use Rattle.processor.specs.Histories.{IsLegal, IsLegalFrom, pairs_of, pair_of}
use Rattle.processor.specs.OwnSteps.{IsOwn, IsPlace}
use Rattle.processor.specs.Records.{RecordValue}
use Rattle.processor.specs.declared.steps.Step.{Step}
use Rattle.processor.specs.declared.steps.Asked.{Asked}
use Rattle.processor.specs.declared.steps.Entry.{Entry}
use Rattle.processor.proofs.Histories.{legal-rest}
use Rattle.processor.proofs.Weaving.{cut_order, run-own}
use Rattle.shared_history.specs.SharedMemory.{SharedValue, HaveProcessors}
use Rattle.shared_history.specs.Parts.{AllBelong, AllHaveEntries}
use Rattle.shared_history.proofs.Entries.{Splits, splits, pairs-at, pairs_of-more, pairs_of-other, pairs_of-length}
use Rattle.shared_history.proofs.SoFar.{IsSoFar, IsCounted, more, advance}
use Rattle.shared_history.proofs.Places.{get-within, read-at}

-- the entry whose turn it is, and the record of its processor
pub record IsTurn (shared : SharedValue) (records : List RecordValue) (i : ℕ) (e : Entry) (r : RecordValue)
    : Type 0 where
  pub entry : slice_get shared.history i ≡ Some e
  pub record_is : slice_get records e.p ≡ Some r

pub turn-within : (shared : SharedValue) (records : List RecordValue) (i : ℕ) (e : Entry) (r : RecordValue)
    → IsTurn shared records i e r → e.p < length records
turn-within shared records i e r t = slice_get_within records e.p r t.record_is

entry-there : (shared : SharedValue) (found : List Entry) (i : ℕ) (e : Entry) → found ≡ shared.history
    → i < length found → e ≡ get_or found i e → slice_get shared.history i ≡ Some e
entry-there shared found i e h w is =
    ap (λ l. slice_get l i) (sym h) ∙ read-at found i e w is

-- the entry's processor has a record
pub stands : (shared : SharedValue) (records : List RecordValue) (found : List Entry) (i : ℕ) (e : Entry)
    → AllBelong shared records → HaveProcessors shared.image shared.history → found ≡ shared.history
    → i < length found → e ≡ get_or found i e → e.p < length records
stands shared records found i e all have h w is =
    omega (arith, have i e (entry-there shared found i e h w is), all.one_each)

pub is-turn : (shared : SharedValue) (records : List RecordValue) (found : List Entry) (i : ℕ) (e : Entry)
    (r : RecordValue) → AllBelong shared records → HaveProcessors shared.image shared.history
    → found ≡ shared.history → i < length found → e ≡ get_or found i e → r ≡ get_or records e.p r
    → IsTurn shared records i e r
is-turn shared records found i e r all have h w e_is is =
    let below = stands shared records found i e all have h w e_is in
    record {
      entry = entry-there shared found i e h w e_is;
      record_is = read-at records e.p r below is;
    }

-- The pairs that are counted.

-- there is a pair for the entry
pub pair-there : (shared : SharedValue) (records : List RecordValue) (taken : List ℕ) (i : ℕ) (e : Entry)
    (r : RecordValue) (k : ℕ) → IsTurn shared records i e r → IsCounted shared taken i → AllBelong shared records
    → AllHaveEntries shared records → k ≡ get_or taken e.p k → k < length r.pairs
pair-there shared records taken i e r k t count all whole is =
    let below = turn-within shared records i e r t in
    let p_in : e.p < length taken = omega (arith, below, count.taken_len, all.one_each) in
    let before = pairs_of e.p (take i shared.history) in
    let behind = pairs_of e.p (drop (i + 1) shared.history) in
    let n : length r.pairs ≡ length before + suc (length behind) =
    ap length (whole e.p r t.record_is ∙ pairs-at shared.history i e (splits shared.history i e t.entry))
    ∙ length-append before (pair_of e ∷ behind) in
    omega (arith, get_or_read taken e.p k p_in is 0, count.taken_is e.p p_in, n)

-- no more than there are entries
pub pair-small : (shared : SharedValue) (records : List RecordValue) (taken : List ℕ) (i : ℕ) (e : Entry)
    (r : RecordValue) (k : ℕ) → IsTurn shared records i e r → IsCounted shared taken i → AllBelong shared records
    → k ≡ get_or taken e.p k → k ≤ i
pair-small shared records taken i e r k t count all is =
    let below = turn-within shared records i e r t in
    let p_in : e.p < length taken = omega (arith, below, count.taken_len, all.one_each) in
    let w = slice_get_within shared.history i e t.entry in
    omega (
      arith,
      get_or_read taken e.p k p_in is 0,
      count.taken_is e.p p_in,
      pairs_of-length e.p (take i shared.history),
      length-take-le i shared.history (omega arith),
    )

counted-more : (shared : SharedValue) (taken : List ℕ) (i : ℕ) (e : Entry) → IsCounted shared taken i
    → Splits shared.history i e → e.p < length taken
    → IsCounted shared (slice_set taken e.p (get_or taken e.p 0 + 1)) (i + 1)
counted-more shared taken i e count h below =
    let es = shared.history in
    let n = get_or taken e.p 0 + 1 in
    let next = slice_set taken e.p n in
    let Q : ℕ → Type 0 = λ q. q < length next → get_or next q 0 ≡ length (pairs_of q (take (i + 1) es)) in
    let one_more : n ≡ length (pairs_of e.p (take (i + 1) es)) =
    omega (
      arith,
      count.taken_is e.p below,
      ap length (pairs_of-more es i e h),
      length_push (pairs_of e.p (take i es)) (pair_of e),
    ) in
    let here : Q e.p = λ _. get_or-set_same taken e.p n 0 below ∙ one_more in
    record {
      taken_len = length-set taken e.p _ ∙ count.taken_len;
      taken_is = λ q. elim (eqb_tells e.p q) [
        | inl t ↦ subst Q t.1 here
        | inr t ↦ λ w.
            get_or-set_other taken e.p q n 0 (λ k. t.1 (sym k))
            ∙ count.taken_is q (omega (arith, length-set taken e.p n, w))
            ∙ ap length (sym (pairs_of-other es i e q h t.0))
      ];
    }

-- The steps of the turn.

-- where its steps begin
pub turn-from : (shared : SharedValue) (records : List RecordValue) (ts : List Step) (done : List ℕ) (i : ℕ)
    (e : Entry) (r : RecordValue) (d : ℕ) → IsTurn shared records i e r → IsSoFar shared records ts done i
    → d ≡ get_or done e.p d → d ≡ get_or done e.p 0
turn-from shared records ts done i e r d t so is =
    get_or_read done e.p d (omega (arith, turn-within shared records i e r t, so.done_len)) is 0

-- up to the step that took its pair
pub record Turns (shared : SharedValue) (records : List RecordValue) (ts : List Step) (done : List ℕ) (i : ℕ)
    (e : Entry) (r : RecordValue) (n : ℕ) : Type 0 where
  pub from : get_or done e.p 0 ≤ n + 1
  pub upto : n + 1 ≤ length r.steps
  pub after : IsSoFar shared records (ts ++ more e.p r.steps (get_or done e.p 0) (n + 1))
      (slice_set done e.p (n + 1)) (i + 1)

-- the record's steps up to the one that took the pair, over the pairs of the first entries
own-upto : (shared : SharedValue) (e : Entry) (i k n : ℕ) (r : RecordValue) → Splits shared.history i e
    → r.image ≡ shared.image → r.number ≡ e.p → r.pairs ≡ pairs_of e.p shared.history
    → k ≡ length (pairs_of e.p (take i shared.history)) → IsPlace r.image r.number r.steps r.pairs k n
    → (x : ProcessorValue)
    × IsOwn shared.image e.p (take (n + 1) r.steps) (pairs_of e.p (take i shared.history) ++ pair_of e ∷ []) x
own-upto shared e i k n r h image_is number_is pairs k_is place =
    let before = pairs_of e.p (take i shared.history) in
    let behind = pairs_of e.p (drop (i + 1) shared.history) in
    let x = place.upto.0 in
    let pairs_upto : take (k + 1) r.pairs ≡ before ++ pair_of e ∷ [] =
    ap (λ l. take (k + 1) l)
    (pairs ∙ pairs-at shared.history i e h ∙ sym (append_assoc before (pair_of e ∷ []) behind))
    ∙ take_at (before ++ pair_of e ∷ []) _ _ (omega (arith, length_push before (pair_of e), k_is)) in
    let A : ImageValue → Type 0 = λ v. IsOwn v r.number (take (n + 1) r.steps) (take (k + 1) r.pairs) x in
    let B : ℕ → Type 0 = λ q. IsOwn shared.image q (take (n + 1) r.steps) (take (k + 1) r.pairs) x in
    let C : List Asked → Type 0 = λ l. IsOwn shared.image e.p (take (n + 1) r.steps) l x in
    (x, subst C pairs_upto (subst B number_is (subst A image_is place.upto.1)))

-- a schedule's own part of a processor, by the steps that are done of its record
own-so-far : (shared : SharedValue) (records : List RecordValue) (ts : List Step) (done : List ℕ) (i p : ℕ)
    (r : RecordValue) → IsSoFar shared records ts done i → slice_get records p ≡ Some r
    → p < length shared.image.entries → (x : ProcessorValue)
    × IsOwn shared.image p (take (get_or done p 0) r.steps) (pairs_of p (take i shared.history)) x
own-so-far shared records ts done i p r so here below =
    let entry = get-within shared.image.entries p below in
    let now = run-own shared.image ts p entry.0 entry.1 in
    let A : List ℕ → Type 0 = λ l. IsOwn shared.image p l (pairs_of p (history_of shared.image ts)) now.0 in
    let B : List Entry → Type 0 = λ l. IsOwn shared.image p (take (get_or done p 0) r.steps) (pairs_of p l) now.0 in
    (now.0, subst B so.makes (subst A (so.steps p r here) now.2))

pub turns : (shared : SharedValue) (records : List RecordValue) (ts : List Step) (done taken : List ℕ) (i : ℕ)
    (e : Entry) (r : RecordValue) (k n : ℕ) → IsTurn shared records i e r
    → IsSoFar shared records ts done i × IsCounted shared taken i → AllBelong shared records
    → AllHaveEntries shared records → IsLegal shared.image shared.history → k ≡ get_or taken e.p k
    → IsPlace r.image r.number r.steps r.pairs k n → Turns shared records ts done i e r n
turns shared records ts done taken i e r k n t so all whole legal is place =
    let es = shared.history in
    let h = splits es i e t.entry in
    let p_in : e.p < length taken =
    omega (arith, turn-within shared records i e r t, so.1.taken_len, all.one_each) in
    let of = all.belongs e.p r t.record_is in
    let k_is = get_or_read taken e.p k p_in is 0 ∙ so.1.taken_is e.p p_in in
    let upto = own-upto shared e i k n r h of.0 of.1 (whole e.p r t.record_is) k_is place in
    let now = own-so-far shared records ts done i e.p r so.0 t.record_is
    (omega (arith, turn-within shared records i e r t, all.one_each)) in
    let from = cut_order shared.image e.p r.steps (get_or done e.p 0) (n + 1) (pairs_of e.p (take i es)) (pair_of e)
    now.0 upto.0 now.1 upto.1 in
    let W : List Entry → Type 0 = λ l. IsLegalFrom (image_memory shared.image) l in
    let right = legal-rest (image_memory shared.image) (take i es) (e ∷ drop (i + 1) es) (subst W h.whole legal) in
    record {
      from = from;
      upto = omega (arith, place.within);
      after = advance shared records ts done i (i + 1) e.p (n + 1) r (pair_of e ∷ []) upto.0 so.0 t.record_is from
          (omega (arith, place.within)) h.upto upto.1 (right.0, tt);
    }

-- one entry more is in the schedule
pub turned : (shared : SharedValue) (records : List RecordValue) (ts us : List Step) (done taken : List ℕ) (i : ℕ)
    (e : Entry) (r : RecordValue) (d k n : ℕ) (found : List ℕ) → IsTurn shared records i e r
    → IsSoFar shared records ts done i × IsCounted shared taken i → AllBelong shared records
    → Turns shared records ts done i e r n → d ≡ get_or done e.p d → k ≡ get_or taken e.p k → found ≡ r.steps
    → us ≡ ts ++ more e.p found d (n + 1)
    → IsSoFar shared records us (slice_set done e.p (n + 1)) (i + 1)
    × IsCounted shared (slice_set taken e.p (k + 1)) (i + 1)
turned shared records ts us done taken i e r d k n found t so all goes d_is k_is steps is =
    let p_in : e.p < length taken =
    omega (arith, turn-within shared records i e r t, so.1.taken_len, all.one_each) in
    let dz = turn-from shared records ts done i e r d t so.0 d_is in
    let kz = get_or_read taken e.p k p_in k_is 0 in
    let U : List Step → Type 0 = λ l. IsSoFar shared records l (slice_set done e.p (n + 1)) (i + 1) in
    let A : ℕ → Type 0 = λ m. IsCounted shared (slice_set taken e.p (m + 1)) (i + 1) in
    let us_is : us ≡ ts ++ more e.p r.steps (get_or done e.p 0) (n + 1) =
    is ∙ ap (λ l. ts ++ more e.p l d (n + 1)) steps ∙ ap (λ m. ts ++ more e.p r.steps m (n + 1)) dz in (
      subst U (sym us_is) goes.after,
      subst A (sym kz) (counted-more shared taken i e so.1 (splits shared.history i e t.entry) p_in),
    )
