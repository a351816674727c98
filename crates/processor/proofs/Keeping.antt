-- What a record keeps, over one more step.
use Rattle.std.proofs.Common.{ℕ, zero, suc, subst, ◌≡◌, ◌<◌, ◌+◌, List, [], ◌∷◌, ◌++◌, Option, Some, None, length}
use Rattle.std.proofs.Common.{refl, sym, ◌∙◌, ap, arith, inl, inr}
use Rattle.std.specs.Prelude.{slice_get, ◌⊎◌}
use Rattle.std.proofs.lemmas.List.{length-append, length_push, take_all, take_at, take-append-le, append-nil}
use Rattle.std.proofs.lemmas.Option.{slice_get_within, same_Some}
use Rattle.tag_memory.specs.declared.requests.Request.{Request}
use Rattle.tag_memory.specs.declared.requests.Reply.{Reply}
use Rattle.image_file.specs.ImageValue.{ImageValue}
use Rattle.stream_core.specs.declared.steps.Outcome.{Outcome}
use Rattle.processor.specs.Processors.{ProcessorValue, opening}
use Rattle.processor.specs.Row.{request, row, next_of, next_step_of}
use Rattle.processor.specs.OwnSteps.{IsOwn, IsOwnFrom, IsOwnStep, IsPlace}
use Rattle.processor.specs.Records.{RecordValue, IsPlaced}
use Rattle.processor.specs.declared.steps.Asked.{Asked}
use Rattle.processor.specs.declared.steps.Next.TheVariants as next
use Rattle.processor.specs.declared.steps.NextStep.{NextStep}
use Rattle.processor.proofs.OwnRuns.{own-join}
use Rattle.processor.proofs.Begun.{local_request, ask_request, told_next}

-- The state.

-- one more step, which takes these pairs
own-step : (image : ImageValue) (p : ℕ) (ss : List ℕ) (rs new : List Asked) (st next : ProcessorValue) (s : ℕ)
    → IsOwn image p ss rs st → IsOwnFrom image st (s ∷ []) new next
    → IsOwn image p (ss ++ s ∷ []) (rs ++ new) next
own-step image p ss rs new st next s h k =
    record {
      entry = h.entry;
      stands = h.stands;
      leads = own-join image (opening image h.entry) st next ss (s ∷ []) rs new h.leads k;
    }

pub own-local : (image : ImageValue) (p : ℕ) (ss : List ℕ) (rs : List Asked) (st : ProcessorValue) (s : ℕ)
    → IsOwn image p ss rs st → request image st s ≡ None → IsOwn image p (ss ++ s ∷ []) rs (row image st s None).0
own-local image p ss rs st s h k =
    let next = (row image st s None).0 in
    let P : List Asked → Type 0 = λ l. IsOwn image p (ss ++ s ∷ []) l next in
    let Q : Option Request → Type 0 = λ o. IsOwnStep image st s o [] (λ x rest. IsOwnFrom image x [] rest next) in
    subst P (append-nil rs) (own-step image p ss rs [] st next s h (subst Q (sym k) (refl, refl)))

abbrev pub pair : ℕ → Request → Reply → Asked
pair s q r = record { s = s; request = q; reply = r }

pub own-ask : (image : ImageValue) (p : ℕ) (ss : List ℕ) (rs : List Asked) (st : ProcessorValue) (s : ℕ) (q : Request)
    (r : Reply) → IsOwn image p ss rs st → request image st s ≡ Some q
    → IsOwn image p (ss ++ s ∷ []) (rs ++ pair s q r ∷ []) (row image st s (Some r)).0
own-ask image p ss rs st s q r h k =
    let next = (row image st s (Some r)).0 in
    let Q : Option Request → Type 0 =
    λ o. IsOwnStep image st s o (pair s q r ∷ []) (λ x rest. IsOwnFrom image x [] rest next) in
    own-step image p ss rs (pair s q r ∷ []) st next s h (subst Q (sym k) (refl, refl, (refl, refl)))

-- The places.

-- a place stays, whatever comes after
pub place-more : (image : ImageValue) (p : ℕ) (ss us : List ℕ) (rs qs : List Asked) (k n : ℕ) → k < length rs
    → IsPlace image p ss rs k n → IsPlace image p (ss ++ us) (rs ++ qs) k n
place-more image p ss us rs qs k n in_pairs h =
    let B : List ℕ → List Asked → Type 0 = λ l m. (state : ProcessorValue) × IsOwn image p l m state in
    let w = h.within in
    let s0 = take-append-le n ss us (omega arith) in
    let s1 = take-append-le (n + 1) ss us (omega arith) in
    let r0 = take-append-le k rs qs (omega arith) in
    let r1 = take-append-le (k + 1) rs qs (omega arith) in
    record {
      within = omega (arith, length-append ss us, w);
      before = rw (s0, r0) h.before;
      upto = rw (s1, r1) h.upto;
    }

pub placed-local : (image : ImageValue) (p : ℕ) (ss : List ℕ) (rs : List Asked) (pl : List ℕ) (s : ℕ)
    → IsPlaced image p ss rs pl → IsPlaced image p (ss ++ s ∷ []) rs pl
placed-local image p ss rs pl s h =
    let P : List Asked → ℕ → ℕ → Type 0 = λ l k n. IsPlace image p (ss ++ s ∷ []) l k n in
    record {
      each = h.each;
      place = λ k n e. subst (λ (l : List Asked). P l k n) (append-nil rs)
          (place-more image p ss (s ∷ []) rs [] k n (let w = slice_get_within pl k n e in omega (arith, h.each))
          (h.place k n e));
    }

push_cases : (xs : List ℕ) (y k n : ℕ) → slice_get (xs ++ y ∷ []) k ≡ Some n
    → (slice_get xs k ≡ Some n) ⊎ ((k ≡ length xs) × (n ≡ y))
push_cases [] y zero n h = inr (refl, sym (same_Some _ _ h))
push_cases [] y (suc k) n h = absurd (let e : ⊥ = cc in e)
push_cases (x ∷ xs) y zero n h = inl h
push_cases (x ∷ xs) y (suc k) n h = elim (push_cases xs y k n h) [ inl a ↦ inl a | inr b ↦ inr (ap suc b.0, b.1) ]

-- the place of the pair that the last step took
last-place : (image : ImageValue) (p : ℕ) (ss : List ℕ) (rs : List Asked) (s : ℕ) (r : Asked) (st next : ProcessorValue)
    → IsOwn image p ss rs st → IsOwn image p (ss ++ s ∷ []) (rs ++ r ∷ []) next
    → IsPlace image p (ss ++ s ∷ []) (rs ++ r ∷ []) (length rs) (length ss)
last-place image p ss rs s r st next h k =
    let s1 = take_all (length ss + 1) (ss ++ s ∷ []) (omega (arith, length_push ss s)) in
    let r1 = take_all (length rs + 1) (rs ++ r ∷ []) (omega (arith, length_push rs r)) in
    record {
      within = omega (arith, length_push ss s);
      before = rw (take_at ss (s ∷ []) (length ss) refl, take_at rs (r ∷ []) (length rs) refl) (st, h);
      upto = rw (s1, r1) (next, k);
    }

pub placed-ask : (image : ImageValue) (p : ℕ) (ss : List ℕ) (rs : List Asked) (pl : List ℕ) (s : ℕ) (r : Asked)
    (st next : ProcessorValue) → IsOwn image p ss rs st → IsOwn image p (ss ++ s ∷ []) (rs ++ r ∷ []) next
    → IsPlaced image p ss rs pl → IsPlaced image p (ss ++ s ∷ []) (rs ++ r ∷ []) (pl ++ length ss ∷ [])
placed-ask image p ss rs pl s r st next h k old =
    record {
      each = omega (arith, length_push pl (length ss), length_push rs r, old.each);
      place = λ i n e. elim (push_cases pl (length ss) i n e) [
        | inl a ↦
            place-more image p ss (s ∷ []) rs (r ∷ []) i n
            (let w = slice_get_within pl i n a in omega (arith, old.each)) (old.place i n a)
        | inr b ↦
            let P : ℕ → Type 0 = λ m. IsPlace image p (ss ++ s ∷ []) (rs ++ r ∷ []) i m in
            let Q : ℕ → Type 0 = λ m. IsPlace image p (ss ++ s ∷ []) (rs ++ r ∷ []) m (length ss) in
            subst P (sym b.1) (subst Q (sym (b.0 ∙ old.each)) (last-place image p ss rs s r st next h k))
      ];
    }

-- At the start.

pub opening-own : (image : ImageValue) (p e : ℕ) → slice_get image.entries p ≡ Some e
    → IsOwn image p [] [] (opening image e)
opening-own image p e h = record { entry = e; stands = h; leads = (refl, refl) }

pub opening-placed : (image : ImageValue) (p : ℕ) → IsPlaced image p [] [] []
opening-placed image p = record { each = refl; place = λ k n e. absurd (let f : ⊥ = cc in f) }

-- A record's parts after one more step.

pub record Keeps (image : ImageValue) (p : ℕ) (ss : List ℕ) (rs : List Asked) (pl : List ℕ) (st : ProcessorValue)
    : Type 0 where
  pub own : IsOwn image p ss rs st
  pub placed : IsPlaced image p ss rs pl

pub keeps-local : (image : ImageValue) (p : ℕ) (ss after : List ℕ) (rs : List Asked) (pl : List ℕ)
    (st next : ProcessorValue) (s : ℕ) (o : Outcome) → Keeps image p ss rs pl st → request image st s ≡ None
    → (next, o) ≡ row image st s None → after ≡ ss ++ s ∷ [] → Keeps image p after rs pl next
keeps-local image p ss after rs pl st next s o h k e f =
    let P : ProcessorValue → Type 0 = λ x. IsOwn image p (ss ++ s ∷ []) rs x in
    let Q : List ℕ → Type 0 = λ l. Keeps image p l rs pl next in
    subst Q (sym f) (record {
      own = subst P (ap (λ (x : ProcessorValue × Outcome). x.0) (sym e)) (own-local image p ss rs st s h.own k);
      placed = placed-local image p ss rs pl s h.placed;
    })

pub keeps-ask : (image : ImageValue) (p : ℕ) (ss after : List ℕ) (rs taken : List Asked) (pl places : List ℕ)
    (st next : ProcessorValue) (s : ℕ) (q : Request) (r : Reply) (o : Outcome) (n : ℕ) → Keeps image p ss rs pl st
    → request image st s ≡ Some q → (next, o) ≡ row image st s (Some r) → after ≡ ss ++ s ∷ []
    → taken ≡ rs ++ pair s q r ∷ [] → n ≡ length ss → places ≡ pl ++ n ∷ []
    → Keeps image p after taken places next
keeps-ask image p ss after rs taken pl places st next s q r o n h k e f t m u =
    let P : ProcessorValue → Type 0 = λ x. IsOwn image p (ss ++ s ∷ []) (rs ++ pair s q r ∷ []) x in
    let own = subst P (ap (λ (x : ProcessorValue × Outcome). x.0) (sym e)) (own-ask image p ss rs st s q r h.own k) in
    let A : List ℕ → Type 0 = λ l. Keeps image p l taken places next in
    let B : List Asked → Type 0 = λ l. Keeps image p (ss ++ s ∷ []) l places next in
    let C : List ℕ → Type 0 = λ l. Keeps image p (ss ++ s ∷ []) (rs ++ pair s q r ∷ []) l next in
    let place = u ∙ ap (λ x. pl ++ x ∷ []) m in
    subst A (sym f) (subst B (sym t) (subst C (sym place) (record {
      own = own;
      placed = placed-ask image p ss rs pl s (pair s q r) st next h.own own h.placed;
    })))

-- what a step asks, where its record was told what it needs

pub asks_nothing : (r : RecordValue) (x : RecordValue) (s : ℕ) (t : NextStep) → r ≡ x
    → t ≡ next_step_of x.image x.state s → t.next ≡ next.Local → request r.image r.state s ≡ None
asks_nothing r x s t same told local =
    let P : RecordValue → Type 0 = λ y. next_of y.image y.state s ≡ next.Local in
    local_request r.image r.state s (subst P (sym same) (told_next x.image x.state s t next.Local told local))

pub asks_this : (r : RecordValue) (x : RecordValue) (s : ℕ) (t : NextStep) (q : Request) → r ≡ x
    → t ≡ next_step_of x.image x.state s → t.next ≡ next.Ask q → request r.image r.state s ≡ Some q
asks_this r x s t q same told asks =
    let P : RecordValue → Type 0 = λ y. next_of y.image y.state s ≡ next.Ask q in
    ask_request r.image r.state s q (subst P (sym same) (told_next x.image x.state s t (next.Ask q) told asks))
