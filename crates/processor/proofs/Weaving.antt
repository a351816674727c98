-- A schedule's history and states from each processor's own steps.
use Rattle.std.proofs.Common.{ℕ, suc, subst, ◌≡◌, ◌≤◌, List, [], ◌∷◌, ◌++◌, false, eqb, Option}
use Rattle.std.proofs.Common.{Some, None, length, refl, sym, ◌∙◌, ap, arith, inl, inr, map, take, drop}
use Rattle.std.specs.Prelude.{slice_get, option_map}
use Rattle.std.proofs.lemmas.Bool.Decides.{leb_tells}
use Rattle.std.proofs.lemmas.Bool.{eq-eqb}
use Rattle.std.proofs.lemmas.List.{length-map, take-append-drop, take-take}
use Rattle.std.proofs.lemmas.Option.{slice_get_within, same_Some, slice_get-map}
use Rattle.tag_memory.specs.declared.requests.Request.{Request}
use Rattle.tag_memory.specs.Storage.{TaggedMemory}
use Rattle.tag_memory.specs.Answer.{answer}
use Rattle.image_file.specs.ImageValue.{ImageValue}
use Rattle.processor.specs.Processors.{ProcessorValue, opening}
use Rattle.processor.specs.Row.{request, row}
use Rattle.processor.specs.World.{World, image_memory, start, run, after, step_entries}
use Rattle.processor.specs.World.{history_from, history_of}
use Rattle.processor.specs.Histories.{memory_after, replay, IsLegal, IsLegalFrom, steps_of, pairs_of, step_by, entry_by}
use Rattle.processor.specs.OwnSteps.{IsOwnStep, IsOwnFrom, IsOwn}
use Rattle.processor.specs.declared.steps.Step.{Step}
use Rattle.processor.specs.declared.steps.Asked.{Asked}
use Rattle.processor.specs.declared.steps.Entry.{Entry}
use Rattle.processor.proofs.Histories.{get_set_same, after-known, entries-known, steps-memory, steps-length}
use Rattle.processor.proofs.Histories.{history_from-append}
use Rattle.processor.proofs.OwnRuns.{own-rest, own-same, own-fewer, steps-own}

-- The steps and entries of one processor.

pub steps_of-by_same : (p : ℕ) (ss : List ℕ) → steps_of p (map (step_by p) ss) ≡ ss
steps_of-by_same p [] = refl
steps_of-by_same p (s ∷ ss) = rw (eq-eqb p p refl) (ap (λ l. s ∷ l) (steps_of-by_same p ss))

pub steps_of-by_other : (p q : ℕ) (ss : List ℕ) → eqb p q ≡ false → steps_of q (map (step_by p) ss) ≡ []
steps_of-by_other p q [] f = refl
steps_of-by_other p q (s ∷ ss) f = rw f (steps_of-by_other p q ss f)

pub pairs_of-by_same : (p : ℕ) (rs : List Asked) → pairs_of p (map (entry_by p) rs) ≡ rs
pairs_of-by_same p [] = refl
pairs_of-by_same p (r ∷ rs) = rw (eq-eqb p p refl) (ap (λ l. r ∷ l) (pairs_of-by_same p rs))

-- One processor alone, in a world whose memory gives the replies that it took.

-- after a step of its own: it is there, it made its entry, and the pairs that are left are legal
record Went (image : ImageValue) (w : World) (p s : ℕ) (rs : List Asked) (follows : ProcessorValue → List Asked → Type 0)
    : Type 0 where
  next : ProcessorValue
  rest : List Asked
  there : slice_get (after image w (step_by p s)).processors p ≡ Some next
  makes : step_entries image w (step_by p s) ++ map (entry_by p) rest ≡ map (entry_by p) rs
  legal : IsLegalFrom (after image w (step_by p s)).memory (map (entry_by p) rest)
  goes : follows next rest

went : (image : ImageValue) (w : World) (p s : ℕ) (proc : ProcessorValue) (o : Option Request) (rs : List Asked)
    (follows : ProcessorValue → List Asked → Type 0) → slice_get w.processors p ≡ Some proc
    → request image proc s ≡ o → IsOwnStep image proc s o rs follows
    → IsLegalFrom w.memory (map (entry_by p) rs) → Went image w p s rs follows
went image w p s proc None rs follows here e h legal =
    let a = after-known image w (step_by p s) proc None here e in
    let M : World → Type 0 = λ v. IsLegalFrom v.memory (map (entry_by p) rs) in
    record {
      next = (row image proc s None).0;
      rest = rs;
      there = ap (λ (v : World). slice_get v.processors p) a
          ∙ get_set_same w.processors p _ (slice_get_within w.processors p proc here);
      makes = ap (λ es. es ++ map (entry_by p) rs) (entries-known image w (step_by p s) proc None here e);
      legal = subst M (sym a) legal;
      goes = h;
    }
went image w p s proc (Some q) [] follows here e h legal = absurd h
went image w p s proc (Some q) (r ∷ rs) follows here e h legal =
    let a = after-known image w (step_by p s) proc (Some q) here e in
    let reply : r.reply ≡ (answer w.memory q).1 = legal.0 ∙ ap (λ x. (answer w.memory x).1) h.1 in
    let same : record { p = p; s = s; request = q; reply = (answer w.memory q).1 } ≡ entry_by p r =
    λ i. record { p = p; s = sym h.0 i; request = sym h.1 i; reply = sym reply i } in
    let M : World → Type 0 = λ v. IsLegalFrom v.memory (map (entry_by p) rs) in
    let N : Request → Type 0 = λ x. IsLegalFrom (answer w.memory x).0 (map (entry_by p) rs) in
    record {
      next = (row image proc s (Some r.reply)).0;
      rest = rs;
      there = ap (λ (v : World). slice_get v.processors p) a
          ∙ get_set_same w.processors p _ (slice_get_within w.processors p proc here)
          ∙ ap (λ x. Some (row image proc s (Some x)).0) (sym reply);
      makes = ap (λ es. es ++ map (entry_by p) rs) (entries-known image w (step_by p s) proc (Some q) here e)
          ∙ ap (λ (x : Entry). x ∷ map (entry_by p) rs) same;
      legal = subst M (sym a) (subst N h.1 legal.1);
      goes = h.2;
    }

-- its steps make the entries of the pairs that they take
segment : (image : ImageValue) (w : World) (p : ℕ) (proc to : ProcessorValue) (ss : List ℕ) (rs : List Asked)
    → slice_get w.processors p ≡ Some proc → IsOwnFrom image proc ss rs to
    → IsLegalFrom w.memory (map (entry_by p) rs)
    → history_from image w (map (step_by p) ss) ≡ map (entry_by p) rs
segment image w p proc to [] rs here h legal = ap (map (entry_by p)) (sym h.0)
segment image w p proc to (s ∷ ss) rs here h legal =
    let g = went image w p s proc _ rs (λ next rest. IsOwnFrom image next ss rest to) here refl h legal in
    ap (λ es. step_entries image w (step_by p s) ++ es)
    (segment image (after image w (step_by p s)) p g.next to ss g.rest g.there g.goes g.legal) ∙ g.makes

-- A schedule from the image's start.

start-at : (image : ImageValue) (p e : ℕ) → slice_get image.entries p ≡ Some e
    → slice_get (start image).processors p ≡ Some (opening image e)
unfolding start
start-at image p e h =
    slice_get-map (opening image) image.entries p ∙ ap (option_map (opening image)) h

start-memory : (image : ImageValue) → (start image).memory ≡ image_memory image
unfolding start
start-memory image = refl

-- the memory after a schedule is what its history makes of the image's, and that history is legal
pub run-memory : (image : ImageValue) (ts : List Step)
    → ((run image ts).memory ≡ replay image (history_of image ts)) × IsLegal image (history_of image ts)
run-memory image ts =
    let s = steps-memory image (start image) ts in
    let L : TaggedMemory → Type 0 = λ m. IsLegalFrom m (history_of image ts) in
    (s.0 ∙ ap (λ m. memory_after m (history_of image ts)) (start-memory image), subst L (start-memory image) s.1)

-- a processor after a schedule is what its own steps and pairs lead to
pub run-own : (image : ImageValue) (ts : List Step) (p e : ℕ) → slice_get image.entries p ≡ Some e
    → (state : ProcessorValue) × (slice_get (run image ts).processors p ≡ Some state)
    × IsOwn image p (steps_of p ts) (pairs_of p (history_of image ts)) state
run-own image ts p e h =
    let f = steps-own image (start image) ts p (opening image e) (start-at image p e h) in
    (f.to, f.there, record { entry = e; stands = h; leads = f.by })

pub run-length : (image : ImageValue) (ts : List Step) → length (run image ts).processors ≡ length image.entries
unfolding start
run-length image ts = steps-length image (start image) ts ∙ length-map image.entries (opening image)

-- the state that own steps lead to, from the processor's entry
pub own-leads : (image : ImageValue) (p e : ℕ) (ss : List ℕ) (rs : List Asked) (state : ProcessorValue)
    → slice_get image.entries p ≡ Some e → IsOwn image p ss rs state → IsOwnFrom image (opening image e) ss rs state
own-leads image p e ss rs state h k =
    let P : ℕ → Type 0 = λ x. IsOwnFrom image (opening image x) ss rs state in
    subst P (same_Some _ _ (sym k.stands ∙ h)) k.leads

-- steps and pairs lead to one state alone
pub own-unique : (image : ImageValue) (p : ℕ) (ss : List ℕ) (rs : List Asked) (x y : ProcessorValue)
    → IsOwn image p ss rs x → IsOwn image p ss rs y → x ≡ y
own-unique image p ss rs x y h k =
    own-same image (opening image h.entry) x y ss rs h.leads (own-leads image p h.entry ss rs y h.stands k)

-- more of one processor: a schedule goes on with its own steps, and makes just the pairs that they take
pub extend : (image : ImageValue) (ts : List Step) (p : ℕ) (us : List ℕ) (rs : List Asked) (x : ProcessorValue)
    → IsOwn image p (steps_of p ts ++ us) (pairs_of p (history_of image ts) ++ rs) x
    → IsLegalFrom (replay image (history_of image ts)) (map (entry_by p) rs)
    → history_of image (ts ++ map (step_by p) us) ≡ history_of image ts ++ map (entry_by p) rs
extend image ts p us rs x own legal =
    let e = own.entry in
    let f = steps-own image (start image) ts p (opening image e) (start-at image p e own.stands) in
    let goes = own-rest image (opening image e) f.to x (steps_of p ts) us (pairs_of p (history_of image ts)) rs
    f.by own.leads in
    let L : TaggedMemory → Type 0 = λ m. IsLegalFrom m (map (entry_by p) rs) in
    history_from-append image (start image) ts (map (step_by p) us)
    ∙ ap (λ es. history_of image ts ++ es)
    (segment image (run image ts) p f.to x us rs f.there goes (subst L (sym (run-memory image ts).0) legal))

-- a beginning that takes one pair more is no shorter
pub cut_order : (image : ImageValue) (p : ℕ) (ss : List ℕ) (a b : ℕ) (rs : List Asked) (r : Asked)
    (x y : ProcessorValue) → IsOwn image p (take a ss) rs x → IsOwn image p (take b ss) (rs ++ r ∷ []) y → a ≤ b
cut_order image p ss a b rs r x y one two =
    elim (leb_tells a b) [
      | inl t ↦ t.1
      | inr t ↦
          let e = one.entry in
          let cut : take a ss ≡ take b ss ++ drop b (take a ss) =
          sym (take-append-drop b (take a ss)) ∙ ap (λ l. l ++ drop b (take a ss)) (take-take b a ss (omega arith)) in
          let P : List ℕ → Type 0 = λ l. IsOwnFrom image (opening image e) l rs x in
          absurd (own-fewer image (opening image e) x y (take b ss) (drop b (take a ss)) rs r
          (subst P cut one.leads) (own-leads image p e (take b ss) (rs ++ r ∷ []) y one.stands two))
    ]

-- two lists with the same at each place
pub same_places : {A : Type 0} (xs ys : List A) → ((i : ℕ) → slice_get xs i ≡ slice_get ys i) → xs ≡ ys
same_places [] [] h = refl
same_places [] (y ∷ ys) h = absurd (let e : ⊥ = let f = h 0 in cc in e)
same_places (x ∷ xs) [] h = absurd (let e : ⊥ = let f = h 0 in cc in e)
same_places (x ∷ xs) (y ∷ ys) h =
    ap (λ z. z ∷ xs) (same_Some _ _ (h 0)) ∙ ap (λ l. y ∷ l) (same_places xs ys (λ i. h (suc i)))
