-- A processor's own steps: one part behind another, and beside the steps of the world.
use Rattle.std.proofs.Common.{ℕ, subst, ◌≡◌, ◌≢◌, List, [], ◌∷◌, ◌++◌, false, eqb, Option, Some}
use Rattle.std.proofs.Common.{None, length, refl, sym, ◌∙◌, ap, arith, inl, inr}
use Rattle.std.specs.Prelude.{slice_get}
use Rattle.std.proofs.lemmas.Bool.Decides.{eqb_tells}
use Rattle.std.proofs.lemmas.Bool.{eq-eqb}
use Rattle.std.proofs.lemmas.List.{length-append, append-nil}
use Rattle.std.proofs.lemmas.Option.{slice_get_within}
use Rattle.tag_memory.specs.declared.requests.Request.{Request}
use Rattle.image_file.specs.ImageValue.{ImageValue}
use Rattle.processor.specs.Processors.{ProcessorValue}
use Rattle.processor.specs.Row.{request, row, memory_reply}
use Rattle.processor.specs.World.{World, after, steps, step_entries, step_entries_asking, history_from}
use Rattle.processor.specs.Histories.{steps_of, pairs_of}
use Rattle.processor.specs.OwnSteps.{IsOwnStep, IsOwnFrom}
use Rattle.processor.specs.declared.steps.Step.{Step}
use Rattle.processor.specs.declared.steps.Asked.{Asked}
use Rattle.processor.specs.declared.steps.Entry.{Entry}
use Rattle.processor.proofs.Histories.{get_set_same, get_set_other, after-known, entries-known}
use Rattle.processor.proofs.Histories.{after-absent, entries-absent, steps_of-append, pairs_of-append}

-- One step.

-- what holds of the processor after a step and of the pairs that are left
abbrev pub Follows : Type 1
Follows = ProcessorValue → List Asked → Type 0

-- a step with pairs to spare
own_step-more : (image : ImageValue) (proc : ProcessorValue) (s : ℕ) (o : Option Request) (rs qs : List Asked)
    (K L : Follows) → ((next : ProcessorValue) (rest : List Asked) → K next rest → L next (rest ++ qs))
    → IsOwnStep image proc s o rs K → IsOwnStep image proc s o (rs ++ qs) L
own_step-more image proc s None rs qs K L each h = each _ rs h
own_step-more image proc s (Some q) [] qs K L each h = absurd h
own_step-more image proc s (Some q) (r ∷ rs) qs K L each h = (h.0, h.1, each _ rs h.2)

-- what two steps of one state come to, the second of which has pairs to spare
record Meet (K L : Follows) (qs : List Asked) : Type 0 where
  next : ProcessorValue
  rest : List Asked
  one : K next rest
  two : L next (rest ++ qs)

own_step-meet : (image : ImageValue) (proc : ProcessorValue) (s : ℕ) (o : Option Request) (rs qs : List Asked)
    (K L : Follows) → IsOwnStep image proc s o rs K → IsOwnStep image proc s o (rs ++ qs) L → Meet K L qs
own_step-meet image proc s None rs qs K L h k = record { next = _; rest = rs; one = h; two = k }
own_step-meet image proc s (Some q) [] qs K L h k = absurd h
own_step-meet image proc s (Some q) (r ∷ rs) qs K L h k =
    record { next = _; rest = rs; one = h.2; two = k.2 }

-- Steps.

-- one part, and what goes on after it
pub own-join : (image : ImageValue) (proc mid to : ProcessorValue) (ss us : List ℕ) (rs qs : List Asked)
    → IsOwnFrom image proc ss rs mid → IsOwnFrom image mid us qs to → IsOwnFrom image proc (ss ++ us) (rs ++ qs) to
own-join image proc mid to [] us rs qs h k =
    let P : ProcessorValue → Type 0 = λ x. IsOwnFrom image x us qs to in
    let Q : List Asked → Type 0 = λ l. IsOwnFrom image proc us (l ++ qs) to in
    subst Q (sym h.0) (subst P h.1 k)
own-join image proc mid to (s ∷ ss) us rs qs h k =
    own_step-more image proc s (request image proc s) rs qs (λ next rest. IsOwnFrom image next ss rest mid)
    (λ next rest. IsOwnFrom image next (ss ++ us) rest to)
    (λ next rest a. own-join image next mid to ss us rest qs a k) h

-- and back: what goes on after a part that took its pairs
pub own-rest : (image : ImageValue) (proc mid to : ProcessorValue) (ss us : List ℕ) (rs qs : List Asked)
    → IsOwnFrom image proc ss rs mid → IsOwnFrom image proc (ss ++ us) (rs ++ qs) to → IsOwnFrom image mid us qs to
own-rest image proc mid to [] us rs qs h k =
    let P : ProcessorValue → Type 0 = λ x. IsOwnFrom image x us qs to in
    let Q : List Asked → Type 0 = λ l. IsOwnFrom image proc us (l ++ qs) to in
    subst P (sym h.1) (subst Q h.0 k)
own-rest image proc mid to (s ∷ ss) us rs qs h k =
    let m = own_step-meet image proc s (request image proc s) rs qs (λ next rest. IsOwnFrom image next ss rest mid)
    (λ next rest. IsOwnFrom image next (ss ++ us) rest to) h k in
    own-rest image m.next mid to ss us m.rest qs m.one m.two

-- a state comes to one state alone
pub own-same : (image : ImageValue) (proc x y : ProcessorValue) (ss : List ℕ) (rs : List Asked)
    → IsOwnFrom image proc ss rs x → IsOwnFrom image proc ss rs y → x ≡ y
own-same image proc x y ss rs h k =
    let P : List ℕ → Type 0 = λ l. IsOwnFrom image proc l (rs ++ []) y in
    let Q : List Asked → Type 0 = λ l. IsOwnFrom image proc ss l y in
    let more = subst P (sym (append-nil ss)) (subst Q (sym (append-nil rs)) k) in
    sym (own-rest image proc x y ss [] rs [] h more).1

-- steps that take one pair more are not the beginning of others
pub own-fewer : (image : ImageValue) (proc x y : ProcessorValue) (ss us : List ℕ) (rs : List Asked) (r : Asked)
    → IsOwnFrom image proc (ss ++ us) rs x → IsOwnFrom image proc ss (rs ++ r ∷ []) y → ⊥
own-fewer image proc x y [] us rs r h k =
    omega (arith, length-append rs (r ∷ []), ap (λ (l : List Asked). length l) k.0)
own-fewer image proc x y (s ∷ ss) us rs r h k =
    let m = own_step-meet image proc s (request image proc s) rs (r ∷ [])
    (λ next rest. IsOwnFrom image next (ss ++ us) rest x) (λ next rest. IsOwnFrom image next ss rest y) h k in
    own-fewer image m.next x y ss us m.rest r m.one m.two

-- Beside the world.

-- where a processor comes to between two worlds, and by which steps of its own
pub record Goes (image : ImageValue) (upto : World) (p : ℕ) (ss : List ℕ) (rs : List Asked) (proc : ProcessorValue)
    : Type 0 where
  pub to : ProcessorValue
  pub there : slice_get upto.processors p ≡ Some to
  pub by : IsOwnFrom image proc ss rs to

one_step : (image : ImageValue) (w : World) (t : Step) (proc : ProcessorValue) (o : Option Request)
    → IsOwnStep image proc t.s o (pairs_of t.p (step_entries_asking w t o))
    (λ next rest. IsOwnFrom image next [] rest (row image proc t.s (memory_reply w.memory o).1).0)
one_step image w t proc None = (refl, refl)
one_step image w t proc (Some q) = rw (eq-eqb t.p t.p refl) (refl, refl, (refl, refl))

-- a step of the processor itself
own_step-same : (image : ImageValue) (w : World) (t : Step) (proc : ProcessorValue)
    → slice_get w.processors t.p ≡ Some proc
    → Goes image (after image w t) t.p (t.s ∷ []) (pairs_of t.p (step_entries image w t)) proc
own_step-same image w t proc here =
    let o = request image proc t.s in
    let to = (row image proc t.s (memory_reply w.memory o).1).0 in
    let P : List Entry → Type 0 = λ es. IsOwnFrom image proc (t.s ∷ []) (pairs_of t.p es) to in
    record {
      to = to;
      there = ap (λ (v : World). slice_get v.processors t.p) (after-known image w t proc o here refl)
          ∙ get_set_same w.processors t.p _ (slice_get_within w.processors t.p proc here);
      by = subst P (sym (entries-known image w t proc o here refl)) (one_step image w t proc o);
    }

-- a step of another
record Stays (image : ImageValue) (w : World) (t : Step) (p : ℕ) : Type 0 where
  there : slice_get (after image w t).processors p ≡ slice_get w.processors p
  none : pairs_of p (step_entries image w t) ≡ []

no_pair : (w : World) (t : Step) (p : ℕ) (o : Option Request) → eqb t.p p ≡ false
    → pairs_of p (step_entries_asking w t o) ≡ []
no_pair w t p None f = refl
no_pair w t p (Some q) f = rw f refl

stays : (image : ImageValue) (w : World) (t : Step) (p : ℕ) (o : Option ProcessorValue)
    → slice_get w.processors t.p ≡ o → p ≢ t.p → eqb t.p p ≡ false → Stays image w t p
stays image w t p None e n f = record {
  there = ap (λ (v : World). slice_get v.processors p) (after-absent image w t e);
  none = ap (pairs_of p) (entries-absent image w t e);
}
stays image w t p (Some proc) e n f =
    let o = request image proc t.s in
    record {
      there = ap (λ (v : World). slice_get v.processors p) (after-known image w t proc o e refl)
          ∙ get_set_other w.processors t.p p _ n;
      none = ap (pairs_of p) (entries-known image w t proc o e refl) ∙ no_pair w t p o f;
    }

-- any step
after-own : (image : ImageValue) (w : World) (t : Step) (p : ℕ) (proc : ProcessorValue)
    → slice_get w.processors p ≡ Some proc
    → Goes image (after image w t) p (steps_of p (t ∷ [])) (pairs_of p (step_entries image w t)) proc
after-own image w t p proc here =
    elim (eqb_tells t.p p) [
      | inl e ↦
          let P : ℕ → Type 0 = λ n. slice_get w.processors n ≡ Some proc
          → Goes image (after image w t) n (t.s ∷ []) (pairs_of n (step_entries image w t)) proc in
          let f = subst P e.1 (own_step-same image w t proc) here in
          record { to = f.to; there = f.there; by = rw e.0 f.by }
      | inr e ↦
          let o = stays image w t p _ refl (λ q. e.1 (sym q)) e.0 in
          record { to = proc; there = o.there ∙ here; by = rw (e.0, o.none) (refl, refl) }
    ]

-- a run, seen from one processor: it goes on by its own steps alone
pub steps-own : (image : ImageValue) (w : World) (ts : List Step) (p : ℕ) (proc : ProcessorValue)
    → slice_get w.processors p ≡ Some proc
    → Goes image (steps image w ts) p (steps_of p ts) (pairs_of p (history_from image w ts)) proc
steps-own image w [] p proc here = record { to = proc; there = here; by = (refl, refl) }
steps-own image w (t ∷ ts) p proc here =
    let one = after-own image w t p proc here in
    let rest = steps-own image (after image w t) ts p one.to one.there in
    let es = step_entries image w t in
    let fs = history_from image (after image w t) ts in
    let P : List Asked → Type 0 = λ l. IsOwnFrom image proc (steps_of p (t ∷ ts)) l rest.to in
    let Q : List ℕ → Type 0 = λ l. IsOwnFrom image proc l (pairs_of p es ++ pairs_of p fs) rest.to in
    record {
      to = rest.to;
      there = rest.there;
      by = subst P (sym (pairs_of-append p es fs)) (subst Q (sym (steps_of-append p (t ∷ []) ts))
          (own-join image proc one.to rest.to (steps_of p (t ∷ [])) (steps_of p ts) (pairs_of p es) (pairs_of p fs)
          one.by rest.by));
    }
