-- What steps do to the world and leave in its history.
use Rattle.std.proofs.Common.{ℕ, zero, suc, subst, ◌≡◌, ◌≢◌, ◌<◌, List, [], ◌∷◌, ◌++◌, Bool, true, false, cond, eqb}
use Rattle.std.proofs.Common.{Option, Some, None, length, refl, sym, ◌∙◌, ap, arith, append_assoc, length-set}
use Rattle.std.specs.Prelude.{slice_get, slice_set}
use Rattle.tag_memory.specs.declared.requests.Request.{Request}
use Rattle.tag_memory.specs.Storage.{TaggedMemory}
use Rattle.tag_memory.specs.Answer.{answer}
use Rattle.image_file.specs.ImageValue.{ImageValue}
use Rattle.processor.specs.Processors.{ProcessorValue}
use Rattle.processor.specs.Row.{request, row, memory_reply, row_over_memory}
use Rattle.processor.specs.World.{World, world_step, world_step_at, world_with, after, steps}
use Rattle.processor.specs.World.{step_entries, step_entries_at, step_entries_asking, history_from}
use Rattle.processor.specs.Histories.{memory_after, IsLegalFrom, steps_of, pairs_of, pair_of}
use Rattle.processor.specs.declared.steps.Step.{Step}
use Rattle.processor.specs.declared.steps.Entry.{Entry}

-- Lists.

pub get_set_same : {A : Type 0} (xs : List A) (i : ℕ) (y : A) → i < length xs → slice_get (slice_set xs i y) i ≡ Some y
get_set_same [] i y h = absurd (omega arith)
get_set_same (x ∷ xs) zero y h = refl
get_set_same (x ∷ xs) (suc i) y h = get_set_same xs i y (omega arith)

pub get_set_other : {A : Type 0} (xs : List A) (i j : ℕ) (y : A) → j ≢ i
    → slice_get (slice_set xs i y) j ≡ slice_get xs j
get_set_other [] i j y n = refl
get_set_other (x ∷ xs) zero zero y n = absurd (n refl)
get_set_other (x ∷ xs) zero (suc j) y n = refl
get_set_other (x ∷ xs) (suc i) zero y n = refl
get_set_other (x ∷ xs) (suc i) (suc j) y n = get_set_other xs i j y (λ e. n (ap suc e))

-- One step.

-- the world after a step of a processor that makes this request, if any
abbrev pub after_asking : ImageValue → World → Step → ProcessorValue → Option Request → World
after_asking image w t proc q = record {
  processors = slice_set w.processors t.p (row image proc t.s (memory_reply w.memory q).1).0;
  memory = (memory_reply w.memory q).0;
}

after_row : (image : ImageValue) (w : World) (t : Step) (proc : ProcessorValue) (q : Option Request)
    → request image proc t.s ≡ q
    → (world_with w t.p (row_over_memory image proc t.s w.memory)).0 ≡ after_asking image w t proc q
unfolding row_over_memory
after_row image w t proc q f = ap (after_asking image w t proc) f

pub after-known : (image : ImageValue) (w : World) (t : Step) (proc : ProcessorValue) (q : Option Request)
    → slice_get w.processors t.p ≡ Some proc → request image proc t.s ≡ q
    → after image w t ≡ after_asking image w t proc q
unfolding world_step
after-known image w t proc q e f =
    ap (λ o. (world_step_at image w t o).0) e ∙ after_row image w t proc q f

pub entries-known : (image : ImageValue) (w : World) (t : Step) (proc : ProcessorValue) (q : Option Request)
    → slice_get w.processors t.p ≡ Some proc → request image proc t.s ≡ q
    → step_entries image w t ≡ step_entries_asking w t q
unfolding step_entries
entries-known image w t proc q e f = ap (step_entries_at image w t) e ∙ ap (step_entries_asking w t) f

pub after-absent : (image : ImageValue) (w : World) (t : Step) → slice_get w.processors t.p ≡ None
    → after image w t ≡ w
unfolding world_step
after-absent image w t e = ap (λ o. (world_step_at image w t o).0) e

pub entries-absent : (image : ImageValue) (w : World) (t : Step) → slice_get w.processors t.p ≡ None
    → step_entries image w t ≡ []
unfolding step_entries
entries-absent image w t e = ap (step_entries_at image w t) e

-- Steps, histories and the parts of a processor, one behind another.

pub steps-append : (image : ImageValue) (w : World) (ts us : List Step)
    → steps image w (ts ++ us) ≡ steps image (steps image w ts) us
steps-append image w [] us = refl
steps-append image w (t ∷ ts) us = steps-append image (after image w t) ts us

pub history_from-append : (image : ImageValue) (w : World) (ts us : List Step)
    → history_from image w (ts ++ us) ≡ history_from image w ts ++ history_from image (steps image w ts) us
history_from-append image w [] us = refl
history_from-append image w (t ∷ ts) us =
    ap (λ es. step_entries image w t ++ es) (history_from-append image (after image w t) ts us)
    ∙ sym (append_assoc (step_entries image w t) (history_from image (after image w t) ts)
    (history_from image (steps image (after image w t) ts) us))

pub memory_after-append : (m : TaggedMemory) (es fs : List Entry)
    → memory_after m (es ++ fs) ≡ memory_after (memory_after m es) fs
memory_after-append m [] fs = refl
memory_after-append m (e ∷ es) fs = memory_after-append (answer m e.request).0 es fs

pub legal-append : (m : TaggedMemory) (es fs : List Entry) → IsLegalFrom m es → IsLegalFrom (memory_after m es) fs
    → IsLegalFrom m (es ++ fs)
legal-append m [] fs h k = k
legal-append m (e ∷ es) fs h k = (h.0, legal-append (answer m e.request).0 es fs h.1 k)

pub legal-rest : (m : TaggedMemory) (es fs : List Entry) → IsLegalFrom m (es ++ fs)
    → IsLegalFrom (memory_after m es) fs
legal-rest m [] fs h = h
legal-rest m (e ∷ es) fs h = legal-rest (answer m e.request).0 es fs h.1

cond-append : {A : Type 0} (b : Bool) (x : A) (xs ys zs : List A) → xs ≡ ys ++ zs
    → cond b (x ∷ xs) xs ≡ cond b (x ∷ ys) ys ++ zs
cond-append true x xs ys zs e = ap (λ l. x ∷ l) e
cond-append false x xs ys zs e = e

pub steps_of-append : (p : ℕ) (ts us : List Step) → steps_of p (ts ++ us) ≡ steps_of p ts ++ steps_of p us
steps_of-append p [] us = refl
steps_of-append p (t ∷ ts) us = cond-append (eqb t.p p) t.s _ _ _ (steps_of-append p ts us)

pub pairs_of-append : (p : ℕ) (es fs : List Entry) → pairs_of p (es ++ fs) ≡ pairs_of p es ++ pairs_of p fs
pairs_of-append p [] fs = refl
pairs_of-append p (e ∷ es) fs = cond-append (eqb e.p p) (pair_of e) _ _ _ (pairs_of-append p es fs)

-- The memory is what the history makes of it, and the history is legal.

memory_asking : (image : ImageValue) (w : World) (t : Step) (proc : ProcessorValue) (q : Option Request)
    → ((after_asking image w t proc q).memory ≡ memory_after w.memory (step_entries_asking w t q))
    × IsLegalFrom w.memory (step_entries_asking w t q)
memory_asking image w t proc None = (refl, tt)
memory_asking image w t proc (Some q) = (refl, (refl, tt))

-- what a step leaves of the memory, by whether its processor is there
record Leaves (image : ImageValue) (w : World) (t : Step) : Type 0 where
  memory : (after image w t).memory ≡ memory_after w.memory (step_entries image w t)
  legal : IsLegalFrom w.memory (step_entries image w t)
  as_many : length (after image w t).processors ≡ length w.processors

leaves : (image : ImageValue) (w : World) (t : Step) (o : Option ProcessorValue) → slice_get w.processors t.p ≡ o
    → Leaves image w t
leaves image w t None e =
    let a = after-absent image w t e in
    let b = entries-absent image w t e in
    let L : List Entry → Type 0 = λ es. IsLegalFrom w.memory es in
    record {
      memory = ap (λ (v : World). v.memory) a ∙ sym (ap (memory_after w.memory) b);
      legal = subst L (sym b) tt;
      as_many = ap (λ (v : World). length v.processors) a;
    }
leaves image w t (Some proc) e =
    let q = request image proc t.s in
    let a = after-known image w t proc q e refl in
    let b = entries-known image w t proc q e refl in
    let m = memory_asking image w t proc q in
    let L : List Entry → Type 0 = λ es. IsLegalFrom w.memory es in
    record {
      memory = ap (λ (v : World). v.memory) a ∙ m.0 ∙ sym (ap (memory_after w.memory) b);
      legal = subst L (sym b) m.1;
      as_many = ap (λ (v : World). length v.processors) a ∙ length-set w.processors t.p _;
    }

pub steps-memory : (image : ImageValue) (w : World) (ts : List Step)
    → ((steps image w ts).memory ≡ memory_after w.memory (history_from image w ts))
    × IsLegalFrom w.memory (history_from image w ts)
steps-memory image w [] = (refl, tt)
steps-memory image w (t ∷ ts) =
    let one = leaves image w t _ refl in
    let rest = steps-memory image (after image w t) ts in
    let L : TaggedMemory → Type 0 = λ m. IsLegalFrom m (history_from image (after image w t) ts) in (
      rest.0 ∙ ap (λ m. memory_after m (history_from image (after image w t) ts)) one.memory
          ∙ sym (memory_after-append w.memory (step_entries image w t) (history_from image (after image w t) ts)),
      legal-append w.memory (step_entries image w t) (history_from image (after image w t) ts) one.legal
          (subst L one.memory rest.1),
    )

pub steps-length : (image : ImageValue) (w : World) (ts : List Step)
    → length (steps image w ts).processors ≡ length w.processors
steps-length image w [] = refl
steps-length image w (t ∷ ts) = steps-length image (after image w t) ts ∙ (leaves image w t _ refl).as_many
