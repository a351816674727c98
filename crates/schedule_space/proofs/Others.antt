-- A step that starts no stream keeps the other streams of its processor.
use Rattle.std.proofs.Common.{◌≡◌, ◌≢◌, ◌≤◌, ℕ, zero, suc, refl, sym, ap, ◌∙◌, subst, arith, List, [], ◌∷◌}
use Rattle.std.proofs.Common.{◌⊎◌, inl, inr, Option, Some, None, length, get_or, set, slice_get}
use Rattle.std.proofs.lemmas.List.{get_or-set_same, set-get_or}
use Rattle.std.proofs.lemmas.Option.{slice_get_within, get_or_from_slice_get}
use Rattle.image_file.specs.ImageValue.{ImageValue}
use Rattle.stream_core.specs.Streams.{idle}
use Rattle.processor.specs.OtherStreams.{IsStarted, KeepsOthers}
use Rattle.processor.specs.Processors.{ProcessorValue, stream_at}
use Rattle.processor.specs.Row.{request, row, memory_reply}
use Rattle.processor.specs.World.{World, after}
use Rattle.processor.specs.declared.steps.Step.{Step}
use Rattle.processor.proofs.Histories.{after-known, after-absent}
use Rattle.processor.proofs.OtherStreams.{kept_row}
use Rattle.world_keys.specs.WorldKeys.{processor_in, no_processor}

same_all : {A : Type 0} (xs ys : List A) (d : A) → length ys ≡ length xs
    → ((k : ℕ) → get_or ys k d ≡ get_or xs k d) → ys ≡ xs
same_all [] [] d many same = refl
same_all [] (y ∷ ys) d many same = absurd (omega arith)
same_all (x ∷ xs) [] d many same = absurd (omega arith)
same_all (x ∷ xs) (y ∷ ys) d many same =
    let rest = same_all xs ys d (omega arith) (λ k. same (suc k)) in λ i. same 0 i ∷ rest i

-- a list that is another one but for one place
same_but : {A : Type 0} (xs ys : List A) (n : ℕ) (d : A) → length ys ≡ length xs
    → ((k : ℕ) → (k ≢ n) → get_or ys k d ≡ get_or xs k d) → ys ≡ set xs n (get_or ys n d)
same_but [] [] n d many same = refl
same_but [] (y ∷ ys) n d many same = absurd (omega arith)
same_but (x ∷ xs) [] n d many same = absurd (omega arith)
same_but (x ∷ xs) (y ∷ ys) zero d many same =
    let rest : ys ≡ xs = same_all xs ys d (omega arith) (λ k. same (suc k) (λ e. omega (arith, e))) in
    ap (λ zs. y ∷ zs) rest
same_but (x ∷ xs) (y ∷ ys) (suc n) d many same =
    let first : y ≡ x = same 0 (λ e. omega (arith, e)) in
    let rest = same_but xs ys n d (omega arith) (λ k apart. same (suc k) (λ e. apart (omega (arith, e)))) in
    λ i. first i ∷ rest i

kept_streams : (n : ℕ) (old new : ProcessorValue) → KeepsOthers n old new → new.scur ≤ old.scur
    → new.streams ≡ set old.streams n (stream_at new.streams n)
kept_streams n old new keeps current =
    same_but old.streams new.streams n idle keeps.as_many (λ k apart. by_case k (keeps.others k apart)) where
      by_case : (k : ℕ) → (stream_at new.streams k ≡ stream_at old.streams k) ⊎ IsStarted old new k
          → stream_at new.streams k ≡ stream_at old.streams k
      by_case k (inl same) = same
      by_case k (inr started) = absurd (omega (arith, started.1, current))

-- a step keeps the other streams where no more are current than before
others_kept : (image : ImageValue) (w : World) (t : Step)
    → (processor_in (after image w t) t.p).scur ≤ (processor_in w t.p).scur
    → (processor_in (after image w t) t.p).streams
    ≡ set (processor_in w t.p).streams t.s (stream_at (processor_in (after image w t) t.p).streams t.s)
others_kept image w t current = by_processor (slice_get w.processors t.p) refl where
  by_processor : (o : Option ProcessorValue) → slice_get w.processors t.p ≡ o
      → (processor_in (after image w t) t.p).streams
      ≡ set (processor_in w t.p).streams t.s (stream_at (processor_in (after image w t) t.p).streams t.s)
  by_processor None there =
      let same = after-absent image w t there in
      ap (λ (x : World). (processor_in x t.p).streams) same
      ∙ sym (set-get_or (processor_in w t.p).streams t.s idle)
      ∙ ap (λ (x : World). set (processor_in w t.p).streams t.s (stream_at (processor_in x t.p).streams t.s)) (sym same)
  by_processor (Some proc) there =
      let q = request image proc t.s in
      let new : ProcessorValue = (row image proc t.s (memory_reply w.memory q).1).0 in
      let was : processor_in w t.p ≡ proc = get_or_from_slice_get w.processors t.p proc no_processor there in
      let is : processor_in (after image w t) t.p ≡ new =
      ap (λ (x : World). processor_in x t.p) (after-known image w t proc q there refl)
      ∙ get_or-set_same w.processors t.p new no_processor (slice_get_within w.processors t.p proc there) in
      let keeps : KeepsOthers t.s proc new = kept_row image proc t.s (memory_reply w.memory q).1 in
      kept_streams t.s (processor_in w t.p) (processor_in (after image w t) t.p)
      (subst (λ (x : ProcessorValue). KeepsOthers t.s x (processor_in (after image w t) t.p)) (sym was)
      (subst (λ (x : ProcessorValue). KeepsOthers t.s proc x) (sym is) keeps))
      current

-- the same of a world that is that after the step
pub others_next : (image : ImageValue) (w next : World) (t : Step) → next ≡ after image w t
    → (processor_in next t.p).scur ≤ (processor_in w t.p).scur
    → (processor_in next t.p).streams
    ≡ set (processor_in w t.p).streams t.s (stream_at (processor_in next t.p).streams t.s)
others_next image w next t is =
    subst (λ (x : World). (processor_in x t.p).scur ≤ (processor_in w t.p).scur
    → (processor_in x t.p).streams ≡ set (processor_in w t.p).streams t.s (stream_at (processor_in x t.p).streams t.s))
    (sym is) (others_kept image w t)
