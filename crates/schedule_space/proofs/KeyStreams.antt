-- The streams that run in a world, as its key tells them.
use Rattle.std.proofs.Common.{◌≡◌, ℕ, zero, suc, ◌+◌, ◌*◌, ◌<◌, ◌≤◌, ◌%◌, ◌^◌, true, false, refl, sym, ap, ◌∙◌, subst, arith}
use Rattle.std.proofs.Common.{List, [], ◌∷◌, ◌++◌, Option, Some, None, ◌⊎◌, inl, inr, length, map, get_or, slice_get, option_copied, Bor}
use Rattle.std.specs.Prelude.{IsTrue}
use Rattle.std.specs.List.{Contains}
use Rattle.std.proofs.lemmas.List.Elements.{Contains-push_cases}
use Rattle.std.proofs.lemmas.Bool.{cases_Bool}
use Rattle.std.proofs.lemmas.List.{length-map, length-append, get_or-append_right, get_or-map}
use Rattle.std.proofs.lemmas.Option.{slice_get_within, slice_get-get_or, get_or_from_slice_get}
use Rattle.image_file.specs.ImageValue.{ImageValue}
use Rattle.stream_core.specs.StatusWords.{status_number}
use Rattle.stream_core.specs.Streams.{StreamValue}
use Rattle.stream_core.specs.declared.steps.Status.{Status}
use Rattle.stream_core.specs.declared.steps.Status.TheVariants.{Idle, Running, Stopped}
use Rattle.processor.specs.Processors.{ProcessorValue, is_idle, is_idle_status, stream_at}
use Rattle.processor.specs.Records.{is_running, is_running_status}
use Rattle.processor.specs.World.{World}
use Rattle.processor.specs.declared.steps.Step.{Step}
use Rattle.waiting.specs.Running.{streams_at, runs_at, runs_in}
use Rattle.world_keys.specs.DeadRegisters.Clearing.{LiveValue, cleared}
use Rattle.world_keys.specs.Tables.{place_in, Has}
use Rattle.world_keys.specs.StreamNumbers.{all_halves, status_code, stream_words, stream_numbers, IsReadable}
use Rattle.world_keys.specs.WorldKeys.{stream_marks, processor_numbers, processor_place, key_of, no_processor, processor_in}
use Rattle.world_keys.specs.WorldKeys.{IsKnownIf, IsKnownStream, IsKnownProcessor, IsKnown}
use Rattle.world_keys.proofs.Places.{place_get}
use Rattle.world_keys.proofs.Replacing.{from_first, no_mark, one_mark}
use Rattle.world_keys.proofs.Clearings.{stream_cleared, processor_cleared, as_many_cleared}
use Rattle.schedule_space.proofs.StreamSteps.{mark_at}
use Rattle.schedule_space.proofs.KnownSteps.{key_many}

-- Numbers that are read.

halves_at : (xs : List ℕ) (k : ℕ) → k < length xs → get_or (all_halves xs) (2 * k) 0 ≡ get_or xs k 0 % 2 ^ 32
halves_at [] k below = absurd (omega arith)
halves_at (x ∷ xs) zero below = refl
halves_at (x ∷ xs) (suc k) below =
    let at : 2 * suc k ≡ suc (suc (2 * k)) = omega arith in
    ap (λ j. get_or (all_halves (x ∷ xs)) j 0) at ∙ halves_at xs k (omega arith)

length_halves : (xs : List ℕ) → length (all_halves xs) ≡ 2 * length xs
length_halves [] = refl
length_halves (x ∷ xs) = let rest = length_halves xs in omega (arith, rest)

running_code : (s : Status) → is_running_status s ≡ true → status_code s ≡ 1
running_code Idle runs = absurd cc
running_code Running runs = refl
running_code (Stopped k) runs = absurd cc

running_busy : (s : Status) → is_running_status s ≡ true → is_idle_status s ≡ false
running_busy Idle runs = absurd cc
running_busy Running runs = refl
running_busy (Stopped k) runs = absurd cc

-- the 86th number of a stream that runs is 1
pub runs_number : (s : StreamValue) → IsReadable s → is_running s ≡ true
    → (86 < length (stream_numbers s)) × (get_or (stream_numbers s) 86 0 ≡ 1)
unfolding stream_numbers
runs_number s is runs =
    let last : List ℕ = status_number s.ssw ∷ s.xr ∷ s.retries ∷ status_code s.status ∷ [] in
    let rest : List ℕ = map status_number s.targets ++ last in
    let targets : length (map status_number s.targets) ≡ 8 = length-map s.targets status_number ∙ is.targets in
    let word : get_or (stream_words s) 43 0 ≡ status_code s.status =
    get_or-append_right s.registers rest 32 43 0 is.registers (omega arith)
    ∙ get_or-append_right (map status_number s.targets) last 8 11 0 targets (omega arith) in
    let many : length (stream_words s) ≡ 44 =
    omega (arith, length-append s.registers rest, length-append (map status_number s.targets) last, targets, is.registers) in
    let code = running_code s.status runs in (
      omega (arith, length_halves (stream_words s), many),
      halves_at (stream_words s) 43 (omega (arith, many)) ∙ ap (λ n. n % 2 ^ 32) (word ∙ code),
    )

-- Marks.

-- a number stands at an even place of a list, and another one behind it
record IsMarked (xs : List ℕ) (a : ℕ) : Type 0 where
  number : ℕ
  at : slice_get xs (2 * number) ≡ Some a
  within : 2 * number + 1 < length xs

marked_first : (n q : ℕ) (ms : List ℕ) → IsMarked (n ∷ q ∷ ms) (n + 0)
marked_first n q ms = record { number = 0; at = ap (λ k. Some k) (let e : n ≡ n + 0 = omega arith in e); within = omega arith }

marked_later : (n q a : ℕ) (ms : List ℕ) → IsMarked ms a → IsMarked (n ∷ q ∷ ms) a
marked_later n q a ms is =
    let at : suc (suc (2 * is.number)) ≡ 2 * suc is.number = omega arith in
    record {
      number = suc is.number;
      at = subst (λ j. slice_get (n ∷ q ∷ ms) j ≡ Some a) at is.at;
      within = omega (arith, is.within);
    }

-- each stream that is not idle has a mark
has_mark : (t : List (List ℕ)) (n : ℕ) (ss : List StreamValue) (s : ℕ) → s < length ss → is_idle (stream_at ss s) ≡ false
    → IsMarked (stream_marks t n ss) (n + s)
unfolding stream_marks
has_mark t n [] s below busy = absurd (omega arith)
has_mark t n (u ∷ us) zero below busy =
    let q = place_in t (stream_numbers u) in
    let ms = stream_marks t (n + 1) us in
    subst (λ xs. IsMarked xs (n + 0)) (sym (one_mark n q ms (is_idle u) busy)) (marked_first n q ms)
has_mark t n (u ∷ us) (suc s) below busy =
    let q = place_in t (stream_numbers u) in
    let ms = stream_marks t (n + 1) us in
    let number : n + 1 + s ≡ n + suc s = omega arith in
    let rest = subst (IsMarked ms) number (has_mark t (n + 1) us s (omega arith) busy) in
    elim (cases_Bool (is_idle u)) [
      | inl e ↦ subst (λ xs. IsMarked xs (n + suc s)) (sym (no_mark n q ms (is_idle u) e)) rest
      | inr e ↦ subst (λ xs. IsMarked xs (n + suc s)) (sym (one_mark n q ms (is_idle u) e)) (marked_later n q (n + suc s) ms rest)
    ]

-- a stream that runs is there
pub runs_within : (ss : List StreamValue) (s : ℕ) → is_running (stream_at ss s) ≡ true → s < length ss
runs_within [] zero runs = absurd cc
runs_within [] (suc s) runs = absurd cc
runs_within (u ∷ us) zero runs = omega arith
runs_within (u ∷ us) (suc s) runs = let rest = runs_within us s runs in omega (arith, rest)

pub busy_at : (ss : List StreamValue) (s : ℕ) → is_running (stream_at ss s) ≡ true → is_idle (stream_at ss s) ≡ false
busy_at ss s runs = running_busy (stream_at ss s).status runs

-- which mark of a processor is that of a stream
pub record IsMarkOf (marks : List ℕ) (s : ℕ) : Type 0 where
  pub number : ℕ
  pub within : 2 * number + 2 < length marks
  pub is : slice_get marks (2 * number + 1) ≡ Some s

-- one that runs has one
pub running_mark : (t : List (List ℕ)) (proc : ProcessorValue) (marks : List ℕ) (s : ℕ) → marks ≡ processor_numbers t proc
    → is_running (stream_at proc.streams s) ≡ true → IsMarkOf marks s
running_mark t proc marks s read runs =
    let is = has_mark t 0 proc.streams s (runs_within proc.streams s runs) (busy_at proc.streams s runs) in
    let one : 2 * is.number + 1 ≡ suc (2 * is.number) = omega arith in
    let number : 0 + s ≡ s = omega arith in
    record {
      number = is.number;
      within = omega (arith, is.within, ap length read);
      is = (λ i. slice_get (read i) (one i)) ∙ is.at ∙ ap (λ k. Some k) number;
    }

-- its mark has the place of what it holds
pub marked_place : (t : List (List ℕ)) (proc : ProcessorValue) (marks : List ℕ) (s k place : ℕ)
    → marks ≡ processor_numbers t proc → slice_get marks (2 * k + 1) ≡ Some s → slice_get marks (2 * k + 2) ≡ Some place
    → place ≡ place_in t (stream_numbers (stream_at proc.streams s))
marked_place t proc marks s k place read is at =
    let one : 2 * k + 1 ≡ suc (2 * k) = omega arith in
    let two : 2 * k + 2 ≡ suc (2 * k + 1) = omega arith in
    let number : s ≡ 0 + s = omega arith in
    (mark_at t 0 proc.streams k s place ((λ i. slice_get (sym read i) (sym one i)) ∙ is ∙ ap (λ j. Some j) number)
    ((λ i. slice_get (sym read i) (sym two i)) ∙ at)).is_place

pub known_busy : (t : List (List ℕ)) (s : StreamValue) → is_idle s ≡ false → IsKnownStream t s
    → Has t (stream_numbers s) × IsReadable s
known_busy t s busy known = subst (IsKnownIf t s) busy known

-- Marks are in the order of the streams, so each stream has one.

-- so it is with one mark more in front, whose stream comes before theirs
first_rise : (n q j k a b : ℕ) (ms : List ℕ) → ((i c : ℕ) → slice_get ms (2 * i) ≡ Some c → n + 1 ≤ c)
    → ((i l : ℕ) → i < l → slice_get ms (2 * i) ≡ Some a → slice_get ms (2 * l) ≡ Some b → a < b) → j < k
    → slice_get (n ∷ q ∷ ms) (2 * j) ≡ Some a → slice_get (n ∷ q ∷ ms) (2 * k) ≡ Some b → a < b
first_rise n q j zero a b ms bound rest less one other = absurd (omega (arith, less))
first_rise n q zero (suc k) a b ms bound rest less one other =
    let first : n ≡ a = cc in
    let at : 2 * suc k ≡ suc (suc (2 * k)) = omega arith in
    let more = bound k b (ap (slice_get (n ∷ q ∷ ms)) (sym at) ∙ other) in
    omega (arith, first, more)
first_rise n q (suc j) (suc k) a b ms bound rest less one other =
    let at : 2 * suc j ≡ suc (suc (2 * j)) = omega arith in
    let to : 2 * suc k ≡ suc (suc (2 * k)) = omega arith in
    rest j k (omega (arith, less)) (ap (slice_get (n ∷ q ∷ ms)) (sym at) ∙ one) (ap (slice_get (n ∷ q ∷ ms)) (sym to) ∙ other)

marks_rise : (t : List (List ℕ)) (n : ℕ) (ss : List StreamValue) (j k a b : ℕ) → j < k
    → slice_get (stream_marks t n ss) (2 * j) ≡ Some a → slice_get (stream_marks t n ss) (2 * k) ≡ Some b → a < b
unfolding stream_marks
marks_rise t n [] j k a b less one other = absurd cc
marks_rise t n (u ∷ us) j k a b less one other =
    let q = place_in t (stream_numbers u) in
    let ms = stream_marks t (n + 1) us in
    let rest : (i l : ℕ) → i < l → slice_get ms (2 * i) ≡ Some a → slice_get ms (2 * l) ≡ Some b → a < b =
    λ i l low at to. marks_rise t (n + 1) us i l a b low at to in
    elim (cases_Bool (is_idle u)) [
      | inl e ↦
          let same = no_mark n q ms (is_idle u) e in
          rest j k less (ap (λ xs. slice_get xs (2 * j)) (sym same) ∙ one) (ap (λ xs. slice_get xs (2 * k)) (sym same) ∙ other)
      | inr e ↦
          let same = one_mark n q ms (is_idle u) e in
          first_rise n q j k a b ms (λ i c there. from_first t (n + 1) us i c there) rest less
          (ap (λ xs. slice_get xs (2 * j)) (sym same) ∙ one) (ap (λ xs. slice_get xs (2 * k)) (sym same) ∙ other)
    ]

-- an earlier mark is that of another stream
pub marks_differ : (t : List (List ℕ)) (proc : ProcessorValue) (marks : List ℕ) (j k s : ℕ) → marks ≡ processor_numbers t proc
    → j < k → slice_get marks (2 * j + 1) ≡ Some s → slice_get marks (2 * k + 1) ≡ Some s → ⊥
marks_differ t proc marks j k s read less one other =
    let at : 2 * j + 1 ≡ suc (2 * j) = omega arith in
    let to : 2 * k + 1 ≡ suc (2 * k) = omega arith in
    let more =
    marks_rise t 0 proc.streams j k s s less ((λ i. slice_get (sym read i) (sym at i)) ∙ one)
    ((λ i. slice_get (sym read i) (sym to i)) ∙ other) in
    absurd (omega (arith, more))

-- the step is one of processor p, of the stream of a mark before this one
pub record IsMarkedBefore (marks : List ℕ) (p mark : ℕ) (t : Step) : Type 0 where
  pub processor : t.p ≡ p
  pub number : ℕ
  pub before : number < mark
  pub is : slice_get marks (2 * number + 1) ≡ Some t.s

-- where each step of a list is one of an earlier one, or of a mark before this, so it is with one mark more

pub own_later : (first : List Step) (marks : List ℕ) (p n : ℕ) (u : Step)
    → Contains first u ⊎ IsMarkedBefore marks p n u → Contains first u ⊎ IsMarkedBefore marks p (n + 1) u
own_later first marks p n u (inl has) = inl has
own_later first marks p n u (inr is) = inr (record {
  processor = is.processor;
  number = is.number;
  before = omega (arith, is.before);
  is = is.is;
})

pub own_more : (first old new : List Step) (marks : List ℕ) (p n : ℕ) (here u : Step) → new ≡ old ++ here ∷ [] → here.p ≡ p
    → slice_get marks (2 * n + 1) ≡ Some here.s
    → ((t : Step) → Contains old t → Contains first t ⊎ IsMarkedBefore marks p n t) → Contains new u
    → Contains first u ⊎ IsMarkedBefore marks p (n + 1) u
own_more first old new marks p n here u pushed at is all has =
    by_case (Contains-push_cases old here u (subst (λ (xs : List Step). Contains xs u) pushed has)) where
      by_case : Contains old u ⊎ (here ≡ u) → Contains first u ⊎ IsMarkedBefore marks p (n + 1) u
      by_case (inl before) = own_later first marks p n u (all u before)
      by_case (inr last) =
          subst (λ (t : Step). Contains first t ⊎ IsMarkedBefore marks p (n + 1) t) last
          (inr (record { processor = at; number = n; before = omega arith; is = is }))

pub own_of : (first : List Step) (marks : List ℕ) (p n : ℕ) (u : Step) → Contains first u ⊎ IsMarkedBefore marks p n u
    → Contains first u ⊎ (u.p ≡ p)
own_of first marks p n u (inl has) = inl has
own_of first marks p n u (inr is) = inr is.processor

-- the step of a mark is not there before
pub mark_new : (t : List (List ℕ)) (proc : ProcessorValue) (first old : List Step) (marks : List ℕ) (p n : ℕ) (here : Step)
    → marks ≡ processor_numbers t proc → here.p ≡ p → slice_get marks (2 * n + 1) ≡ Some here.s
    → ((u : Step) → Contains first u → u.p ≡ p → ⊥)
    → ((u : Step) → Contains old u → Contains first u ⊎ IsMarkedBefore marks p n u) → Contains old here → ⊥
mark_new t proc first old marks p n here read at is others all has = by_case (all here has) where
  by_case : Contains first here ⊎ IsMarkedBefore marks p n here → ⊥
  by_case (inl earlier) = others here earlier at
  by_case (inr before) = marks_differ t proc marks before.number n here.s read before.before before.is is

-- What is read at a place of a table.

pub read_there : (t : List (List ℕ)) (x : List ℕ) (place : ℕ) (o : Option (Bor (List ℕ))) (b : Bor (List ℕ)) → Has t x
    → place ≡ place_in t x → option_copied o ≡ slice_get t place → o ≡ Some b → b.now ≡ x
read_there t x place o b has at is some =
    sym (get_or_from_slice_get t place b.now [] (sym is ∙ ap option_copied some))
    ∙ ap (λ k. get_or t k []) at
    ∙ place_get t x [] has

pub never_missing : (t : List (List ℕ)) (x : List ℕ) (place : ℕ) (o : Option (Bor (List ℕ))) → Has t x → place ≡ place_in t x
    → option_copied o ≡ slice_get t place → o ≡ None → ⊥
never_missing t x place o has at is none =
    let some : slice_get t place ≡ Some (get_or t place []) = slice_get-get_or t place [] (omega (arith, has, at)) in
    let e : None ≡ Some (get_or t place []) = ap option_copied (sym none) ∙ is ∙ some in
    absurd cc

-- The processors of a world, as they are cleared.

record IsThere (w : World) (t : Step) : Type 0 where
  processor : t.p < length w.processors
  runs : is_running (stream_at (processor_in w t.p).streams t.s) ≡ true

runs_there : (ss : List StreamValue) (s : ℕ) → runs_at (slice_get ss s) ≡ true → is_running (stream_at ss s) ≡ true
runs_there [] zero runs = absurd cc
runs_there [] (suc s) runs = absurd cc
runs_there (u ∷ us) zero runs = runs
runs_there (u ∷ us) (suc s) runs = runs_there us s runs

nowhere : (s : ℕ) → runs_at (slice_get [] s) ≡ true → ⊥
nowhere zero runs = absurd cc
nowhere (suc s) runs = absurd cc

is_there : (w : World) (t : Step) (o : Option ProcessorValue) → slice_get w.processors t.p ≡ o
    → runs_at (slice_get (streams_at o) t.s) ≡ true → IsThere w t
is_there w t None there runs = absurd (nowhere t.s runs)
is_there w t (Some proc) there runs =
    let is : processor_in w t.p ≡ proc = get_or_from_slice_get w.processors t.p proc no_processor there in
    record {
      processor = slice_get_within w.processors t.p proc there;
      runs =
          subst (λ (q : ProcessorValue). is_running (stream_at q.streams t.s) ≡ true) (sym is) (runs_there proc.streams t.s runs);
    }

-- a stream that runs does so where its processor is cleared, and its processor is known
pub record RunsCleared (live : LiveValue) (w : World) (t : Step) : Type 0 where
  pub processor : t.p < length w.processors
  pub runs : is_running (stream_at (processor_in (cleared live w) t.p).streams t.s) ≡ true

pub runs_cleared : (live : LiveValue) (w : World) (t : Step) → IsTrue (runs_in w t) → RunsCleared live w t
runs_cleared live w t runs =
    let is = is_there w t (slice_get w.processors t.p) refl runs in
    record {
      processor = is.processor;
      runs =
          subst (λ (q : ProcessorValue). is_running (stream_at q.streams t.s) ≡ true) (sym (processor_cleared live w t.p))
          (subst (λ (s : StreamValue). is_running s ≡ true) (sym (stream_cleared live (processor_in w t.p).streams t.s)) is.runs);
    }

-- the number that a key has of a processor
pub place_by_key : (image : ImageValue) (live : LiveValue) (t : List (List ℕ)) (w : World) (key : List ℕ) (p n : ℕ)
    → IsKnown t image (cleared live w) → key ≡ key_of t image (cleared live w) → p < length w.processors
    → n ≡ get_or key (p + 1) 0 → n ≡ processor_place t (processor_in (cleared live w) p)
place_by_key image live t w key p n known is there at =
    let next : p + 1 ≡ suc p = omega arith in
    at
    ∙ ap (λ xs. get_or xs (p + 1) 0) is
    ∙ ap (λ k. get_or (key_of t image (cleared live w)) k 0) next
    ∙ get_or-map (processor_place t) (cleared live w).processors p no_processor 0 (omega (arith, there, as_many_cleared live w))

pub processor_known : (image : ImageValue) (live : LiveValue) (t : List (List ℕ)) (w : World) (p : ℕ)
    → IsKnown t image (cleared live w) → p < length w.processors
    → IsKnownProcessor t image (processor_in (cleared live w) p)
processor_known image live t w p known there = known.processors p (omega (arith, there, as_many_cleared live w))

-- as many processors as the image has entries
pub as_many_entries : (image : ImageValue) (live : LiveValue) (t : List (List ℕ)) (w : World) → IsKnown t image (cleared live w)
    → length w.processors ≡ length image.entries
as_many_entries image live t w known = omega (arith, known.one_each, as_many_cleared live w)

pub key_entries : (image : ImageValue) (live : LiveValue) (t : List (List ℕ)) (w : World) (key : List ℕ)
    → IsKnown t image (cleared live w) → key ≡ key_of t image (cleared live w)
    → length key ≡ length image.entries + 1
key_entries image live t w key known is =
    omega (arith, key_many image live t w key is, as_many_entries image live t w known)
