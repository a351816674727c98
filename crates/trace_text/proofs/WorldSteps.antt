-- The parts of a world text, one after another.
use Rattle.std.proofs.Common.{◌≡◌, ℕ, zero, suc, ◌+◌, ◌*◌, ◌<◌, ◌≤◌, List, [], ◌∷◌, ◌++◌, length, drop, refl, sym, ap}
use Rattle.std.proofs.Common.{◌∙◌, arith}
use Rattle.std.proofs.Common.{Option, Some, None, get_or, append_assoc, append-nil, lt-ltb, ⊎_elim}
use Rattle.std.proofs.Math.Seq.{drop-cons}
use Rattle.std.proofs.lemmas.Bool.{cases_lt}
use Rattle.std.proofs.Math.ListN.{drop_of_length-le}
use Rattle.std.specs.List.{slice_get}
use Rattle.tag_memory.specs.Cell.{Cell}
use Rattle.tag_memory.specs.Storage.{TaggedMemory, cell_at}
use Rattle.stream_core.specs.Streams.{StreamValue, idle}
use Rattle.processor.specs.Processors.{ProcessorValue, stream_at}
use Rattle.processor.specs.World.{World, stream_of, stream_seen_at}
use Rattle.machine.specs.MachineValue.{MachineValue, IsMachine}
use Rattle.trace_text.specs.WorldTexts.{stream_part, stream_parts, processor_parts, change, changes}
use Rattle.trace_text.specs.WorldParts.{stream_part_at, processor_part_at, streams_at, streams_of}

-- a part in the text is one less to come
pub part_written : (text new part rest all : List ℕ) → new ≡ text ++ part → text ++ (part ++ rest) ≡ all
    → new ++ rest ≡ all
part_written text new part rest all e whole = ap (λ xs. xs ++ rest) e ∙ append_assoc text part rest ∙ whole

drop-front : {A : Type 0} (xs : List A) (k : ℕ) (d : A) → k < length xs → drop k xs ≡ get_or xs k d ∷ drop (k + 1) xs
drop-front {A} xs k d h =
    let next : suc k ≡ k + 1 = omega arith in
    let rest : ℕ → List A = λ n. drop n xs in
    drop-cons xs k d h ∙ ap (λ n. get_or xs k d ∷ rest n) next

drop-none : {A : Type 0} (k : ℕ) → drop k (let none : List A = [] in none) ≡ []
drop-none zero = refl
drop-none (suc k) = refl

-- Words.

pub change_written : (m : TaggedMemory) (cells : List Cell) (k : ℕ) (cell : Cell) (text new all : List ℕ)
    → k < length cells
    → cell ≡ get_or cells k cell → new ≡ text ++ change (8 * k) cell (cell_at m (8 * k))
    → text ++ changes k m (drop k cells) ≡ all → new ++ changes (k + 1) m (drop (k + 1) cells) ≡ all
change_written m cells k cell text new all h is e whole =
    let next : changes k m (drop k cells) ≡ change (8 * k) cell (cell_at m (8 * k))
    ++ changes (k + 1) m (drop (k + 1) cells) =
    ap (changes k m) (drop-front cells k cell h) ∙ ap (λ c. changes k m (c ∷ drop (k + 1) cells)) (sym is) in
    part_written text new (change (8 * k) cell (cell_at m (8 * k))) (changes (k + 1) m (drop (k + 1) cells)) all e
    (ap (λ xs. text ++ xs) (sym next) ∙ whole)

pub changes_end : (m : TaggedMemory) (cells : List Cell) (k : ℕ) (text all : List ℕ) → length cells ≤ k
    → text ++ changes k m (drop k cells) ≡ all → text ≡ all
changes_end m cells k text all h whole =
    sym (append-nil text) ∙ ap (λ cs. text ++ changes k m cs) (sym (drop_of_length-le cells h)) ∙ whole

-- Streams.

no_stream_past : (p s : ℕ) (ss : List StreamValue) → length ss ≤ s
    → stream_parts p s (drop s ss) ≡ stream_part p s (stream_at ss s) ++ stream_parts p (s + 1) (drop (s + 1) ss)
unfolding stream_part
no_stream_past p s ss h =
    let later : length ss ≤ s + 1 = omega arith in
    ap (stream_parts p s) (drop_of_length-le ss h)
    ∙ sym (ap (λ v. stream_part p s v ++ stream_parts p (s + 1) (drop (s + 1) ss)) (get_or_past ss s h)
    ∙ ap (stream_parts p (s + 1)) (drop_of_length-le ss later))
  where
    get_or_past : (xs : List StreamValue) (k : ℕ) → length xs ≤ k → get_or xs k idle ≡ idle
    get_or_past [] k le = refl
    get_or_past (x ∷ xs) zero le = absurd (omega arith)
    get_or_past (x ∷ xs) (suc k) le = get_or_past xs k (omega arith)

streams-next : (p s : ℕ) (ss : List StreamValue)
    → stream_parts p s (drop s ss) ≡ stream_part p s (stream_at ss s) ++ stream_parts p (s + 1) (drop (s + 1) ss)
streams-next p s ss = ⊎_elim (λ h. ap (stream_parts p s) (drop-front ss s idle h)) (λ h. no_stream_past p s ss h)
    (cases_lt s (length ss))

-- what is seen of a stream below the room
streams_at-next : (size p s : ℕ) (d : Option ProcessorValue) → s < size
    → stream_parts p s (drop s (streams_at d)) ≡ stream_part_at p s (stream_seen_at size s d)
    ++ stream_parts p (s + 1) (drop (s + 1) (streams_at d))
streams_at-next size p s None h = ap (stream_parts p s) (drop-none s)
    ∙ sym (ap (stream_parts p (s + 1)) (drop-none (s + 1)))
  where
    drop-none : (k : ℕ) → drop k (streams_at None) ≡ []
    drop-none k = drop_of_length-le (streams_at None) (omega arith)
streams_at-next size p s (Some d) h = rw (lt-ltb s size h) (streams-next p s d.streams)

pub stream_written : (size : ℕ) (w : World) (p s : ℕ) (o : Option StreamValue) (text new all : List ℕ) → s < size
    → o ≡ stream_of size w p s
    → new ≡ text ++ stream_part_at p s o → text ++ stream_parts p s (drop s (streams_of w p)) ≡ all
    → new ++ stream_parts p (s + 1) (drop (s + 1) (streams_of w p)) ≡ all
stream_written size w p s o text new all h is e whole =
    part_written text new (stream_part_at p s o) (stream_parts p (s + 1) (drop (s + 1) (streams_of w p))) all e
    (ap (λ q. text ++ (stream_part_at p s q ++ stream_parts p (s + 1) (drop (s + 1) (streams_of w p)))) is
    ∙ ap (λ xs. text ++ xs) (sym (streams_at-next size p s (slice_get w.processors p) h)) ∙ whole)

slice_get-or : {A : Type 0} (xs : List A) (k : ℕ) (x d : A) → slice_get xs k ≡ Some x → (k < length xs)
    × (get_or xs k d ≡ x)
slice_get-or [] k x d e = cc
slice_get-or (y ∷ ys) zero x d e = let same : y ≡ x = cc in (omega arith, same)
slice_get-or (y ∷ ys) (suc k) x d e = let rest = slice_get-or ys k x d e in (omega (arith, rest.0), rest.1)

few_streams : (size : ℕ) (m : MachineValue) (p : ℕ) (d : Option ProcessorValue) → IsMachine size m
    → slice_get m.world.processors p ≡ d
    → length (streams_at d) ≤ m.image.slim
few_streams size m p None kept e = omega arith
few_streams size m p (Some d) kept e =
    let at = slice_get-or m.world.processors p d d e in
    let slim = kept.slims p d at.0 in
    let same : length d.streams ≡ m.image.slim = ap (λ (q : ProcessorValue). length q.streams) (sym at.1) ∙ slim in
    omega (arith, same)

pub streams_end : (size : ℕ) (m : MachineValue) (p s : ℕ) (text all : List ℕ) → IsMachine size m → m.image.slim ≤ s
    → text ++ stream_parts p s (drop s (streams_of m.world p)) ≡ all → text ≡ all
streams_end size m p s text all kept h whole =
    let few = few_streams size m p (slice_get m.world.processors p) kept refl in
    let past : length (streams_of m.world p) ≤ s = omega (arith, few) in
    sym (append-nil text) ∙ ap (λ ss. text ++ stream_parts p s ss)
    (sym (drop_of_length-le (streams_of m.world p) past)) ∙ whole

-- Processors.

processors-next : (p : ℕ) (ds : List ProcessorValue) (k : ℕ)
    → processor_parts p (drop k ds) ≡ processor_part_at p (slice_get ds k)
    ++ processor_parts (p + 1) (drop (k + 1) ds)
processors-next p [] zero = refl
processors-next p [] (suc k) = sym (ap (processor_parts (p + 1)) (drop-none {A = ProcessorValue} (suc k + 1)))
processors-next p (d ∷ ds) zero = refl
processors-next p (d ∷ ds) (suc k) =
    let next : suc k + 1 ≡ suc (k + 1) = omega arith in
    processors-next p ds k ∙ ap (λ n. processor_part_at p (slice_get ds k)
    ++ processor_parts (p + 1) (drop n (d ∷ ds))) (sym next)

pub processor_written : (p : ℕ) (ds : List ProcessorValue) (text new all : List ℕ)
    → new ≡ text ++ processor_part_at p (slice_get ds p)
    → text ++ processor_parts p (drop p ds) ≡ all → new ++ processor_parts (p + 1) (drop (p + 1) ds) ≡ all
processor_written p ds text new all e whole =
    part_written text new (processor_part_at p (slice_get ds p)) (processor_parts (p + 1) (drop (p + 1) ds)) all e
    (ap (λ xs. text ++ xs) (sym (processors-next p ds p)) ∙ whole)

pub processors_end : (p : ℕ) (ds : List ProcessorValue) (text all : List ℕ) → length ds ≤ p
    → text ++ processor_parts p (drop p ds) ≡ all → text ≡ all
processors_end p ds text all h whole =
    sym (append-nil text) ∙ ap (λ qs. text ++ processor_parts p qs) (sym (drop_of_length-le ds h)) ∙ whole
