-- A step of a processor that is there: the entries cover all places.
use Rattle.std.proofs.Common.{◌≡◌, ◌≢◌, ℕ, zero, suc, ◌<◌, Bool, true, false, inl, inr, refl, sym, ap, ◌∙◌}
use Rattle.std.proofs.Common.{subst, arith, Option, Some, None, List, [], ◌∷◌, ◌++◌, length, nat_lt}
use Rattle.std.proofs.Common.{if◌then◌else◌, is_some, slice_get}
use Rattle.std.proofs.lemmas.Bool.{cases_eq, ltb-true, lt-ltb}
use Rattle.std.proofs.lemmas.Option.{slice_get-get_or, slice_get_past}
use Rattle.std.proofs.lemmas.Bool.{cases_lt}
use Rattle.tag_memory.specs.Cell.{Cell}
use Rattle.tag_memory.specs.Storage.{cell_at}
use Rattle.stream_core.specs.Streams.{StreamValue, idle}
use Rattle.machine.specs.Processor.Processors.{ProcessorValue, is_idle, stream_at, IsCounted}
use Rattle.machine.specs.Processor.OtherStreams.{IsStarted, KeepsOthers}
use Rattle.machine.specs.Processor.World.{World, counts_at, counts_of}
use Rattle.step_views.specs.declared.places.StreamPart.{StreamPart}
use Rattle.step_views.specs.declared.places.Place.{Place}
use Rattle.step_views.specs.declared.places.Place.TheVariants as place
use Rattle.step_views.specs.declared.places.Change.{Change}
use Rattle.step_views.specs.declared.step_views.Reference.{Reference}
use Rattle.step_views.specs.Places.{used_stream_in, used_stream, content_of}
use Rattle.step_views.specs.Comparing.{free_in, word_seen, stream_compared, has_grown, free_compared, started_compared}
use Rattle.step_views.specs.Comparing.{counts_compared, word_compared}
use Rattle.step_views.proofs.Entries.{In, in_either}
use Rattle.step_views.proofs.Covering.{IsCovered, AreEntries}
use Rattle.step_views.proofs.Starting.{CanStart}
use Rattle.step_views.proofs.Words.{KeepsWords}
use Rattle.step_views.proofs.Pieces.{IsPiece, no_piece, piece_join, covered_left, covered_right}
use Rattle.step_views.proofs.Pieces.{of_stream_compared, stream_piece, AreAlike, stream_covered, stream_stays}
use Rattle.step_views.proofs.Counts.{counts_piece, current_covered, reserved_covered, current_stays, reserved_stays}
use Rattle.step_views.proofs.Counts.{word_pair, word_paired, word_piece, value_covered, tags_covered}
use Rattle.step_views.proofs.Counts.{value_stays, tags_stay}
use Rattle.step_views.proofs.Free.{free_is_idle, lowest_is_free}

-- What a step leaves, in what of it is used here.
pub record IsStepped (w v : World) (p s : ℕ) (r : Option Reference) (proc next : ProcessorValue) : Type 0 where
  pub before : slice_get w.processors p ≡ Some proc
  pub after : slice_get v.processors p ≡ Some next
  pub elsewhere : (q : ℕ) → q ≢ p → slice_get v.processors q ≡ slice_get w.processors q
  pub kept : KeepsOthers s proc next
  pub starts : proc.scur < next.scur → CanStart proc s
  pub counted : IsCounted proc
  pub words : KeepsWords w.memory v.memory r

-- Alike.

alike_by_length : (xs ys : List StreamValue) (k : ℕ) → length xs ≡ length ys
    → AreAlike (slice_get xs k) (slice_get ys k)
alike_by_length [] [] k e = tt
alike_by_length [] (y ∷ ys) k e = absurd (omega arith)
alike_by_length (x ∷ xs) [] k e = absurd (omega arith)
alike_by_length (x ∷ xs) (y ∷ ys) zero e = tt
alike_by_length (x ∷ xs) (y ∷ ys) (suc k) e = alike_by_length xs ys k (omega arith)

alike_by_some : (o q : Option Cell) → is_some q ≡ is_some o → AreAlike o q
alike_by_some None None e = tt
alike_by_some None (Some c) e = absurd (let f : ⊥ = cc in f)
alike_by_some (Some b) None e = absurd (let f : ⊥ = cc in f)
alike_by_some (Some b) (Some c) e = tt

streams_alike : (w v : World) (p s : ℕ) (r : Option Reference) (proc next : ProcessorValue)
    → IsStepped w v p s r proc next → (k : ℕ) → AreAlike (used_stream w p k) (used_stream v p k)
streams_alike w v p s r proc next h k =
    let P : Option ProcessorValue → Type 0 = λ o. AreAlike (used_stream_in o k) (used_stream v p k) in
    let Q : Option ProcessorValue → Type 0 = λ o. AreAlike (slice_get proc.streams k) (used_stream_in o k) in
    subst P (sym h.before) (subst Q (sym h.after) (alike_by_length proc.streams next.streams k (sym h.kept.as_many)))

processors_alike : (w v : World) (p s : ℕ) (r : Option Reference) (proc next : ProcessorValue)
    → IsStepped w v p s r proc next → AreAlike (slice_get w.processors p) (slice_get v.processors p)
processors_alike w v p s r proc next h =
    let P : Option ProcessorValue → Type 0 = λ o. AreAlike o (slice_get v.processors p) in
    let Q : Option ProcessorValue → Type 0 = λ o. AreAlike (Some proc) o in
    subst P (sym h.before) (subst Q (sym h.after) tt)

-- The stream that is started.

free_piece : (w v : World) (p s : ℕ) (r : Option Reference) (proc next : ProcessorValue)
    → IsStepped w v p s r proc next → (free : Option ℕ) → free_in (Some proc) ≡ free
    → IsPiece w v (free_compared p free v)
free_piece w v p s r proc next h None e = no_piece w v
free_piece w v p s r proc next h (Some j) e =
    let there = ap (λ o. used_stream_in o j) h.before ∙ (free_is_idle proc j h.counted e).1 in
    stream_piece w v p j (Some idle) (used_stream v p j) there refl

-- all entries are of streams of the processor that were idle
abbrev AreOfIdle : ProcessorValue → ℕ → List Change → Type 0
AreOfIdle proc p es =
    (c : Change) → In es c
    → (j : ℕ) × (x : StreamPart) × (is_idle (stream_at proc.streams j) ≡ true) × (c.place ≡ place.Stream p j x)

of_free : (v : World) (p : ℕ) (proc : ProcessorValue) (free : Option ℕ) → IsCounted proc → free_in (Some proc) ≡ free
    → AreOfIdle proc p (free_compared p free v)
of_free v p proc None counted e c h = absurd h
of_free v p proc (Some j) counted e c h =
    let of = of_stream_compared p j (Some idle) (used_stream v p j) c h in
    (j, of.0, (free_is_idle proc j counted e).0, of.1)

grown_is : (w v : World) (p : ℕ) (proc next : ProcessorValue) → slice_get w.processors p ≡ Some proc
    → slice_get v.processors p ≡ Some next
    → has_grown (counts_of w p) (counts_of v p) ≡ nat_lt proc.scur next.scur
grown_is w v p proc next before after =
    ap (λ (o : Option ProcessorValue). has_grown (counts_at o) (counts_of v p)) before
    ∙ ap (λ (q : Option ProcessorValue). has_grown (Some (proc.scur, proc.sres)) (counts_at q)) after

started_piece : (w v : World) (p s : ℕ) (r : Option Reference) (proc next : ProcessorValue)
    → IsStepped w v p s r proc next → (b : Bool)
    → IsPiece w v (if b then free_compared p (free_in (slice_get w.processors p)) v else [])
started_piece w v p s r proc next h true =
    free_piece w v p s r proc next h (free_in (slice_get w.processors p)) (ap free_in (sym h.before))
started_piece w v p s r proc next h false = no_piece w v

-- no entry of it is of the stream that stepped
started_apart : (w v : World) (p s : ℕ) (r : Option Reference) (proc next : ProcessorValue)
    → IsStepped w v p s r proc next → (b : Bool) → nat_lt proc.scur next.scur ≡ b → (c d : Change) (x : StreamPart)
    → c.place ≡ place.Stream p s x
    → In (if b then free_compared p (free_in (slice_get w.processors p)) v else []) d → c.place ≢ d.place
started_apart w v p s r proc next h false grown c d x at among same = absurd among
started_apart w v p s r proc next h true grown c d x at among same =
    let awake = (h.starts (ltb-true proc.scur next.scur grown)).1 in
    let of = of_free v p proc (free_in (slice_get w.processors p)) h.counted (ap free_in (sym h.before)) d among in
    let one : place.Stream p s x ≡ place.Stream p of.0 of.1 = sym at ∙ same ∙ of.3 in
    let number : of.0 ≡ s = cc one in
    let rests = sym of.2 ∙ ap (λ k. is_idle (stream_at proc.streams k)) number ∙ awake in
    absurd (let f : ⊥ = cc rests in f)

-- What is compared.

-- the entries of the stream that steps, of one that is started, of counts and of a word
abbrev stream_part_of : World → World → ℕ → ℕ → List Change
stream_part_of w v p s = stream_compared p s (used_stream w p s) (used_stream v p s)

abbrev started_part_of : World → World → ℕ → List Change
started_part_of w v p = started_compared p (free_in (slice_get w.processors p)) (counts_of w p) v

abbrev counts_part_of : World → World → ℕ → List Change
counts_part_of w v p = counts_compared p (counts_of w p) (counts_of v p)

abbrev word_part_of : World → World → Option Reference → List Change
word_part_of w v r = word_compared (word_seen w.memory r) v.memory

-- all of them
abbrev pub compared_worlds : World → World → ℕ → ℕ → Option Reference → List Change
compared_worlds w v p s r =
    stream_part_of w v p s ++ started_part_of w v p ++ counts_part_of w v p ++ word_part_of w v r

-- the kinds of places
abbrev kind_of : Place → ℕ
kind_of (place.Stream p s x) = 0
kind_of (place.Current p) = 1
kind_of (place.Reserved p) = 1
kind_of (place.Value a) = 2
kind_of (place.Tags a) = 2

abbrev AreOfKind : ℕ → List Change → Type 0
AreOfKind k es = (c : Change) → In es c → kind_of c.place ≡ k

kinds_apart : (i j : ℕ) (xs ys : List Change) → (i ≢ j) → AreOfKind i xs → AreOfKind j ys
    → (c d : Change) → In xs c → In ys d → c.place ≢ d.place
kinds_apart i j xs ys differ first second c d h k e = differ (sym (first c h) ∙ ap kind_of e ∙ second d k)

kind_either : (k : ℕ) (xs ys : List Change) → AreOfKind k xs → AreOfKind k ys → AreOfKind k (xs ++ ys)
kind_either k xs ys first second c h = elim (in_either xs ys c h) [ inl a ↦ first c a | inr b ↦ second c b ]

kind_of_stream : (p s : ℕ) (o q : Option StreamValue) → AreOfKind 0 (stream_compared p s o q)
kind_of_stream p s o q c h = ap kind_of (of_stream_compared p s o q c h).1

kind_of_free : (p : ℕ) (free : Option ℕ) (v : World) → AreOfKind 0 (free_compared p free v)
kind_of_free p None v c h = absurd h
kind_of_free p (Some j) v c h = kind_of_stream p j (Some idle) (used_stream v p j) c h

kind_of_started : (p : ℕ) (b : Bool) (free : Option ℕ) (v : World)
    → AreOfKind 0 (if b then free_compared p free v else [])
kind_of_started p true free v c h = kind_of_free p free v c h
kind_of_started p false free v c h = absurd h

kind_of_pair : (k : ℕ) (x y : Change) → kind_of x.place ≡ k → kind_of y.place ≡ k → AreOfKind k (x ∷ y ∷ [])
kind_of_pair k x y first second c h =
    elim h [
      | inl same ↦ ap (λ (d : Change). kind_of d.place) (sym same) ∙ first
      | inr m ↦ elim m [
        | inl same ↦ ap (λ (d : Change). kind_of d.place) (sym same) ∙ second
        | inr none ↦ absurd none
      ]
    ]

kind_of_counts : (p : ℕ) (o q : Option (ℕ × ℕ)) → AreOfKind 1 (counts_compared p o q)
kind_of_counts p None q c h = absurd h
kind_of_counts p (Some b) None c h = absurd h
kind_of_counts p (Some b) (Some a) c h = kind_of_pair 1 _ _ refl refl c h

kind_of_word_pair : (a : ℕ) (o q : Option Cell) → AreOfKind 2 (word_pair a o q)
kind_of_word_pair a None q c h = absurd h
kind_of_word_pair a (Some b) None c h = absurd h
kind_of_word_pair a (Some b) (Some d) c h = kind_of_pair 2 _ _ refl refl c h

kind_of_word : (w v : World) (r : Option Reference) → AreOfKind 2 (word_part_of w v r)
kind_of_word w v None c h = absurd h
kind_of_word w v (Some e) c h =
    kind_of_word_pair e.address (cell_at w.memory e.address) (cell_at v.memory e.address) c
    (subst (λ (l : List Change). In l c) (word_paired v.memory e.address (cell_at w.memory e.address)) h)

word_part_piece : (w v : World) (r : Option Reference) → IsPiece w v (word_part_of w v r)
word_part_piece w v None = no_piece w v
word_part_piece w v (Some e) =
    subst (IsPiece w v) (sym (word_paired v.memory e.address (cell_at w.memory e.address)))
    (word_piece w v e.address (cell_at w.memory e.address) (cell_at v.memory e.address) refl refl)

less_apart : (i j : ℕ) → i < j → i ≢ j
less_apart i j below e = omega arith

-- All entries are right, no two of one place.
all_pieces : (w v : World) (p s : ℕ) (r : Option Reference) (proc next : ProcessorValue)
    → IsStepped w v p s r proc next → IsPiece w v (compared_worlds w v p s r)
all_pieces w v p s r proc next h =
    let steps = stream_part_of w v p s in
    let started = started_part_of w v p in
    let counts = counts_part_of w v p in
    let word = word_part_of w v r in
    let free = free_in (slice_get w.processors p) in
    let grown = has_grown (counts_of w p) (counts_of v p) in
    let grows = sym (grown_is w v p proc next h.before h.after) in
    let is_of = of_stream_compared p s (used_stream w p s) (used_stream v p s) in
    let stream_kind = kind_of_stream p s (used_stream w p s) (used_stream v p s) in
    let started_kind = kind_of_started p grown free v in
    let streams_kind = kind_either 0 steps started stream_kind started_kind in
    let counts_kind = kind_of_counts p (counts_of w p) (counts_of v p) in
    let word_kind = kind_of_word w v r in
    let one = less_apart 0 1 (omega arith) in
    let two = less_apart 0 2 (omega arith) in
    let three = less_apart 1 2 (omega arith) in
    let streams = piece_join w v steps started (stream_piece w v p s (used_stream w p s) (used_stream v p s) refl refl)
    (started_piece w v p s r proc next h grown)
    (λ c d m n. started_apart w v p s r proc next h grown grows c d (is_of c m).0 (is_of c m).1 n) in
    let with_counts = piece_join w v (steps ++ started) counts streams
    (counts_piece w v p (slice_get w.processors p) (slice_get v.processors p) refl refl)
    (kinds_apart 0 1 (steps ++ started) counts one streams_kind counts_kind) in
    piece_join w v ((steps ++ started) ++ counts) word with_counts (word_part_piece w v r)
    (λ c d m n. elim (in_either (steps ++ started) counts c m) [
      | inl a ↦ kinds_apart 0 2 (steps ++ started) word two streams_kind word_kind c d a n
      | inr b ↦ kinds_apart 1 2 counts word three counts_kind word_kind c d b n
    ])

-- Each place is covered.

streams_stay : (w v : World) (p s : ℕ) (r : Option Reference) (proc next : ProcessorValue)
    → IsStepped w v p s r proc next → (k : ℕ) → stream_at next.streams k ≡ stream_at proc.streams k
    → used_stream v p k ≡ used_stream w p k
streams_stay w v p s r proc next h k same =
    let found : slice_get next.streams k ≡ slice_get proc.streams k = elim (cases_lt k (length proc.streams)) [
      | inl below ↦
          slice_get-get_or next.streams k idle (omega (arith, h.kept.as_many)) ∙ ap Some same
          ∙ sym (slice_get-get_or proc.streams k idle below)
      | inr past ↦
          slice_get_past next.streams k (omega (arith, h.kept.as_many)) ∙ sym (slice_get_past proc.streams k past)
    ] in
    ap (λ o. used_stream_in o k) h.after ∙ found ∙ ap (λ o. used_stream_in o k) (sym h.before)

-- a stream that is started has entries
started_covered : (w v : World) (p s : ℕ) (r : Option Reference) (proc next : ProcessorValue)
    → IsStepped w v p s r proc next → (k : ℕ) (x : StreamPart) → IsStarted proc next k
    → IsCovered (started_part_of w v p) w v (place.Stream p k x)
started_covered w v p s r proc next h k x is =
    let grows : proc.scur < next.scur = omega (arith, is.1) in
    let free : free_in (Some proc) ≡ Some k =
    lowest_is_free proc h.counted (h.starts grows).0 ∙ ap Some (sym is.0) in
    let seen : free_in (slice_get w.processors p) ≡ Some k = ap free_in h.before ∙ free in
    let grown : has_grown (counts_of w p) (counts_of v p) ≡ true =
    grown_is w v p proc next h.before h.after ∙ lt-ltb proc.scur next.scur grows in
    let there : used_stream w p k ≡ Some idle =
    ap (λ o. used_stream_in o k) h.before ∙ (free_is_idle proc k h.counted free).1 in
    let alike = subst (λ o. AreAlike o (used_stream v p k)) there (streams_alike w v p s r proc next h k) in
    let lowest = free_in (slice_get w.processors p) in
    let P : Bool → Type 0 =
    λ b. IsCovered (if b then free_compared p lowest v else []) w v (place.Stream p k x) in
    let Q : Option ℕ → Type 0 = λ o. IsCovered (free_compared p o v) w v (place.Stream p k x) in
    subst P (sym grown) (subst Q (sym seen)
    (stream_covered w v p k x (Some idle) (used_stream v p k) there refl alike))

other_covered : (w v : World) (p s : ℕ) (r : Option Reference) (proc next : ProcessorValue)
    → IsStepped w v p s r proc next → (k : ℕ) (x : StreamPart) → (k ≢ s)
    → IsCovered (started_part_of w v p) w v (place.Stream p k x)
other_covered w v p s r proc next h k x apart =
    elim (h.kept.others k apart) [
      | inl same ↦ inr (stream_stays w v p k x (streams_stay w v p s r proc next h k same))
      | inr is ↦ started_covered w v p s r proc next h k x is
    ]

-- a part of any stream of the processor
own_covered : (w v : World) (p s : ℕ) (r : Option Reference) (proc next : ProcessorValue)
    → IsStepped w v p s r proc next → (k : ℕ) (x : StreamPart)
    → IsCovered (stream_part_of w v p s ++ started_part_of w v p) w v (place.Stream p k x)
own_covered w v p s r proc next h k x =
    elim (cases_eq s k) [
      | inl same ↦
          let P : ℕ → Type 0 = λ j. IsCovered (stream_part_of w v p s) w v (place.Stream p j x) in
          covered_left w v (stream_part_of w v p s) (started_part_of w v p) (place.Stream p k x)
          (subst P same (stream_covered w v p s x (used_stream w p s) (used_stream v p s) refl refl
          (streams_alike w v p s r proc next h s)))
      | inr differ ↦
          covered_right w v (stream_part_of w v p s) (started_part_of w v p) (place.Stream p k x)
          (other_covered w v p s r proc next h k x (λ e. differ (sym e)))
    ]

word_covered : (w v : World) (r : Option Reference) (x : ℕ → Place) → KeepsWords w.memory v.memory r
    → ((a : ℕ) → cell_at v.memory a ≡ cell_at w.memory a → content_of v (x a) ≡ content_of w (x a))
    → ((a : ℕ) → IsCovered (word_pair a (cell_at w.memory a) (cell_at v.memory a)) w v (x a))
    → (a : ℕ) → IsCovered (word_part_of w v r) w v (x a)
word_covered w v None x keeps stays covered a = inr (stays a (keeps.others a tt))
word_covered w v (Some e) x keeps stays covered a =
    elim (cases_eq e.address a) [
      | inl same ↦
          let P : ℕ → Type 0 = λ b. IsCovered (word_part_of w v (Some e)) w v (x b) in
          subst P same (subst (λ (l : List Change). IsCovered l w v (x e.address))
          (sym (word_paired v.memory e.address (cell_at w.memory e.address))) (covered e.address))
      | inr differ ↦ inr (stays a (keeps.others a differ))
    ]

covered : (w v : World) (p s : ℕ) (r : Option Reference) (proc next : ProcessorValue)
    → IsStepped w v p s r proc next → (x : Place) → IsCovered (compared_worlds w v p s r) w v x
covered w v p s r proc next h (place.Stream q k x) =
    let streams = stream_part_of w v p s ++ started_part_of w v p in
    let counts = counts_part_of w v p in
    elim (cases_eq p q) [
      | inl same ↦
          let P : ℕ → Type 0 = λ j. IsCovered (compared_worlds w v p s r) w v (place.Stream j k x) in
          let at = place.Stream p k x in
          subst P same (covered_left w v (streams ++ counts) (word_part_of w v r) at
          (covered_left w v streams counts at (own_covered w v p s r proc next h k x)))
      | inr differ ↦
          inr (stream_stays w v q k x (ap (λ o. used_stream_in o k) (h.elsewhere q (λ e. differ (sym e)))))
    ]
covered w v p s r proc next h (place.Current q) =
    let streams = stream_part_of w v p s ++ started_part_of w v p in
    let counts = counts_part_of w v p in
    elim (cases_eq p q) [
      | inl same ↦
          let P : ℕ → Type 0 = λ j. IsCovered (compared_worlds w v p s r) w v (place.Current j) in
          let at = place.Current p in
          subst P same (covered_left w v (streams ++ counts) (word_part_of w v r) at
          (covered_right w v streams counts at
          (current_covered w v p (slice_get w.processors p) (slice_get v.processors p) refl refl
          (processors_alike w v p s r proc next h))))
      | inr differ ↦ inr (current_stays w v q (h.elsewhere q (λ e. differ (sym e))))
    ]
covered w v p s r proc next h (place.Reserved q) =
    let streams = stream_part_of w v p s ++ started_part_of w v p in
    let counts = counts_part_of w v p in
    elim (cases_eq p q) [
      | inl same ↦
          let P : ℕ → Type 0 = λ j. IsCovered (compared_worlds w v p s r) w v (place.Reserved j) in
          let at = place.Reserved p in
          subst P same (covered_left w v (streams ++ counts) (word_part_of w v r) at
          (covered_right w v streams counts at
          (reserved_covered w v p (slice_get w.processors p) (slice_get v.processors p) refl refl
          (processors_alike w v p s r proc next h))))
      | inr differ ↦ inr (reserved_stays w v q (h.elsewhere q (λ e. differ (sym e))))
    ]
covered w v p s r proc next h (place.Value a) =
    let front = (stream_part_of w v p s ++ started_part_of w v p) ++ counts_part_of w v p in
    covered_right w v front (word_part_of w v r) (place.Value a)
    (word_covered w v r place.Value h.words (value_stays w v)
    (λ b. value_covered w v b (cell_at w.memory b) (cell_at v.memory b) refl refl
    (alike_by_some (cell_at w.memory b) (cell_at v.memory b) (h.words.there b)))
    a)
covered w v p s r proc next h (place.Tags a) =
    let front = (stream_part_of w v p s ++ started_part_of w v p) ++ counts_part_of w v p in
    covered_right w v front (word_part_of w v r) (place.Tags a)
    (word_covered w v r place.Tags h.words (tags_stay w v)
    (λ b. tags_covered w v b (cell_at w.memory b) (cell_at v.memory b) refl refl
    (alike_by_some (cell_at w.memory b) (cell_at v.memory b) (h.words.there b)))
    a)

pub stepped_entries : (w v : World) (p s : ℕ) (r : Option Reference) (proc next : ProcessorValue)
    → IsStepped w v p s r proc next → AreEntries w v (compared_worlds w v p s r)
stepped_entries w v p s r proc next h =
    let pieces = all_pieces w v p s r proc next h in
    record { right = pieces.right; apart = pieces.apart; all = covered w v p s r proc next h }
