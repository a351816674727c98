-- The counts keep to the streams over each step.
use Rattle.std.proofs.Common.{◌≡◌, ℕ, zero, suc, ◌+◌, ◌<◌, ◌≤◌, ◌==◌, Bool, true, false, not, refl}
use Rattle.std.proofs.Common.{sym, ap, ◌∙◌, subst, arith, if◌then◌else◌}
use Rattle.std.proofs.Common.{List, [], ◌∷◌, length, set, Option}
use Rattle.std.specs.List.{position_or_len}
use Rattle.std.proofs.lemmas.List.{length-set, get_or-set_same}
use Rattle.std.proofs.lemmas.List.Sums.{passes_at_first}
use Rattle.std.proofs.lemmas.Bool.{eqb-false}
use Rattle.tag_memory.specs.declared.requests.Reply.{Reply}
use Rattle.tag_memory.specs.Storage.{TaggedMemory}
use Rattle.image_file.specs.ImageValue.{ImageValue}
use Rattle.stream_core.specs.Streams.{StreamValue, idle, after_trap}
use Rattle.stream_core.specs.Children.{child_stream}
use Rattle.stream_core.specs.Effects.{request_of}
use Rattle.stream_core.specs.StreamRow.{control_of, row_asking}
use Rattle.stream_core.specs.declared.steps.Outcome.{Outcome}
use Rattle.stream_core.specs.declared.steps.Outcome.TheVariants as outcome
use Rattle.stream_core.specs.declared.steps.Fetch.{Fetch}
use Rattle.stream_core.specs.declared.steps.Fetch.TheVariants as fetch
use Rattle.stream_core.specs.declared.steps.Control.{Control}
use Rattle.stream_core.specs.declared.steps.Control.TheVariants as asks
use Rattle.processor.specs.Processors.{ProcessorValue, is_idle, count_current, IsCounted, IsZeroIfIdle, stream_at}
use Rattle.processor.specs.Row.{lacks_stream, step_fetch_of, grant_of, with_stream, lowest_idle, after_control, after_control_if_done}
use Rattle.processor.specs.Row.{row_on_fetch, row, request, memory_reply, row_over_memory}
use Rattle.processor.proofs.Begun.{rests, awake, free, row_is}
use Rattle.processor.proofs.Awake.{awake-trapped, awake-row_asking}

abbrev pub weight : StreamValue → ℕ
weight s = if is_idle s then 0 else 1

swapped : (a b c : ℕ) → (a + b) + c ≡ (c + b) + a
swapped a b c = omega arith

beside : (w a b c d : ℕ) → a + b ≡ c + d → (w + a) + b ≡ (w + c) + d
beside w a b c d e = omega arith

pub count-set : (ss : List StreamValue) (n : ℕ) (t : StreamValue) → n < length ss
    → count_current (set ss n t) + weight (stream_at ss n) ≡ count_current ss + weight t
count-set [] n t below = absurd (omega arith)
count-set (x ∷ ss) zero t below = swapped (weight t) (count_current ss) (weight x)
count-set (x ∷ ss) (suc n) t below =
    let inner : n < length ss = omega arith in
    beside (weight x) (count_current (set ss n t)) (weight (stream_at ss n)) (count_current ss) (weight t)
    (count-set ss n t inner)

pub weight_awake : (s : StreamValue) → is_idle s ≡ false → weight s ≡ 1
weight_awake s e = ap (λ b. if b then 0 else 1) e

pub weight_idle : (s : StreamValue) → is_idle s ≡ true → weight s ≡ 0
weight_idle s e = ap (λ b. if b then 0 else 1) e

some_counted : (ss : List StreamValue) (n : ℕ) → n < length ss → is_idle (stream_at ss n) ≡ false
    → 1 ≤ count_current ss
some_counted ss n below e =
    omega (arith, count-set ss n idle below, weight_awake (stream_at ss n) e, weight_idle idle refl)

-- a processor whose stream takes a step has a current one
pub some_current : (image : ImageValue) (proc : ProcessorValue) (n : ℕ) → IsCounted proc
    → rests (step_fetch_of image proc n) ≡ false → 1 ≤ proc.scur
some_current image proc n counted there =
    let found = awake image proc n there in
    let some = some_counted proc.streams n found.0 found.1 in
    omega (arith, counted.counts, some)

-- An idle stream is there where not all are current.

idle_step : (b : Bool) (c l p : ℕ) → (c < l → p < l) → (if b then 0 else 1) + c < suc l
    → (if not b then 1 + p else 0) < suc l
idle_step true c l p rest less = omega arith
idle_step false c l p rest less =
    let inner : c < l = omega arith in
    let found = rest inner in
    omega arith

pub idle_there : (ss : List StreamValue) → count_current ss < length ss → position_or_len is_idle ss < length ss
idle_there [] less = less
idle_there (x ∷ ss) less =
    idle_step (is_idle x) (count_current ss) (length ss) (position_or_len is_idle ss) (idle_there ss) less

-- An idle stream holds zeros only.

pub awake-zeros : (s : StreamValue) → is_idle s ≡ false → IsZeroIfIdle s
awake-zeros s awake rests = cc

pub zeros-set : (ss : List StreamValue) (n : ℕ) (t : StreamValue) → IsZeroIfIdle t
    → ((k : ℕ) → IsZeroIfIdle (stream_at ss k)) → (k : ℕ) → IsZeroIfIdle (stream_at (set ss n t) k)
zeros-set [] n t is all k = all k
zeros-set (x ∷ ss) zero t is all zero = is
zeros-set (x ∷ ss) zero t is all (suc k) = all (suc k)
zeros-set (x ∷ ss) (suc n) t is all zero = all zero
zeros-set (x ∷ ss) (suc n) t is all (suc k) = zeros-set ss n t is (λ j. all (suc j)) k

-- Each change keeps the counts.

counted_with : (proc : ProcessorValue) (n : ℕ) (s : StreamValue) → IsCounted proc → n < length proc.streams
    → is_idle (stream_at proc.streams n) ≡ false → is_idle s ≡ false → IsCounted (with_stream proc n s)
counted_with proc n s counted there was is =
    let change = count-set proc.streams n s there in
    let before = weight_awake (stream_at proc.streams n) was in
    record {
      counts = omega (arith, counted.counts, change, before, weight_awake s is);
      within_sres = counted.within_sres;
      within_slim = omega (arith, counted.within_slim, length-set proc.streams n s);
      zeros = zeros-set proc.streams n s (awake-zeros s is) counted.zeros;
    }

-- the counts, where stream n becomes idle
counted_without : (proc : ProcessorValue) (n : ℕ) → IsCounted proc → n < length proc.streams
    → is_idle (stream_at proc.streams n) ≡ false → proc.scur ≡ count_current (set proc.streams n idle) + 1
counted_without proc n counted there was =
    let change = count-set proc.streams n idle there in
    let before = weight_awake (stream_at proc.streams n) was in
    omega (arith, counted.counts, change, before, weight_idle idle refl)

created : (proc : ProcessorValue) (s : StreamValue) → IsCounted proc → (proc.scur == proc.sres) ≡ false
    → is_idle s ≡ false → IsCounted (record (with_stream proc (lowest_idle proc) s) { scur = proc.scur + 1 })
created proc s counted apart is =
    let less : proc.scur < proc.sres =
    omega (arith, counted.within_sres, eqb-false proc.scur proc.sres apart) in
    let there : lowest_idle proc < length proc.streams =
    idle_there proc.streams (omega (arith, counted.counts, counted.within_slim)) in
    let free : is_idle (stream_at proc.streams (lowest_idle proc)) ≡ true =
    passes_at_first is_idle proc.streams idle there in
    let change = count-set proc.streams (lowest_idle proc) s there in
    let before = weight_idle (stream_at proc.streams (lowest_idle proc)) free in
    record {
      counts = omega (arith, counted.counts, change, before, weight_awake s is);
      within_sres = omega arith;
      within_slim = omega (arith, counted.within_slim, length-set proc.streams (lowest_idle proc) s);
      zeros = zeros-set proc.streams (lowest_idle proc) s (awake-zeros s is) counted.zeros;
    }

counted_control : (proc : ProcessorValue) (n grant : ℕ) (c : Control) → IsCounted proc → n < length proc.streams
    → is_idle (stream_at proc.streams n) ≡ false → lacks_stream proc c ≡ false
    → proc.sres + grant ≤ length proc.streams → IsCounted (after_control proc n grant c)
counted_control proc n grant asks.Plain counted there was free fits = counted
counted_control proc n grant (asks.Reserve asked) counted there was free fits = record {
  counts = counted.counts;
  within_sres = omega (arith, counted.within_sres);
  within_slim = fits;
  zeros = counted.zeros;
}
counted_control proc n grant (asks.Create child) counted there was free fits =
    created proc (child_stream child) counted free refl
counted_control proc n grant asks.Quit counted there was free fits =
    let without = counted_without proc n counted there was in
    record {
      counts = omega (arith, without);
      within_sres = omega (arith, counted.within_sres);
      within_slim = omega (arith, counted.within_slim, length-set proc.streams n idle);
      zeros = zeros-set proc.streams n idle (λ e. refl) counted.zeros;
    }
counted_control proc n grant asks.QuitKeep counted there was free fits =
    let without = counted_without proc n counted there was in
    record {
      counts = omega (arith, without);
      within_sres = omega (arith, counted.within_sres);
      within_slim = omega (arith, counted.within_slim, length-set proc.streams n idle);
      zeros = zeros-set proc.streams n idle (λ e. refl) counted.zeros;
    }

counted_if_done : (proc : ProcessorValue) (n grant : ℕ) (c : Control) (o : Outcome) → IsCounted proc
    → n < length proc.streams → is_idle (stream_at proc.streams n) ≡ false → lacks_stream proc c ≡ false
    → proc.sres + grant ≤ length proc.streams → IsCounted (after_control_if_done proc n grant c o)
counted_if_done proc n grant c outcome.Skipped counted there was free fits = counted
counted_if_done proc n grant c outcome.Done counted there was free fits =
    counted_control proc n grant c counted there was free fits
counted_if_done proc n grant c outcome.Blocked counted there was free fits = counted
counted_if_done proc n grant c (outcome.Trapped k) counted there was free fits = counted
counted_if_done proc n grant c (outcome.Stopped k) counted there was free fits = counted

granted_fits : (image : ImageValue) (proc : ProcessorValue) (c : Control) → image.slim ≡ length proc.streams
    → proc.sres ≤ length proc.streams → proc.sres + grant_of image proc c ≤ length proc.streams
granted_fits image proc asks.Plain slim within = omega arith
granted_fits image proc (asks.Reserve n) slim within = omega arith
granted_fits image proc (asks.Create child) slim within = omega arith
granted_fits image proc asks.Quit slim within = omega arith
granted_fits image proc asks.QuitKeep slim within = omega arith

pub lacks-with_stream : (proc : ProcessorValue) (n : ℕ) (s : StreamValue) (c : Control)
    → lacks_stream (with_stream proc n s) c ≡ lacks_stream proc c
lacks-with_stream proc n s asks.Plain = refl
lacks-with_stream proc n s (asks.Reserve k) = refl
lacks-with_stream proc n s (asks.Create child) = refl
lacks-with_stream proc n s asks.Quit = refl
lacks-with_stream proc n s asks.QuitKeep = refl

counted_done : (image : ImageValue) (proc : ProcessorValue) (n : ℕ) (s : StreamValue) (c : Control) (o : Outcome)
    → image.slim ≡ length proc.streams → IsCounted proc → n < length proc.streams
    → is_idle (stream_at proc.streams n) ≡ false → is_idle s ≡ false → lacks_stream proc c ≡ false
    → IsCounted (after_control_if_done (with_stream proc n s) n (grant_of image proc c) c o)
counted_done image proc n s c o slim counted there was is free =
    let same = length-set proc.streams n s in
    let fits = granted_fits image proc c slim counted.within_slim in
    let here : is_idle (stream_at (set proc.streams n s) n) ≡ false =
    ap is_idle (get_or-set_same proc.streams n s idle there) ∙ is in
    counted_if_done (with_stream proc n s) n (grant_of image proc c) c o (counted_with proc n s counted there was is)
    (omega (arith, there, same)) here (lacks-with_stream proc n s c ∙ free) (omega (arith, fits, same))

counted_by : (image : ImageValue) (proc : ProcessorValue) (n : ℕ) (r : Option Reply) (f : Fetch)
    → image.slim ≡ length proc.streams → IsCounted proc → step_fetch_of image proc n ≡ f
    → IsCounted (row_on_fetch image proc n r (stream_at proc.streams n) f).0
counted_by image proc n r fetch.Rest slim counted e = counted
counted_by image proc n r (fetch.Trap k) slim counted e =
    let found = awake image proc n (ap rests e) in
    counted_with proc n (after_trap k 0 (stream_at proc.streams n)).0 counted found.0 found.1
    (awake-trapped k 0 (stream_at proc.streams n) found.1)
counted_by image proc n r (fetch.Instruction i) slim counted e =
    let s = stream_at proc.streams n in
    let c = control_of s i in
    let found = awake image proc n (ap rests e) in
    let after = row_asking image.retry_limit s i (grant_of image proc c) r (request_of s i) in
    counted_done image proc n after.0 c after.1 slim counted found.0 found.1
    (awake-row_asking image.retry_limit s i (grant_of image proc c) r (request_of s i) found.1)
    (free image proc n i e)

-- a step keeps the counts
pub counted_row : (image : ImageValue) (proc : ProcessorValue) (n : ℕ) (r : Option Reply)
    → image.slim ≡ length proc.streams → IsCounted proc → IsCounted (row image proc n r).0
counted_row image proc n r slim counted =
    let P : ProcessorValue × Outcome → Type 0 = λ x. IsCounted x.0 in
    subst P (sym (row_is image proc n r)) (counted_by image proc n r (step_fetch_of image proc n) slim counted refl)

pub counted_row_over_memory : (image : ImageValue) (proc : ProcessorValue) (n : ℕ) (m : TaggedMemory)
    → image.slim ≡ length proc.streams → IsCounted proc → IsCounted (row_over_memory image proc n m).0.0
unfolding row_over_memory
counted_row_over_memory image proc n m slim counted =
    counted_row image proc n (memory_reply m (request image proc n)).1 slim counted

-- The same of the parts of a processor.

pub counted_new : (image : ImageValue) (now old new : ProcessorValue) (n : ℕ) (r : Option Reply) (o : Outcome)
    → old ≡ now → image.slim ≡ length now.streams → IsCounted old → (new, o) ≡ row image old n r → IsCounted new
counted_new image now old new n r o same slim counted stepped =
    let P : ProcessorValue × Outcome → Type 0 = λ x. IsCounted x.0 in
    let as_many = slim ∙ ap (λ (p : ProcessorValue). length p.streams) (sym same) in
    subst P (sym stepped) (counted_row image old n r as_many counted)

pub counted_over : (image : ImageValue) (now old new : ProcessorValue) (n : ℕ) (m after : TaggedMemory) (o : Outcome)
    → old ≡ now → image.slim ≡ length now.streams → IsCounted old → ((new, o), after) ≡ row_over_memory image old n m
    → IsCounted new
counted_over image now old new n m after o same slim counted stepped =
    let P : (ProcessorValue × Outcome) × TaggedMemory → Type 0 = λ x. IsCounted x.0.0 in
    let as_many = slim ∙ ap (λ (p : ProcessorValue). length p.streams) (sym same) in
    subst P (sym stepped) (counted_row_over_memory image old n m as_many counted)
