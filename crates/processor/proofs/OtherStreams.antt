-- A step keeps the other streams.
use Rattle.std.proofs.Common.{◌≡◌, ◌≢◌, ℕ, ◌+◌, ◌⊎◌, inl, inr, false, refl, sym, ap, ◌∙◌}
use Rattle.std.proofs.Common.{subst, arith, set, Option}
use Rattle.std.proofs.lemmas.Bool.{cases_lt}
use Rattle.std.proofs.lemmas.List.{length-set, get_or-set_other}
use Rattle.std.proofs.lemmas.List.Folds.{position_or_len-set}
use Rattle.tag_memory.specs.declared.requests.Reply.{Reply}
use Rattle.tag_memory.specs.Storage.{TaggedMemory}
use Rattle.image_file.specs.ImageValue.{ImageValue}
use Rattle.stream_core.specs.Streams.{StreamValue, idle, after_trap}
use Rattle.stream_core.specs.Children.{child_stream}
use Rattle.stream_core.specs.Effects.{request_of}
use Rattle.stream_core.specs.StreamRow.{control_of, row_asking}
use Rattle.stream_core.specs.declared.steps.Outcome.{Outcome}
use Rattle.stream_core.specs.declared.steps.Outcome.TheVariants as outcome
use Rattle.stream_core.specs.declared.steps.Fetch.{Fetch}
use Rattle.stream_core.specs.declared.steps.Fetch.TheVariants as fetch
use Rattle.stream_core.specs.declared.steps.Control.{Control}
use Rattle.stream_core.specs.declared.steps.Control.TheVariants as asks
use Rattle.processor.specs.Processors.{ProcessorValue, is_idle, stream_at}
use Rattle.processor.specs.Row.{step_fetch_of, grant_of, with_stream, lowest_idle, after_control, after_control_if_done, row_on_fetch, row}
use Rattle.processor.specs.Row.{request, memory_reply, row_over_memory}
use Rattle.processor.specs.OtherStreams.{IsStarted, KeepsOthers}
use Rattle.processor.proofs.Begun.{rests, awake, row_is}
use Rattle.processor.proofs.Awake.{awake-row_asking}

kept_same : (n : ℕ) (proc : ProcessorValue) → KeepsOthers n proc proc
kept_same n proc = record { as_many = refl; others = λ k apart. inl refl }

-- a write to stream n
kept_with : (n : ℕ) (proc : ProcessorValue) (s : StreamValue) (scur sres : ℕ)
    → KeepsOthers n proc (record { streams = set proc.streams n s; scur = scur; sres = sres })
kept_with n proc s scur sres = record {
  as_many = length-set proc.streams n s;
  others = λ k apart. inl (get_or-set_other proc.streams n k s idle apart);
}

kept_twice : (n : ℕ) (proc : ProcessorValue) (s t : StreamValue) (scur sres : ℕ)
    → KeepsOthers n proc (record { streams = set (set proc.streams n s) n t; scur = scur; sres = sres })
kept_twice n proc s t scur sres = record {
  as_many = length-set (set proc.streams n s) n t ∙ length-set proc.streams n s;
  others = λ k apart. inl (get_or-set_other (set proc.streams n s) n k t idle apart
      ∙ get_or-set_other proc.streams n k s idle apart);
}

same_or_other : (k j : ℕ) → (k ≢ j) ⊎ (k ≡ j)
same_or_other k j = elim (cases_lt k j) [
  | inl below ↦ inl (λ e. omega arith)
  | inr above ↦ elim (cases_lt j k) [ inl less ↦ inl (λ e. omega arith) | inr most ↦ inr (omega arith) ]
]

started : (n j : ℕ) (proc : ProcessorValue) (s t : StreamValue) (sres : ℕ) → j ≡ lowest_idle proc
    → (k : ℕ) → (k ≢ n)
    → (stream_at (set (set proc.streams n s) j t) k ≡ stream_at proc.streams k)
    ⊎ IsStarted proc (record {
      streams = set (set proc.streams n s) j t;
      scur = proc.scur + 1;
      sres = sres;
    }) k
started n j proc s t sres is k apart = elim (same_or_other k j) [
  | inl other ↦ inl (get_or-set_other (set proc.streams n s) j k t idle other
      ∙ get_or-set_other proc.streams n k s idle apart)
  | inr same ↦ inr (same ∙ is, refl)
]

-- the lowest idle stream is the same after a step of another
lowest_same : (proc : ProcessorValue) (n : ℕ) (s : StreamValue) → is_idle (stream_at proc.streams n) ≡ false
    → is_idle s ≡ false → lowest_idle (with_stream proc n s) ≡ lowest_idle proc
lowest_same proc n s was is = position_or_len-set is_idle proc.streams n s idle (is ∙ sym was)

kept_control : (n grant : ℕ) (proc : ProcessorValue) (s : StreamValue) (c : Control)
    → is_idle (stream_at proc.streams n) ≡ false → is_idle s ≡ false
    → KeepsOthers n proc (after_control (with_stream proc n s) n grant c)
kept_control n grant proc s asks.Plain was is = kept_with n proc s proc.scur proc.sres
kept_control n grant proc s (asks.Reserve k) was is = kept_with n proc s proc.scur (proc.sres + grant)
kept_control n grant proc s (asks.Create child) was is =
    let j = lowest_idle (with_stream proc n s) in
    record {
      as_many = length-set (set proc.streams n s) j (child_stream child) ∙ length-set proc.streams n s;
      others = started n j proc s (child_stream child) proc.sres (lowest_same proc n s was is);
    }
kept_control n grant proc s asks.Quit was is = kept_twice n proc s idle _ _
kept_control n grant proc s asks.QuitKeep was is = kept_twice n proc s idle _ _

kept_if_done : (n grant : ℕ) (proc : ProcessorValue) (s : StreamValue) (c : Control) (o : Outcome)
    → is_idle (stream_at proc.streams n) ≡ false → is_idle s ≡ false
    → KeepsOthers n proc (after_control_if_done (with_stream proc n s) n grant c o)
kept_if_done n grant proc s c outcome.Skipped was is = kept_with n proc s proc.scur proc.sres
kept_if_done n grant proc s c outcome.Done was is = kept_control n grant proc s c was is
kept_if_done n grant proc s c outcome.Blocked was is = kept_with n proc s proc.scur proc.sres
kept_if_done n grant proc s c (outcome.Trapped k) was is = kept_with n proc s proc.scur proc.sres
kept_if_done n grant proc s c (outcome.Stopped k) was is = kept_with n proc s proc.scur proc.sres

kept_by : (image : ImageValue) (proc : ProcessorValue) (n : ℕ) (r : Option Reply) (f : Fetch)
    → step_fetch_of image proc n ≡ f → KeepsOthers n proc (row_on_fetch image proc n r (stream_at proc.streams n) f).0
kept_by image proc n r fetch.Rest e = kept_same n proc
kept_by image proc n r (fetch.Trap k) e =
    kept_with n proc (after_trap k 0 (stream_at proc.streams n)).0 proc.scur proc.sres
kept_by image proc n r (fetch.Instruction i) e =
    let s = stream_at proc.streams n in
    let c = control_of s i in
    let found = awake image proc n (ap rests e) in
    let after = row_asking image.retry_limit s i (grant_of image proc c) r (request_of s i) in
    kept_if_done n (grant_of image proc c) proc after.0 c after.1 found.1
    (awake-row_asking image.retry_limit s i (grant_of image proc c) r (request_of s i) found.1)

pub kept_row : (image : ImageValue) (proc : ProcessorValue) (n : ℕ) (r : Option Reply)
    → KeepsOthers n proc (row image proc n r).0
kept_row image proc n r =
    let P : ProcessorValue × Outcome → Type 0 = λ x. KeepsOthers n proc x.0 in
    subst P (sym (row_is image proc n r)) (kept_by image proc n r (step_fetch_of image proc n) refl)

pub kept_row_over_memory : (image : ImageValue) (proc : ProcessorValue) (n : ℕ) (m : TaggedMemory)
    → KeepsOthers n proc (row_over_memory image proc n m).0.0
unfolding row_over_memory
kept_row_over_memory image proc n m = kept_row image proc n (memory_reply m (request image proc n)).1

-- The same of the parts of a processor.

pub kept_new : (image : ImageValue) (now old new : ProcessorValue) (n : ℕ) (r : Option Reply) (o : Outcome)
    → old ≡ now → (new, o) ≡ row image old n r → KeepsOthers n now new
kept_new image now old new n r o same stepped =
    let P : ProcessorValue × Outcome → Type 0 = λ x. KeepsOthers n now x.0 in
    subst P (sym (stepped ∙ ap (λ p. row image p n r) same)) (kept_row image now n r)

pub kept_over : (image : ImageValue) (now old new : ProcessorValue) (n : ℕ) (m after : TaggedMemory) (o : Outcome)
    → old ≡ now → ((new, o), after) ≡ row_over_memory image old n m → KeepsOthers n now new
kept_over image now old new n m after o same stepped =
    let P : (ProcessorValue × Outcome) × TaggedMemory → Type 0 = λ x. KeepsOthers n now x.0.0 in
    subst P (sym (stepped ∙ ap (λ p. row_over_memory image p n m) same)) (kept_row_over_memory image now n m)
