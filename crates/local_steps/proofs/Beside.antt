-- A step of one stream where another one of its processor, not idle, is another one that is not idle: it is the same
-- step, and that other stream stays.
use Rattle.std.proofs.Common.{◌≡◌, ◌≢◌, ℕ, ◌+◌, ◌-◌, ◌<◌, ◌≤◌, Bool, true, false, refl, sym, ap, ◌∙◌, arith}
use Rattle.std.proofs.Common.{◌⊎◌, inl, inr, if◌then◌else◌, List, length, set, Option, Some, None, slice_get}
use Rattle.std.specs.List.{position_or_len}
use Rattle.std.proofs.lemmas.Bool.{cases_lt}
use Rattle.std.proofs.lemmas.List.{length-set, get_or-set_other, set_comm, get_or_past}
use Rattle.std.proofs.lemmas.List.Folds.{position_or_len-set}
use Rattle.std.proofs.lemmas.List.Sums.{passes_at_first}
use Rattle.std.proofs.lemmas.Option.{slice_get-get_or, slice_get_past}
use Rattle.tag_memory.specs.declared.requests.Reply.{Reply}
use Rattle.tag_memory.specs.Storage.{TaggedMemory}
use Rattle.image_file.specs.ImageValue.{ImageValue}
use Rattle.stream_core.specs.Streams.{StreamValue, idle, after_trap}
use Rattle.stream_core.specs.Children.{child_stream}
use Rattle.stream_core.specs.Effects.{request_of}
use Rattle.stream_core.specs.StreamRow.{control_of, row_asking}
use Rattle.stream_core.specs.declared.traps.TrapKind.TheVariants as kind
use Rattle.stream_core.specs.declared.steps.Outcome.{Outcome}
use Rattle.stream_core.specs.declared.steps.Outcome.TheVariants as outcome
use Rattle.stream_core.specs.declared.steps.Fetch.{Fetch}
use Rattle.stream_core.specs.declared.steps.Fetch.TheVariants as fetch
use Rattle.stream_core.specs.declared.steps.Control.{Control}
use Rattle.stream_core.specs.declared.steps.Control.TheVariants as asks
use Rattle.processor.specs.Processors.{ProcessorValue, is_idle, stream_at}
use Rattle.processor.specs.Row.{lacks_stream, image_fetch, step_fetch_from, step_fetch, step_fetch_at, step_fetch_of}
use Rattle.processor.specs.Row.{request_on_fetch, request, grant_of, with_stream, lowest_idle, after_control}
use Rattle.processor.specs.Row.{after_control_if_done, row_on_fetch, row, memory_reply, row_over_memory}
use Rattle.processor.proofs.Begun.{row_is, request_begun}

-- where a list has its first idle stream, there is none that is not idle
pub never_first : (ss : List StreamValue) (k : ℕ) → is_idle (stream_at ss k) ≡ false → k ≢ position_or_len is_idle ss
never_first ss k here e = by_place (cases_lt k (length ss)) where
  not_both : (b : Bool) → b ≡ true → b ≡ false → ⊥
  not_both true yes_is no_is = cc
  not_both false yes_is no_is = cc

  by_place : (k < length ss) ⊎ (length ss ≤ k) → ⊥
  by_place (inl within) =
      not_both (is_idle (stream_at ss k))
      (ap (λ j. is_idle (stream_at ss j)) e ∙ passes_at_first is_idle ss idle (omega (arith, e, within))) here
  by_place (inr past) = not_both (is_idle (stream_at ss k)) (ap is_idle (get_or_past ss k idle past)) here

pub get_other : (ss : List StreamValue) (k n : ℕ) (x : StreamValue) → n ≢ k → slice_get (set ss k x) n ≡ slice_get ss n
get_other ss k n x apart = by_place (cases_lt n (length ss)) where
  by_place : (n < length ss) ⊎ (length ss ≤ n) → slice_get (set ss k x) n ≡ slice_get ss n
  by_place (inl within) =
      slice_get-get_or (set ss k x) n idle (omega (arith, within, length-set ss k x))
      ∙ ap Some (get_or-set_other ss k n x idle apart)
      ∙ sym (slice_get-get_or ss n idle within)
  by_place (inr past) =
      slice_get_past (set ss k x) n (omega (arith, past, length-set ss k x)) ∙ sym (slice_get_past ss n past)

pub lacks_same : (proc : ProcessorValue) (k : ℕ) (x : StreamValue) (c : Control)
    → lacks_stream (with_stream proc k x) c ≡ lacks_stream proc c
lacks_same proc k x asks.Plain = refl
lacks_same proc k x (asks.Reserve n) = refl
lacks_same proc k x (asks.Create child) = refl
lacks_same proc k x asks.Quit = refl
lacks_same proc k x asks.QuitKeep = refl

fetch_from_same : (proc : ProcessorValue) (k : ℕ) (x s : StreamValue) (f : Fetch)
    → step_fetch_from (with_stream proc k x) s f ≡ step_fetch_from proc s f
fetch_from_same proc k x s fetch.Rest = refl
fetch_from_same proc k x s (fetch.Trap kind) = refl
fetch_from_same proc k x s (fetch.Instruction i) =
    ap (λ b. if b then fetch.Trap kind.Create else fetch.Instruction i) (lacks_same proc k x (control_of s i))

fetch_at_same : (image : ImageValue) (proc : ProcessorValue) (k : ℕ) (x : StreamValue) (o : Option StreamValue)
    → step_fetch_at image (with_stream proc k x) o ≡ step_fetch_at image proc o
unfolding step_fetch
fetch_at_same image proc k x None = refl
fetch_at_same image proc k x (Some s) = fetch_from_same proc k x s (image_fetch image s)

fetch_same : (image : ImageValue) (proc : ProcessorValue) (k n : ℕ) (x : StreamValue) → n ≢ k
    → step_fetch_of image (with_stream proc k x) n ≡ step_fetch_of image proc n
unfolding step_fetch_of
fetch_same image proc k n x apart =
    ap (step_fetch_at image (with_stream proc k x)) (get_other proc.streams k n x apart)
    ∙ fetch_at_same image proc k x (slice_get proc.streams n)

pub grant_same : (image : ImageValue) (proc : ProcessorValue) (k : ℕ) (x : StreamValue) (c : Control)
    → grant_of image (with_stream proc k x) c ≡ grant_of image proc c
grant_same image proc k x asks.Plain = refl
grant_same image proc k x (asks.Reserve n) = refl
grant_same image proc k x (asks.Create child) = refl
grant_same image proc k x asks.Quit = refl
grant_same image proc k x asks.QuitKeep = refl

-- Stream k of the processor is not idle, and another one in its place is not either.
module _ (proc : ProcessorValue) (k n : ℕ) (x : StreamValue) (apart : n ≢ k)
    (here : is_idle (stream_at proc.streams k) ≡ false) (new : is_idle x ≡ false) where
  -- what a step of stream n leaves, with the other stream in place
  abbrev beside : ProcessorValue × Outcome → ProcessorValue × Outcome
  beside e = (with_stream e.0 k x, e.1)

  both : (s : StreamValue) → set (set proc.streams k x) n s ≡ set (set proc.streams n s) k x
  both s = set_comm proc.streams k n x s (λ e. apart (sym e))

  lowest : (s : StreamValue) → lowest_idle (with_stream (with_stream proc k x) n s) ≡ lowest_idle (with_stream proc n s)
  lowest s =
      ap (position_or_len is_idle) (both s)
      ∙ position_or_len-set is_idle (set proc.streams n s) k x idle
      (new ∙ sym here ∙ ap is_idle (sym (get_or-set_other proc.streams n k s idle (λ e. apart (sym e)))))

  -- the other stream is still not idle
  still : (s : StreamValue) → is_idle (stream_at (set proc.streams n s) k) ≡ false
  still s = ap is_idle (get_or-set_other proc.streams n k s idle (λ e. apart (sym e))) ∙ here

  with_child : (s child : StreamValue)
      → set (set (set proc.streams k x) n s) (lowest_idle (with_stream (with_stream proc k x) n s)) child
      ≡ set (set (set proc.streams n s) (lowest_idle (with_stream proc n s)) child) k x
  with_child s child =
      let j = lowest_idle (with_stream proc n s) in
      ap (λ m. set (set (set proc.streams k x) n s) m child) (lowest s)
      ∙ ap (λ ss. set ss j child) (both s)
      ∙ set_comm (set proc.streams n s) k j x child (never_first (set proc.streams n s) k (still s))

  ended : (s : StreamValue) → set (set (set proc.streams k x) n s) n idle ≡ set (set (set proc.streams n s) n idle) k x
  ended s =
      ap (λ ss. set ss n idle) (both s)
      ∙ set_comm (set proc.streams n s) k n x idle (λ e. apart (sym e))

  control_beside : (s : StreamValue) (grant : ℕ) (c : Control)
      → after_control (with_stream (with_stream proc k x) n s) n grant c
      ≡ with_stream (after_control (with_stream proc n s) n grant c) k x
  control_beside s grant asks.Plain = λ i. record { streams = both s i; scur = proc.scur; sres = proc.sres }
  control_beside s grant (asks.Reserve m) =
      λ i. record { streams = both s i; scur = proc.scur; sres = proc.sres + grant }
  control_beside s grant (asks.Create child) =
      λ i. record { streams = with_child s (child_stream child) i; scur = proc.scur + 1; sres = proc.sres }
  control_beside s grant asks.Quit =
      λ i. record { streams = ended s i; scur = proc.scur - 1; sres = proc.sres - 1 }
  control_beside s grant asks.QuitKeep =
      λ i. record { streams = ended s i; scur = proc.scur - 1; sres = proc.sres }

  put_beside : (s : StreamValue) → with_stream (with_stream proc k x) n s ≡ with_stream (with_stream proc n s) k x
  put_beside s = λ i. record { streams = both s i; scur = proc.scur; sres = proc.sres }

  done_beside : (s : StreamValue) (grant : ℕ) (c : Control) (o : Outcome)
      → after_control_if_done (with_stream (with_stream proc k x) n s) n grant c o
      ≡ with_stream (after_control_if_done (with_stream proc n s) n grant c o) k x
  done_beside s grant c outcome.Skipped = put_beside s
  done_beside s grant c outcome.Done = control_beside s grant c
  done_beside s grant c outcome.Blocked = put_beside s
  done_beside s grant c (outcome.Trapped kind) = put_beside s
  done_beside s grant c (outcome.Stopped kind) = put_beside s

  -- what a step leaves that began so
  fetch_beside : (image : ImageValue) (r : Option Reply) (s : StreamValue) (f : Fetch)
      → row_on_fetch image (with_stream proc k x) n r s f ≡ beside (row_on_fetch image proc n r s f)
  fetch_beside image r s fetch.Rest = refl
  fetch_beside image r s (fetch.Trap kind) = ap (λ p. (p, (after_trap kind 0 s).1)) (put_beside (after_trap kind 0 s).0)
  fetch_beside image r s (fetch.Instruction i) =
      let c = control_of s i in
      let by : ℕ → ProcessorValue × Outcome =
      λ g. (let e = row_asking image.retry_limit s i g r (request_of s i) in
      (after_control_if_done (with_stream (with_stream proc k x) n e.0) n g c e.1, e.1)) in
      let grant = grant_of image proc c in
      let e = row_asking image.retry_limit s i grant r (request_of s i) in
      ap by (grant_same image proc k x c) ∙ ap (λ p. (p, e.1)) (done_beside e.0 grant c e.1)

  pub row_beside : (image : ImageValue) (r : Option Reply)
      → row image (with_stream proc k x) n r ≡ beside (row image proc n r)
  row_beside image r =
      row_is image (with_stream proc k x) n r
      ∙ (λ i. row_on_fetch image (with_stream proc k x) n r (get_or-set_other proc.streams k n x idle apart i)
      (fetch_same image proc k n x apart i))
      ∙ fetch_beside image r (stream_at proc.streams n) (step_fetch_of image proc n)
      ∙ ap beside (sym (row_is image proc n r))

  request_same : (image : ImageValue) → request image (with_stream proc k x) n ≡ request image proc n
  request_same image =
      request_begun image (with_stream proc k x) n (step_fetch_of image (with_stream proc k x) n) refl
      ∙ (λ i. request_on_fetch (get_or-set_other proc.streams k n x idle apart i) (fetch_same image proc k n x apart i))
      ∙ sym (request_begun image proc n (step_fetch_of image proc n) refl)

  pub over_memory_beside : (image : ImageValue) (m : TaggedMemory)
      → row_over_memory image (with_stream proc k x) n m
      ≡ (beside (row_over_memory image proc n m).0, (row_over_memory image proc n m).1)
  unfolding row_over_memory
  over_memory_beside image m =
      let e = memory_reply m (request image proc n) in
      (λ i. (
        row image (with_stream proc k x) n (memory_reply m (request_same image i)).1,
        (memory_reply m (request_same image i)).0,
      ))
      ∙ ap (λ p. (p, e.0)) (row_beside image e.1)
